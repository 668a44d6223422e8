use Rattle.std.proofs.Common.{refl}
use Rattle.heap_model.specs.Bytes.{u16_at, u24_at, u32_at, u16_bytes, u24_bytes, u32_bytes}
use Rattle.heap_model.specs.Database.{name_field, header_bytes, entry_bytes, spelled, name_in, header_in, database_in}
use Rattle.heap_model.specs.Files.{file_of}
use Rattle.test_formats.proofs.store.files.blocks_are_read.Goals as goal

pub returns-clause-none : goal.returns-clause-none
unfolding u16_at u24_at u32_at u16_bytes u24_bytes u32_bytes name_field header_bytes entry_bytes spelled name_in header_in database_in file_of
returns-clause-none c = refl

pub returns-clause-order : goal.returns-clause-order
unfolding u16_at u24_at u32_at u16_bytes u24_bytes u32_bytes name_field header_bytes entry_bytes spelled name_in header_in database_in file_of
returns-clause-order c = refl

pub returns-clause-end : goal.returns-clause-end
unfolding u16_at u24_at u32_at u16_bytes u24_bytes u32_bytes name_field header_bytes entry_bytes spelled name_in header_in database_in file_of
returns-clause-end c = refl

pub returns-clause-resources : goal.returns-clause-resources
unfolding u16_at u24_at u32_at u16_bytes u24_bytes u32_bytes name_field header_bytes entry_bytes spelled name_in header_in database_in file_of
returns-clause-resources c = refl

pub returns-clause-none_empty : goal.returns-clause-none_empty
unfolding u16_at u24_at u32_at u16_bytes u24_bytes u32_bytes name_field header_bytes entry_bytes spelled name_in header_in database_in file_of
returns-clause-none_empty c = refl

pub returns-clause-odd : goal.returns-clause-odd
unfolding u16_at u24_at u32_at u16_bytes u24_bytes u32_bytes name_field header_bytes entry_bytes spelled name_in header_in database_in file_of
returns-clause-odd c = refl

pub returns-clause-apart : goal.returns-clause-apart
unfolding u16_at u24_at u32_at u16_bytes u24_bytes u32_bytes name_field header_bytes entry_bytes spelled name_in header_in database_in file_of
returns-clause-apart c = refl
