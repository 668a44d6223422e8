use Rattle.std.proofs.Common.{refl, rules}
use Rattle.heap_model.specs.Bytes.{u16_at, u24_at, u32_at, u16_bytes, u24_bytes, u32_bytes}
use Rattle.heap_model.specs.Database.{name_field, header_bytes, entry_bytes, spelled, name_in, header_in, database_in}
use Rattle.heap_model.specs.Files.{file_of}
use Rattle.test_formats.proofs.store.files.files_are_read.Goals as goal

pub returns-clause-empty : goal.returns-clause-empty
unfolding u16_at u24_at u32_at u16_bytes u24_bytes u32_bytes name_field header_bytes entry_bytes spelled name_in header_in database_in file_of
returns-clause-empty c = record { good = search rules; last_seed = 0; ids = search rules; header = refl; entries = search rules; blocks = refl }

pub returns-clause-order : goal.returns-clause-order
unfolding u16_at u24_at u32_at u16_bytes u24_bytes u32_bytes name_field header_bytes entry_bytes spelled name_in header_in database_in file_of
returns-clause-order c = record { good = search rules; last_seed = 2; ids = search rules; header = refl; entries = search rules; blocks = refl }
