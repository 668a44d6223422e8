use Rattle.std.proofs.Common.{refl}
use Rattle.heap_model.specs.Bytes.{u16_at, u24_at, u32_at, u16_bytes, u24_bytes, u32_bytes}
use Rattle.heap_model.specs.Database.{name_field, header_bytes, entry_bytes, spelled, name_in, header_in, database_in}
use Rattle.heap_model.specs.Files.{file_of}
use Rattle.test_formats.proofs.store.files.resources_are_written.Goals as goal

pub returns : goal.returns
unfolding u16_at u24_at u32_at u16_bytes u24_bytes u32_bytes name_field header_bytes entry_bytes spelled name_in header_in database_in file_of
returns c = refl
