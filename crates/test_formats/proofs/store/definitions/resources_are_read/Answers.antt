use Rattle.std.proofs.Common.{refl}
use Rattle.heap_model.specs.Bytes.{u16_at, u24_at, u32_at, u16_bytes, u24_bytes, u32_bytes, overwritten}
use Rattle.heap_model.specs.Slots.{slots_of, further_tables}
use Rattle.heap_model.specs.Reading.{chunk_at, chunks_from, chunks_of, held, is_accepted}
use Rattle.heap_model.specs.Database.{name_field, header_bytes, entry_bytes, spelled, name_in, header_in, database_in}
use Rattle.heap_model.specs.Store.{bytes_under, owner_under, directory_bytes, listed, databases, named}
use Rattle.test_formats.proofs.store.definitions.resources_are_read.Goals as goal

pub returns-clause-accepted : goal.returns-clause-accepted
unfolding u16_at u24_at u32_at u16_bytes u24_bytes u32_bytes overwritten slots_of further_tables chunk_at chunks_from chunks_of held is_accepted name_field header_bytes entry_bytes spelled name_in header_in database_in bytes_under owner_under directory_bytes listed databases named
returns-clause-accepted c = refl

pub returns-clause-entries : goal.returns-clause-entries
unfolding u16_at u24_at u32_at u16_bytes u24_bytes u32_bytes overwritten slots_of further_tables chunk_at chunks_from chunks_of held is_accepted name_field header_bytes entry_bytes spelled name_in header_in database_in bytes_under owner_under directory_bytes listed databases named
returns-clause-entries c = refl

pub returns-clause-attributes : goal.returns-clause-attributes
unfolding u16_at u24_at u32_at u16_bytes u24_bytes u32_bytes overwritten slots_of further_tables chunk_at chunks_from chunks_of held is_accepted name_field header_bytes entry_bytes spelled name_in header_in database_in bytes_under owner_under directory_bytes listed databases named
returns-clause-attributes c = refl

pub returns-clause-data : goal.returns-clause-data
unfolding u16_at u24_at u32_at u16_bytes u24_bytes u32_bytes overwritten slots_of further_tables chunk_at chunks_from chunks_of held is_accepted name_field header_bytes entry_bytes spelled name_in header_in database_in bytes_under owner_under directory_bytes listed databases named
returns-clause-data c = refl

pub returns-clause-content : goal.returns-clause-content
unfolding u16_at u24_at u32_at u16_bytes u24_bytes u32_bytes overwritten slots_of further_tables chunk_at chunks_from chunks_of held is_accepted name_field header_bytes entry_bytes spelled name_in header_in database_in bytes_under owner_under directory_bytes listed databases named
returns-clause-content c = refl

pub returns-clause-no_block : goal.returns-clause-no_block
unfolding u16_at u24_at u32_at u16_bytes u24_bytes u32_bytes overwritten slots_of further_tables chunk_at chunks_from chunks_of held is_accepted name_field header_bytes entry_bytes spelled name_in header_in database_in bytes_under owner_under directory_bytes listed databases named
returns-clause-no_block c = refl
