use Rattle.std.proofs.Common.{refl}
use Rattle.heap_model.specs.Bytes.{u16_at, u24_at, u32_at, u16_bytes, u24_bytes, u32_bytes, overwritten}
use Rattle.heap_model.specs.Slots.{slots_of, further_tables}
use Rattle.heap_model.specs.Reading.{chunk_at, chunks_from, chunks_of, held, is_accepted}
use Rattle.heap_model.specs.Database.{name_field, header_bytes, entry_bytes, spelled, name_in, header_in, database_in}
use Rattle.heap_model.specs.Store.{bytes_under, owner_under, directory_bytes, listed, databases, named}
use Rattle.test_formats.proofs.store.definitions.parts_break_together.Goals as goal

pub returns-clause-directory_lists_itself : goal.returns-clause-directory_lists_itself
unfolding u16_at u24_at u32_at u16_bytes u24_bytes u32_bytes overwritten slots_of further_tables chunk_at chunks_from chunks_of held is_accepted name_field header_bytes entry_bytes spelled name_in header_in database_in bytes_under owner_under directory_bytes listed databases named
returns-clause-directory_lists_itself c = refl

pub returns-clause-an_entry_too_many : goal.returns-clause-an_entry_too_many
unfolding u16_at u24_at u32_at u16_bytes u24_bytes u32_bytes overwritten slots_of further_tables chunk_at chunks_from chunks_of held is_accepted name_field header_bytes entry_bytes spelled name_in header_in database_in bytes_under owner_under directory_bytes listed databases named
returns-clause-an_entry_too_many c = refl

pub returns-clause-data_is_a_header : goal.returns-clause-data_is_a_header
unfolding u16_at u24_at u32_at u16_bytes u24_bytes u32_bytes overwritten slots_of further_tables chunk_at chunks_from chunks_of held is_accepted name_field header_bytes entry_bytes spelled name_in header_in database_in bytes_under owner_under directory_bytes listed databases named
returns-clause-data_is_a_header c = refl

pub returns-clause-no_data : goal.returns-clause-no_data
unfolding u16_at u24_at u32_at u16_bytes u24_bytes u32_bytes overwritten slots_of further_tables chunk_at chunks_from chunks_of held is_accepted name_field header_bytes entry_bytes spelled name_in header_in database_in bytes_under owner_under directory_bytes listed databases named
returns-clause-no_data c = refl

pub returns-clause-no_directory : goal.returns-clause-no_directory
unfolding u16_at u24_at u32_at u16_bytes u24_bytes u32_bytes overwritten slots_of further_tables chunk_at chunks_from chunks_of held is_accepted name_field header_bytes entry_bytes spelled name_in header_in database_in bytes_under owner_under directory_bytes listed databases named
returns-clause-no_directory c = refl

pub returns-clause-listed_twice : goal.returns-clause-listed_twice
unfolding u16_at u24_at u32_at u16_bytes u24_bytes u32_bytes overwritten slots_of further_tables chunk_at chunks_from chunks_of held is_accepted name_field header_bytes entry_bytes spelled name_in header_in database_in bytes_under owner_under directory_bytes listed databases named
returns-clause-listed_twice c = refl
