use Rattle.std.proofs.Common.{refl}
use Rattle.heap_model.specs.Bytes.{u16_at, u24_at, u32_at, u16_bytes, u24_bytes, u32_bytes, overwritten}
use Rattle.heap_model.specs.Slots.{slots_of, further_tables}
use Rattle.heap_model.specs.Reading.{chunk_at, chunks_from, chunks_of, held, is_accepted}
use Rattle.heap_model.specs.Database.{name_field, header_bytes, entry_bytes, spelled, name_in, header_in, database_in}
use Rattle.heap_model.specs.Store.{bytes_under, owner_under, directory_bytes, listed, databases, named}
use Rattle.test_formats.proofs.store.definitions.parts_break_alone.Goals as goal

pub returns-clause-half_a_word : goal.returns-clause-half_a_word
unfolding u16_at u24_at u32_at u16_bytes u24_bytes u32_bytes overwritten slots_of further_tables chunk_at chunks_from chunks_of held is_accepted name_field header_bytes entry_bytes spelled name_in header_in database_in bytes_under owner_under directory_bytes listed databases named
returns-clause-half_a_word c = refl

pub returns-clause-header_of_owner_1 : goal.returns-clause-header_of_owner_1
unfolding u16_at u24_at u32_at u16_bytes u24_bytes u32_bytes overwritten slots_of further_tables chunk_at chunks_from chunks_of held is_accepted name_field header_bytes entry_bytes spelled name_in header_in database_in bytes_under owner_under directory_bytes listed databases named
returns-clause-header_of_owner_1 c = refl

pub returns-clause-no_name : goal.returns-clause-no_name
unfolding u16_at u24_at u32_at u16_bytes u24_bytes u32_bytes overwritten slots_of further_tables chunk_at chunks_from chunks_of held is_accepted name_field header_bytes entry_bytes spelled name_in header_in database_in bytes_under owner_under directory_bytes listed databases named
returns-clause-no_name c = refl

pub returns-clause-name_of_32_bytes : goal.returns-clause-name_of_32_bytes
unfolding u16_at u24_at u32_at u16_bytes u24_bytes u32_bytes overwritten slots_of further_tables chunk_at chunks_from chunks_of held is_accepted name_field header_bytes entry_bytes spelled name_in header_in database_in bytes_under owner_under directory_bytes listed databases named
returns-clause-name_of_32_bytes c = refl

pub returns-clause-byte_behind_name : goal.returns-clause-byte_behind_name
unfolding u16_at u24_at u32_at u16_bytes u24_bytes u32_bytes overwritten slots_of further_tables chunk_at chunks_from chunks_of held is_accepted name_field header_bytes entry_bytes spelled name_in header_in database_in bytes_under owner_under directory_bytes listed databases named
returns-clause-byte_behind_name c = refl

pub returns-clause-chained_list : goal.returns-clause-chained_list
unfolding u16_at u24_at u32_at u16_bytes u24_bytes u32_bytes overwritten slots_of further_tables chunk_at chunks_from chunks_of held is_accepted name_field header_bytes entry_bytes spelled name_in header_in database_in bytes_under owner_under directory_bytes listed databases named
returns-clause-chained_list c = refl

pub returns-clause-info_is_a_header : goal.returns-clause-info_is_a_header
unfolding u16_at u24_at u32_at u16_bytes u24_bytes u32_bytes overwritten slots_of further_tables chunk_at chunks_from chunks_of held is_accepted name_field header_bytes entry_bytes spelled name_in header_in database_in bytes_under owner_under directory_bytes listed databases named
returns-clause-info_is_a_header c = refl

pub returns-clause-data_of_owner_1 : goal.returns-clause-data_of_owner_1
unfolding u16_at u24_at u32_at u16_bytes u24_bytes u32_bytes overwritten slots_of further_tables chunk_at chunks_from chunks_of held is_accepted name_field header_bytes entry_bytes spelled name_in header_in database_in bytes_under owner_under directory_bytes listed databases named
returns-clause-data_of_owner_1 c = refl

pub returns-clause-id_is_zero : goal.returns-clause-id_is_zero
unfolding u16_at u24_at u32_at u16_bytes u24_bytes u32_bytes overwritten slots_of further_tables chunk_at chunks_from chunks_of held is_accepted name_field header_bytes entry_bytes spelled name_in header_in database_in bytes_under owner_under directory_bytes listed databases named
returns-clause-id_is_zero c = refl

pub returns-clause-id_is_anothers : goal.returns-clause-id_is_anothers
unfolding u16_at u24_at u32_at u16_bytes u24_bytes u32_bytes overwritten slots_of further_tables chunk_at chunks_from chunks_of held is_accepted name_field header_bytes entry_bytes spelled name_in header_in database_in bytes_under owner_under directory_bytes listed databases named
returns-clause-id_is_anothers c = refl

pub returns-clause-name_is_anothers : goal.returns-clause-name_is_anothers
unfolding u16_at u24_at u32_at u16_bytes u24_bytes u32_bytes overwritten slots_of further_tables chunk_at chunks_from chunks_of held is_accepted name_field header_bytes entry_bytes spelled name_in header_in database_in bytes_under owner_under directory_bytes listed databases named
returns-clause-name_is_anothers c = refl

pub returns-clause-data_is_shared : goal.returns-clause-data_is_shared
unfolding u16_at u24_at u32_at u16_bytes u24_bytes u32_bytes overwritten slots_of further_tables chunk_at chunks_from chunks_of held is_accepted name_field header_bytes entry_bytes spelled name_in header_in database_in bytes_under owner_under directory_bytes listed databases named
returns-clause-data_is_shared c = refl

pub returns-clause-data_is_stray : goal.returns-clause-data_is_stray
unfolding u16_at u24_at u32_at u16_bytes u24_bytes u32_bytes overwritten slots_of further_tables chunk_at chunks_from chunks_of held is_accepted name_field header_bytes entry_bytes spelled name_in header_in database_in bytes_under owner_under directory_bytes listed databases named
returns-clause-data_is_stray c = refl

pub returns-clause-header_is_stray : goal.returns-clause-header_is_stray
unfolding u16_at u24_at u32_at u16_bytes u24_bytes u32_bytes overwritten slots_of further_tables chunk_at chunks_from chunks_of held is_accepted name_field header_bytes entry_bytes spelled name_in header_in database_in bytes_under owner_under directory_bytes listed databases named
returns-clause-header_is_stray c = refl
