use Rattle.std.proofs.Common.{refl}
use Rattle.heap_model.specs.Bytes.{u16_at, u24_at, u32_at, u16_bytes, u24_bytes, u32_bytes, overwritten}
use Rattle.heap_model.specs.Slots.{slots_of, further_tables}
use Rattle.heap_model.specs.Reading.{chunk_at, chunks_from, chunks_of, held, is_accepted}
use Rattle.heap_model.specs.Database.{name_field, header_bytes, entry_bytes, spelled, name_in, header_in, database_in}
use Rattle.heap_model.specs.Store.{bytes_under, owner_under, directory_bytes, listed, databases, named}
use Rattle.test_formats.proofs.store.definitions.two_databases_are_read.Goals as goal

pub returns-clause-accepted : goal.returns-clause-accepted
unfolding u16_at u24_at u32_at u16_bytes u24_bytes u32_bytes overwritten slots_of further_tables chunk_at chunks_from chunks_of held is_accepted name_field header_bytes entry_bytes spelled name_in header_in database_in bytes_under owner_under directory_bytes listed databases named
returns-clause-accepted c = refl

pub returns-clause-names : goal.returns-clause-names
unfolding u16_at u24_at u32_at u16_bytes u24_bytes u32_bytes overwritten slots_of further_tables chunk_at chunks_from chunks_of held is_accepted name_field header_bytes entry_bytes spelled name_in header_in database_in bytes_under owner_under directory_bytes listed databases named
returns-clause-names c = refl

pub returns-clause-other_order : goal.returns-clause-other_order
unfolding u16_at u24_at u32_at u16_bytes u24_bytes u32_bytes overwritten slots_of further_tables chunk_at chunks_from chunks_of held is_accepted name_field header_bytes entry_bytes spelled name_in header_in database_in bytes_under owner_under directory_bytes listed databases named
returns-clause-other_order c = refl

pub returns-clause-none : goal.returns-clause-none
unfolding u16_at u24_at u32_at u16_bytes u24_bytes u32_bytes overwritten slots_of further_tables chunk_at chunks_from chunks_of held is_accepted name_field header_bytes entry_bytes spelled name_in header_in database_in bytes_under owner_under directory_bytes listed databases named
returns-clause-none c = refl
