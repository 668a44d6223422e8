use Rattle.std.proofs.Common.{refl, arith, ◌++◌, [], ◌∷◌}
use Rattle.heap_model.specs.Bytes.{u16_at, u32_at, u32_bytes}
use Rattle.heap_model.specs.Chunk.{seen}
use Rattle.heap_model.specs.Slots.{slots_of, further_tables}
use Rattle.heap_model.specs.Reading.{chunk_at, chunks_from, chunks_of, held, is_accepted}
use Rattle.heap_model.specs.MoreTables.{gained}
use Rattle.laws_heap.proofs.Accepted.{Decides-accepted}
use Rattle.test_chains.specs.ChainedImages.{room_for_table, new_table, table_added, table_in_front, smaller_table}
use Rattle.test_chains.proofs.Tried.{other_place, other_count}
use Rattle.test_chains.proofs.added.table_is_gained.Goals as goal

pub returns-clause-holds : goal.returns-clause-holds
unfolding u16_at u32_at u32_bytes seen slots_of further_tables chunk_at chunks_from chunks_of held is_accepted
returns-clause-holds c = record {
  accepted = (Decides-accepted table_added).0 refl;
  len = refl;
  directory = refl;
  chained = refl;
  count = refl;
  further = refl;
  empty = (refl, (refl, (refl, (refl, (refl, (refl, (refl, (refl, (refl, (refl, (refl, (refl, (refl, (refl, (refl, tt)))))))))))))));
}

pub returns-clause-not_another : goal.returns-clause-not_another
unfolding u16_at u32_at u32_bytes seen slots_of further_tables chunk_at chunks_from chunks_of held is_accepted
returns-clause-not_another c = λ g. other_place (further_tables table_added) (further_tables room_for_table ++ gained 32 ∷ []) 1 (λ e. omega arith) g.further

pub returns-clause-not_in_front : goal.returns-clause-not_in_front
unfolding u16_at u32_at u32_bytes seen slots_of further_tables chunk_at chunks_from chunks_of held is_accepted
returns-clause-not_in_front c = λ g. other_place (further_tables table_in_front) (further_tables room_for_table ++ gained 48 ∷ []) 0 (λ e. omega arith) g.further

pub returns-clause-not_smaller : goal.returns-clause-not_smaller
unfolding u16_at u32_at u32_bytes seen slots_of further_tables chunk_at chunks_from chunks_of held is_accepted
returns-clause-not_smaller c = λ g. other_count (further_tables smaller_table) (further_tables room_for_table ++ gained 48 ∷ []) 1 (λ e. omega arith) g.further

pub returns-clause-not_in_chain : goal.returns-clause-not_in_chain
unfolding u16_at u32_at u32_bytes seen slots_of further_tables chunk_at chunks_from chunks_of held is_accepted
returns-clause-not_in_chain c = λ g. other_place (further_tables new_table) (further_tables room_for_table ++ gained 48 ∷ []) 1 (λ e. omega arith) g.further

pub returns-clause-not_again : goal.returns-clause-not_again
unfolding u16_at u32_at u32_bytes seen slots_of further_tables chunk_at chunks_from chunks_of held is_accepted
returns-clause-not_again c = λ g. other_place (further_tables table_added) (further_tables table_added ++ gained 48 ∷ []) 2 (λ e. omega arith) g.further

pub returns-clause-not_in_use : goal.returns-clause-not_in_use
unfolding u16_at u32_at u32_bytes seen slots_of further_tables chunk_at chunks_from chunks_of held is_accepted
returns-clause-not_in_use c = λ g. (let empty = g.empty.0 in absurd (omega arith))
