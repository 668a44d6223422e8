use Rattle.std.proofs.Common.{refl, ap, arith, ◌++◌, [], ◌∷◌, length}
use Rattle.heap_model.specs.Bytes.{u16_at, u32_at, u32_bytes}
use Rattle.heap_model.specs.Chunk.{seen}
use Rattle.heap_model.specs.Slots.{slots_of, further_tables}
use Rattle.heap_model.specs.Reading.{chunk_at, chunks_from, chunks_of, held, is_accepted}
use Rattle.heap_model.specs.Slots.{Tables}
use Rattle.heap_model.specs.MoreTables.{gained}
use Rattle.test_chains.specs.ChainedImages.{room_for_table, table_in_front}
use Rattle.test_chains.proofs.Tried.{other_place}
use Rattle.test_chains.proofs.added.calls_leave_tables.Goals as goal

pub returns-clause-added : goal.returns-clause-added
unfolding u16_at u32_at u32_bytes seen slots_of further_tables chunk_at chunks_from chunks_of held is_accepted
returns-clause-added c = (48, refl)

pub returns-clause-not_in_front : goal.returns-clause-not_in_front
unfolding u16_at u32_at u32_bytes seen slots_of further_tables chunk_at chunks_from chunks_of held is_accepted
returns-clause-not_in_front c = λ l. other_place (further_tables table_in_front) (further_tables room_for_table ++ gained l.0 ∷ []) 0 (λ e. omega arith) (ap (λ (t : Tables). t.further) l.1)

pub returns-clause-not_none : goal.returns-clause-not_none
unfolding u16_at u32_at u32_bytes seen slots_of further_tables chunk_at chunks_from chunks_of held is_accepted
returns-clause-not_none c = λ l. (let many = ap (λ (t : Tables). length t.further) l.1 in absurd (omega arith))

pub returns-clause-refused : goal.returns-clause-refused
unfolding u16_at u32_at u32_bytes seen slots_of further_tables chunk_at chunks_from chunks_of held is_accepted
returns-clause-refused c = refl

pub returns-clause-not_refused : goal.returns-clause-not_refused
unfolding u16_at u32_at u32_bytes seen slots_of further_tables chunk_at chunks_from chunks_of held is_accepted
returns-clause-not_refused c = λ l. (let many = ap (λ (t : Tables). length t.further) l in absurd (omega arith))

pub returns-clause-not_another : goal.returns-clause-not_another
unfolding u16_at u32_at u32_bytes seen slots_of further_tables chunk_at chunks_from chunks_of held is_accepted
returns-clause-not_another c = λ l. (let many = ap (λ (t : Tables). length t.further) l in absurd (omega arith))
