use Rattle.std.proofs.Common.{refl, ◌<◌, arith, inl, inr}
use Rattle.heap_model.specs.Bytes.{u16_at, u32_at, u32_bytes}
use Rattle.heap_model.specs.Chunk.{seen}
use Rattle.heap_model.specs.Slots.{slots_of, further_tables}
use Rattle.heap_model.specs.Reading.{chunk_at, chunks_from, chunks_of, held, is_accepted}
use Rattle.test_chains.proofs.Tried.{all_one}
use Rattle.test_chains.proofs.added.room_for_a_table_is_read.Goals as goal

pub returns-clause-none : goal.returns-clause-none
unfolding u16_at u32_at u32_bytes seen slots_of further_tables chunk_at chunks_from chunks_of held is_accepted
returns-clause-none c = inr (λ k d low. absurd (omega arith))

pub returns-clause-too_small : goal.returns-clause-too_small
unfolding u16_at u32_at u32_bytes seen slots_of further_tables chunk_at chunks_from chunks_of held is_accepted
returns-clause-too_small c = inr (all_one (λ room. room < 72) 64 (omega arith))

pub returns-clause-no_chain : goal.returns-clause-no_chain
unfolding u16_at u32_at u32_bytes seen slots_of further_tables chunk_at chunks_from chunks_of held is_accepted
returns-clause-no_chain c = inl refl

pub returns-clause-not_enough : goal.returns-clause-not_enough
unfolding u16_at u32_at u32_bytes seen slots_of further_tables chunk_at chunks_from chunks_of held is_accepted
returns-clause-not_enough c = λ n. elim n [ inl plain ↦ absurd cc | inr short ↦ (let low = short 0 0 (omega arith) in absurd (omega arith)) ]
