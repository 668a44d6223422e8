use Rattle.std.proofs.Common.{refl, arith, inl, inr}
use Rattle.heap_model.specs.Bytes.{u16_at, u32_at, u32_bytes}
use Rattle.heap_model.specs.Chunk.{seen}
use Rattle.heap_model.specs.Slots.{slots_of, further_tables}
use Rattle.heap_model.specs.Reading.{chunk_at, chunks_from, chunks_of, held, is_accepted}
use Rattle.test_chains.proofs.refused.fixed_chunks_are_known.Goals as goal

pub returns-clause-in_list : goal.returns-clause-in_list
unfolding u16_at u32_at u32_bytes seen slots_of further_tables chunk_at chunks_from chunks_of held is_accepted
returns-clause-in_list c = (omega arith, inr (inr (inl refl)))

pub returns-clause-not_another : goal.returns-clause-not_another
unfolding u16_at u32_at u32_bytes seen slots_of further_tables chunk_at chunks_from chunks_of held is_accepted
returns-clause-not_another c = λ k. elim k.1 [ inl own ↦ absurd (omega arith) | inr there ↦ elim there [ inl e ↦ absurd (omega arith) | inr more ↦ elim more [ inl e ↦ absurd (omega arith) | inr none ↦ absurd none ] ] ]

pub returns-clause-callers : goal.returns-clause-callers
unfolding u16_at u32_at u32_bytes seen slots_of further_tables chunk_at chunks_from chunks_of held is_accepted
returns-clause-callers c = (omega arith, inl (omega arith))

pub returns-clause-not_data : goal.returns-clause-not_data
unfolding u16_at u32_at u32_bytes seen slots_of further_tables chunk_at chunks_from chunks_of held is_accepted
returns-clause-not_data c = λ k. (let low = k.0 in absurd (omega arith))

pub returns-clause-in_chain : goal.returns-clause-in_chain
unfolding u16_at u32_at u32_bytes seen slots_of further_tables chunk_at chunks_from chunks_of held is_accepted
returns-clause-in_chain c = ((omega arith, inr (inl refl)), (tt, (tt, tt)))

pub returns-clause-with_a_callers : goal.returns-clause-with_a_callers
unfolding u16_at u32_at u32_bytes seen slots_of further_tables chunk_at chunks_from chunks_of held is_accepted
returns-clause-with_a_callers c = (tt, ((omega arith, inr (inl refl)), ((omega arith, inl (omega arith)), tt)))

pub returns-clause-not_stray : goal.returns-clause-not_stray
unfolding u16_at u32_at u32_bytes seen slots_of further_tables chunk_at chunks_from chunks_of held is_accepted
returns-clause-not_stray c = λ k. elim k.0.1 [ inl own ↦ absurd (omega arith) | inr none ↦ absurd none ]
