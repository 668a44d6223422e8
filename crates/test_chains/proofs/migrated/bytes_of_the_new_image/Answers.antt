use Rattle.std.proofs.Common.{refl, arith, inl}
use Rattle.heap_model.specs.Bytes.{u16_at, u32_at, u32_bytes}
use Rattle.heap_model.specs.Chunk.{seen}
use Rattle.heap_model.specs.Slots.{slots_of, further_tables}
use Rattle.heap_model.specs.Reading.{chunk_at, chunks_from, chunks_of, held, is_accepted}
use Rattle.test_chains.proofs.GrownImages.{even_bytes, odd_bytes}
use Rattle.test_chains.proofs.migrated.bytes_of_the_new_image.Goals as goal

pub returns-clause-even : goal.returns-clause-even
unfolding u16_at u32_at u32_bytes seen slots_of further_tables chunk_at chunks_from chunks_of held is_accepted
returns-clause-even c = even_bytes

pub returns-clause-odd : goal.returns-clause-odd
unfolding u16_at u32_at u32_bytes seen slots_of further_tables chunk_at chunks_from chunks_of held is_accepted
returns-clause-odd c = odd_bytes

pub returns-clause-not_0 : goal.returns-clause-not_0
unfolding u16_at u32_at u32_bytes seen slots_of further_tables chunk_at chunks_from chunks_of held is_accepted
returns-clause-not_0 c = λ m. (let start = m.shift in absurd (omega arith))

pub returns-clause-not_plain : goal.returns-clause-not_plain
unfolding u16_at u32_at u32_bytes seen slots_of further_tables chunk_at chunks_from chunks_of held is_accepted
returns-clause-not_plain c = λ m. (let word = m.magic in absurd (omega arith))

pub returns-clause-slot : goal.returns-clause-slot
unfolding u16_at u32_at u32_bytes seen slots_of further_tables chunk_at chunks_from chunks_of held is_accepted
returns-clause-slot c = λ m. (let word = m.slots 16 record { listed = inl refl } in absurd (omega arith))

pub returns-clause-offset : goal.returns-clause-offset
unfolding u16_at u32_at u32_bytes seen slots_of further_tables chunk_at chunks_from chunks_of held is_accepted
returns-clause-offset c = λ m. (let word = m.chunks.0.1 in absurd (omega arith))

pub returns-clause-next : goal.returns-clause-next
unfolding u16_at u32_at u32_bytes seen slots_of further_tables chunk_at chunks_from chunks_of held is_accepted
returns-clause-next c = λ m. (let byte = m.zeros 27 (omega arith) (omega arith) in absurd (omega arith))

pub returns-clause-slack : goal.returns-clause-slack
unfolding u16_at u32_at u32_bytes seen slots_of further_tables chunk_at chunks_from chunks_of held is_accepted
returns-clause-slack c = λ m. (let byte = m.chunks.0.2 39 (omega arith) (omega arith) in absurd (omega arith))

pub returns-clause-fixed : goal.returns-clause-fixed
unfolding u16_at u32_at u32_bytes seen slots_of further_tables chunk_at chunks_from chunks_of held is_accepted
returns-clause-fixed c = λ m. (let byte = m.chunks.1.0 55 (omega arith) (omega arith) in absurd (omega arith))
