use Rattle.std.proofs.Common.{refl, ap, arith}
use Rattle.heap_model.specs.Bytes.{u16_at, u32_at, u32_bytes}
use Rattle.heap_model.specs.Chunk.{seen}
use Rattle.heap_model.specs.Slots.{slots_of, further_tables}
use Rattle.heap_model.specs.Reading.{chunk_at, chunks_from, chunks_of, held, is_accepted}
use Rattle.laws_heap.proofs.Accepted.{Decides-accepted}
use Rattle.laws_heap.proofs.Migrations.{migrated}
use Rattle.test_chains.specs.MigratedImages.{two_slots, grown_two_slots, one_slot, chained_one_slot}
use Rattle.test_chains.proofs.GrownImages.{even_bytes, odd_bytes}
use Rattle.test_chains.proofs.Tried.{byte_of}
use Rattle.test_chains.proofs.migrated.names_of_the_new_image.Goals as goal

pub returns-clause-even : goal.returns-clause-even
unfolding u16_at u32_at u32_bytes seen slots_of further_tables chunk_at chunks_from chunks_of held is_accepted
returns-clause-even c = migrated two_slots grown_two_slots 8 ((Decides-accepted two_slots).0 refl) refl (omega arith) even_bytes

pub returns-clause-odd : goal.returns-clause-odd
unfolding u16_at u32_at u32_bytes seen slots_of further_tables chunk_at chunks_from chunks_of held is_accepted
returns-clause-odd c = migrated one_slot chained_one_slot 0 ((Decides-accepted one_slot).0 refl) refl (omega arith) odd_bytes

pub returns-clause-not_0 : goal.returns-clause-not_0
unfolding u16_at u32_at u32_bytes seen slots_of further_tables chunk_at chunks_from chunks_of held is_accepted
returns-clause-not_0 c = λ m. (let start = m.shift in absurd (omega arith))

pub returns-clause-not_plain : goal.returns-clause-not_plain
unfolding u16_at u32_at u32_bytes seen slots_of further_tables chunk_at chunks_from chunks_of held is_accepted
returns-clause-not_plain c = λ m. absurd (let chained = m.chained in cc)

pub returns-clause-fixed : goal.returns-clause-fixed
unfolding u16_at u32_at u32_bytes seen slots_of further_tables chunk_at chunks_from chunks_of held is_accepted
returns-clause-fixed c = λ m. (let byte = ap (byte_of 7) (m.fixed 48 (omega arith)) in absurd (omega arith))
