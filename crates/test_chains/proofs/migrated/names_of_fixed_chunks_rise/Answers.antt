use Rattle.std.proofs.Common.{refl, ap, ◌≡◌, arith, ℕ}
use Rattle.heap_model.specs.Bytes.{u16_at, u32_at, u32_bytes}
use Rattle.heap_model.specs.Chunk.{seen}
use Rattle.heap_model.specs.Slots.{slots_of, further_tables}
use Rattle.heap_model.specs.Reading.{chunk_at, chunks_from, chunks_of, held, is_accepted}
use Rattle.std.specs.Prelude.{Some}
use Rattle.heap_migration.specs.Stores.{later_name}
use Rattle.test_chains.specs.MigratedImages.{two_slots, grown_two_slots, one_slot, chained_one_slot}
use Rattle.test_chains.proofs.Tried.{each_named, byte_of}
use Rattle.test_chains.proofs.migrated.names_of_fixed_chunks_rise.Goals as goal

pub returns-clause-even : goal.returns-clause-even
unfolding u16_at u32_at u32_bytes seen slots_of further_tables chunk_at chunks_from chunks_of held is_accepted
returns-clause-even c = record {
  kept = each_named (λ name live. held grown_two_slots (later_name 8 name live) ≡ Some live) 24 (chunks_of two_slots) (refl, (refl, tt));
  no_others = each_named (λ name live. (was : ℕ) × (held two_slots was ≡ Some live) × (later_name 8 was live ≡ name)) 32 (chunks_of grown_two_slots) ((16, refl, refl), ((48, refl, refl), tt));
}

pub returns-clause-odd : goal.returns-clause-odd
unfolding u16_at u32_at u32_bytes seen slots_of further_tables chunk_at chunks_from chunks_of held is_accepted
returns-clause-odd c = record {
  kept = each_named (λ name live. held chained_one_slot (later_name 0 name live) ≡ Some live) 24 (chunks_of one_slot) (refl, (refl, tt));
  no_others = each_named (λ name live. (was : ℕ) × (held one_slot was ≡ Some live) × (later_name 0 was live ≡ name)) 24 (chunks_of chained_one_slot) ((16, refl, refl), ((48, refl, refl), tt));
}

pub returns-clause-not_0 : goal.returns-clause-not_0
unfolding u16_at u32_at u32_bytes seen slots_of further_tables chunk_at chunks_from chunks_of held is_accepted
returns-clause-not_0 c = λ r. (let none = r.kept 48 _ refl in absurd cc)

pub returns-clause-fixed : goal.returns-clause-fixed
unfolding u16_at u32_at u32_bytes seen slots_of further_tables chunk_at chunks_from chunks_of held is_accepted
returns-clause-fixed c = λ r. (let byte = ap (byte_of 7) (r.kept 48 _ refl) in absurd (omega arith))

pub returns-clause-lost : goal.returns-clause-lost
unfolding u16_at u32_at u32_bytes seen slots_of further_tables chunk_at chunks_from chunks_of held is_accepted
returns-clause-lost c = λ r. (let none = r.kept 16 _ refl in absurd cc)

pub returns-clause-found : goal.returns-clause-found
unfolding u16_at u32_at u32_bytes seen slots_of further_tables chunk_at chunks_from chunks_of held is_accepted
returns-clause-found c = λ r. (let none = (r.no_others 16 _ refl).1 in absurd cc)
