use Rattle.std.proofs.Common.{refl, arith, inl, inr, [], ◌∷◌}
use Rattle.heap_model.specs.Bytes.{u16_at, u32_at, u32_bytes}
use Rattle.heap_model.specs.Chunk.{seen}
use Rattle.heap_model.specs.Slots.{slots_of, further_tables}
use Rattle.heap_model.specs.Reading.{chunk_at, chunks_from, chunks_of, held, is_accepted}
use Rattle.laws_heap.proofs.Runs.{chunks_from-spelled}
use Rattle.test_chains.specs.ChainedImages.{made_table, next_is_free, cycle}
use Rattle.test_chains.proofs.BadTables.{free_once, cycle_none, cycle_once, cycle_thrice, two_right}
use Rattle.test_chains.proofs.refused.bad_tables_are_found.Goals as goal

pub returns-clause-free_chunk : goal.returns-clause-free_chunk
unfolding u16_at u32_at u32_bytes seen slots_of further_tables chunk_at chunks_from chunks_of held is_accepted
returns-clause-free_chunk c = record {
  area = chunks_from-spelled next_is_free 24;
  tables = [];
  count = refl;
  next = 32;
  leads = refl;
  more = λ e. omega arith;
  no_other = λ t here place. elim here [ inl none ↦ absurd none | inr none ↦ absurd none ];
}

pub returns-clause-not_another : goal.returns-clause-not_another
unfolding u16_at u32_at u32_bytes seen slots_of further_tables chunk_at chunks_from chunks_of held is_accepted
returns-clause-not_another c = λ b. free_once b.tables b.next b.count b.leads

pub returns-clause-circle : goal.returns-clause-circle
unfolding u16_at u32_at u32_bytes seen slots_of further_tables chunk_at chunks_from chunks_of held is_accepted
returns-clause-circle c = record {
  area = chunks_from-spelled cycle 24;
  tables = made_table 32 1 ∷ made_table 48 1 ∷ [];
  count = refl;
  next = 32;
  leads = (
    refl,
    inl (refl, refl, refl, omega arith),
    λ again. elim again [ inl e ↦ absurd (omega arith) | inr none ↦ absurd none ],
    (refl, inr (inl (refl, refl, refl, omega arith)), λ none. none, refl),
  );
  more = λ e. omega arith;
  no_other = λ t here place. inl refl;
}

pub returns-clause-not_first : goal.returns-clause-not_first
unfolding u16_at u32_at u32_bytes seen slots_of further_tables chunk_at chunks_from chunks_of held is_accepted
returns-clause-not_first c = λ b. cycle_none b.tables b.next b.count b.leads b.no_other

pub returns-clause-not_once : goal.returns-clause-not_once
unfolding u16_at u32_at u32_bytes seen slots_of further_tables chunk_at chunks_from chunks_of held is_accepted
returns-clause-not_once c = λ b. cycle_once b.tables b.next b.count b.leads b.no_other

pub returns-clause-not_again : goal.returns-clause-not_again
unfolding u16_at u32_at u32_bytes seen slots_of further_tables chunk_at chunks_from chunks_of held is_accepted
returns-clause-not_again c = λ b. cycle_thrice b.tables b.next b.count b.leads

pub returns-clause-none : goal.returns-clause-none
unfolding u16_at u32_at u32_bytes seen slots_of further_tables chunk_at chunks_from chunks_of held is_accepted
returns-clause-none c = λ number b. two_right b.tables b.next b.leads b.more b.no_other
