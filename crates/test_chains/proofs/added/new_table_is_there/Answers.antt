use Rattle.std.proofs.Common.{refl, ap, arith, inl, inr, ℕ, List}
use Rattle.std.specs.Prelude.{slice_index}
use Rattle.heap_model.specs.Bytes.{u16_at, u32_at, u32_bytes}
use Rattle.heap_model.specs.Chunk.{seen}
use Rattle.heap_model.specs.Slots.{slots_of, further_tables}
use Rattle.heap_model.specs.Reading.{chunk_at, chunks_from, chunks_of, held, is_accepted}
use Rattle.laws_heap.proofs.Runs.{chunks_from-spelled}
use Rattle.test_chains.specs.ChainedImages.{room_for_table, new_table}
use Rattle.test_chains.proofs.Tried.{new_there}
use Rattle.test_chains.proofs.added.new_table_is_there.Goals as goal

pub returns-clause-holds : goal.returns-clause-holds
unfolding u16_at u32_at u32_bytes seen slots_of further_tables chunk_at chunks_from chunks_of held is_accepted
returns-clause-holds c = record {
  chunks = chunks_of new_table;
  tiles = record {
    head = record {
      magic_is = inr refl;
      size_is = refl;
      least = omega arith;
      most = omega arith;
      whole = refl;
      some_slot = omega arith;
      a_chunk_fits = omega arith;
      reserved = refl;
      padding = λ ne. absurd (ne refl);
    };
    area = chunks_from-spelled new_table 24;
    chain = (refl, inl (refl, refl, refl, omega arith), refl);
  };
  there = inr (inl (refl, refl, refl, omega arith));
  zeros = refl;
  apart = λ p. elim p [ inl e ↦ absurd (omega arith) | inr none ↦ absurd none ];
}

pub returns-clause-not_another : goal.returns-clause-not_another
unfolding u16_at u32_at u32_bytes seen slots_of further_tables chunk_at chunks_from chunks_of held is_accepted
returns-clause-not_another c = λ n. elim (new_there new_table 32 n) [ inl here ↦ (let many = here.2 in absurd (omega arith)) | inr later ↦ elim later [ inl here ↦ (let at = here.1 in absurd (omega arith)) | inr none ↦ absurd none ] ]

pub returns-clause-not_free : goal.returns-clause-not_free
unfolding u16_at u32_at u32_bytes seen slots_of further_tables chunk_at chunks_from chunks_of held is_accepted
returns-clause-not_free c = λ n. elim (new_there room_for_table 48 n) [ inl here ↦ (let at = here.1 in absurd (omega arith)) | inr later ↦ elim later [ inl here ↦ absurd here | inr none ↦ absurd none ] ]

pub returns-clause-not_in_chain : goal.returns-clause-not_in_chain
unfolding u16_at u32_at u32_bytes seen slots_of further_tables chunk_at chunks_from chunks_of held is_accepted
returns-clause-not_in_chain c = λ n. n.apart (inr (inl refl))

pub returns-clause-not_zeros : goal.returns-clause-not_zeros
unfolding u16_at u32_at u32_bytes seen slots_of further_tables chunk_at chunks_from chunks_of held is_accepted
returns-clause-not_zeros c = λ n. let one = ap (λ (xs : List ℕ). slice_index xs 63) n.zeros in absurd (omega arith)
