-- What misses a part of a memory that is lent.
use Rattle.laws_heap.proofs.Words.{◌≡◌, ℕ, ◌+◌, ◌≤◌, List, [], ◌∷◌, length, sym, subst, arith, inl, inr, Memory, Lent, Misses, IsWithin}

-- where nothing is lent all of it does
pub all_misses : (lents : List Lent) (at n : ℕ) → lents ≡ [] → Misses lents at n
all_misses lents at n none = subst (λ (l : List Lent). Misses l at n) (sym none) tt

-- and a part of what does
pub part_misses : (lents : List Lent) (at n there m : ℕ) → Misses lents at n → at ≤ there
    → there + m ≤ at + n → Misses lents there m
part_misses [] at n there m misses from to = tt
part_misses (lent ∷ lents) at n there m misses from to = (
  elim misses.0 [
    | inl below ↦ inl (omega (arith, below))
    | inr above ↦ inr (omega (arith, above))
  ],
  part_misses lents at n there m misses.1 from to,
)

-- a part of what lies within a memory does
pub part_within : (memory : Memory) (at n there m : ℕ) → IsWithin memory at n → at ≤ there
    → there + m ≤ at + n → IsWithin memory there m
part_within memory at n there m within from to =
    let inside = within.inside in
    record { inside = omega arith; misses = part_misses _ at n there m within.misses from to }

-- what lies within a memory of which nothing is lent
pub all_within : (memory : Memory) (at n : ℕ) → memory.lents ≡ [] → at + n ≤ length memory.bytes
    → IsWithin memory at n
all_within memory at n none inside = record { inside = inside; misses = all_misses _ at n none }

-- the two words of a header
pub first_word_within : (memory : Memory) (at : ℕ) → at + 8 ≤ length memory.bytes
    → Misses memory.lents at 8 → IsWithin memory at 4
first_word_within memory at inside misses = record {
  inside = omega arith;
  misses = part_misses memory.lents at 8 at 4 misses (omega arith) (omega arith);
}

pub second_word_within : (memory : Memory) (at : ℕ) → at + 8 ≤ length memory.bytes
    → Misses memory.lents at 8 → IsWithin memory (at + 4) 4
second_word_within memory at inside misses = record {
  inside = omega arith;
  misses = part_misses memory.lents at 8 (at + 4) 4 misses (omega arith) (omega arith);
}
