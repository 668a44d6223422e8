-- What all names stand for where one name alone has changed.
use Rattle.laws_heap.proofs.Words.{◌≡◌, ℕ, List, Option, sym, ap, ◌∙◌, arith, inl, inr, cases_eq, eq-eqb, nat_tests, ◌==◌, LiveChunk, held, updated}
use Rattle.laws_heap.proofs.Tests.{cond-true, cond-false}
use Rattle.laws_heap.proofs.Exchanges.{ChangesName}

pub held_updated : (old new : List ℕ) (name : ℕ) (now : Option LiveChunk) (there : Option ℕ)
    → ChangesName old new name now there → (n : ℕ) → held new n ≡ updated (held old) name now n
held_updated old new name now there ch n = elim (cases_eq n name) [
  | inl same ↦ ap (held new) same ∙ ch.here ∙ sym (cond-true (n == name) _ _ (eq-eqb n name same))
  | inr apart ↦ ch.others n apart ∙ sym (cond-false (n == name) _ _ (grind (arith, nat_tests)))
]
