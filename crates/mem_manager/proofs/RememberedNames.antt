-- Names that are remembered, and calls that remember one.
use Rattle.mem_manager.proofs.Words.{◌≡◌, ℕ, ◌<◌, List, replicate, sym, ap, ◌∙◌, arith, inl, inr, cases_eq, get_or-replicate, ◌/◌, ◌%◌, slice_index, IsSome, held, IsKnown, KnowsHeld, Remembers, entry_of_name}

-- what is remembered stands for a chunk still, where a name that does was remembered too
pub remembered_held : {old new : List ℕ} (image : List ℕ) {name : ℕ} → KnowsHeld image old
    → Remembers old new name → IsSome (held image name) → KnowsHeld image new
remembered_held {old} {new} image {name} known remembers here other is =
    elim (cases_eq (entry_of_name other) (entry_of_name name)) [
      | inl same ↦ rw (sym remembers.this ∙ ap (slice_index new) (sym same) ∙ is.there) at here
      | inr apart ↦ known other
          (record { some = is.some; there = sym (remembers.others other apart) ∙ is.there })
    ]

-- a table of zeros has no name
pub none_known : {name : ℕ} → IsKnown (replicate {A = ℕ} 64 0) name → ⊥
none_known {name} is =
    let below : name / 8 % 64 < 64 = omega arith in
    let none : 0 ≡ name =
    sym (get_or-replicate {A = ℕ} 64 (entry_of_name name) 0 0 below) ∙ is.there in
    let some = is.some in absurd (omega (arith, none, some))
