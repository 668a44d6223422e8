-- Exact files that are listed by values, and values that no file has.
use Rattle.file_parts.proofs.AllWords.{◌≡◌, ◌<◌, ◌+◌, ◌++◌, ◌∷◌, [], ℕ, suc, Bool, true, false, Option, Some, None, List, length, take, refl, sym, ap, ◌∙◌, arith, inl, inr, append_assoc, append-nil, Ok, Err, slice_index, map-append, take_more, Database, data_in, LineFault, after_name_fault, exact_with, is_after_name, order_fault, ExactText, is_other, IsNoExactFile, valued_head, valued_text, OrderLine}
use Rattle.std.specs.Prelude.{map}
use Rattle.file_parts.proofs.ExactListings.{faulty, said}

-- one rank more has a line
pub one_ranked : (lines : List OrderLine) (line : OrderLine) (ranks : List ℕ) (i : ℕ)
    → i < length ranks → map (λ (line : OrderLine). line.rank) lines ≡ take i ranks
    → line.rank ≡ slice_index ranks i
    → map (λ (line : OrderLine). line.rank) (lines ++ line ∷ []) ≡ take (i + 1) ranks
one_ranked lines line ranks i within before is =
    map-append (λ (line : OrderLine). line.rank) lines (line ∷ [])
    ∙ ap (λ (front : List ℕ). front ++ line.rank ∷ []) before
    ∙ ap (λ (rank : ℕ). take i ranks ++ rank ∷ []) is
    ∙ sym (take_more ranks i 0 within)

-- the values that are listed
pub text_is : (database : Database (Option (List ℕ))) (after order : List ℕ)
    (lines : List OrderLine) (text : ExactText)
    → map (λ (line : OrderLine). line.rank) lines ≡ order
    → exact_with (valued_head after lines) (Ok database) ≡ Ok text
    → text ≡ valued_text database after order
text_is database after order lines text ranks is =
    said (valued_head after lines) database text is ∙ ap (valued_text database after) ranks

-- ---- values that no file has

-- ranks that are bad after others
abbrev IsBadAfter : List (Option (List ℕ)) → (front order : List ℕ) → Type 0
IsBadAfter blocks front order = (index : ℕ) × (index < length order)
    × (is_other blocks (front ++ take index order) (slice_index order index) ≡ false)

none_some : (fault : LineFault) → None ≡ Some fault → ⊥
none_some fault is = cc

first_bad : (blocks : List (Option (List ℕ))) (front order : List ℕ) (rank : ℕ)
    → is_other blocks front rank ≡ false → IsBadAfter blocks front (rank ∷ order)
first_bad blocks front order rank bad =
    (0, omega arith, ap (λ ranks. is_other blocks ranks rank) (append-nil front) ∙ bad)

later_bad : (blocks : List (Option (List ℕ))) (front order : List ℕ) (rank : ℕ)
    → IsBadAfter blocks (front ++ rank ∷ []) order → IsBadAfter blocks front (rank ∷ order)
later_bad blocks front order rank (index, inside, bad) = (
  suc index,
  omega arith,
  ap (λ ranks. is_other blocks ranks (slice_index order index))
      (sym (append_assoc front (rank ∷ []) (take index order))) ∙ bad,
)

bad_rank : (blocks : List (Option (List ℕ))) (front : List ℕ) (lines : List OrderLine)
    (fault : LineFault) → order_fault blocks front lines ≡ Some fault
    → IsBadAfter blocks front (map (λ (line : OrderLine). line.rank) lines)
bad_rank blocks front [] fault is = absurd (none_some fault is)
bad_rank blocks front (line ∷ lines) fault is = by_test (is_other blocks front line.rank) refl
    (λ later. bad_rank blocks (front ++ line.rank ∷ []) lines fault later) where
      by_test : (v : Bool) → is_other blocks front line.rank ≡ v
          → (order_fault blocks (front ++ line.rank ∷ []) lines ≡ Some fault → IsBadAfter blocks
          (front ++ line.rank ∷ []) (map (λ (line : OrderLine). line.rank) lines))
          → IsBadAfter blocks front (map (λ (line : OrderLine). line.rank) (line ∷ lines))
      by_test true good more =
          later_bad blocks front (map (λ line. line.rank) lines) line.rank (more (rw good at is))
      by_test false bad more =
          first_bad blocks front (map (λ (line : OrderLine). line.rank) lines) line.rank bad

bad_after : (name after : List ℕ) (fault : LineFault)
    → after_name_fault name (Some (record { bytes = after; line = 0 })) ≡ Some fault
    → is_after_name name after ≡ false
bad_after name after fault is = by_test (is_after_name name after) refl where
  by_test : (v : Bool) → is_after_name name after ≡ v → is_after_name name after ≡ false
  by_test true good = absurd (none_some fault (rw good at is))
  by_test false bad = bad

-- if a line of an exact file would be faulty, no file has its values
pub no_file : (database : Database (Option (List ℕ))) (after order : List ℕ)
    (lines : List OrderLine) (fault : LineFault)
    → map (λ (line : OrderLine). line.rank) lines ≡ order
    → exact_with (valued_head after lines) (Ok database) ≡ Err fault
    → IsNoExactFile database after order
no_file database after order lines fault ranks is =
    elim (faulty (valued_head after lines) database fault is) [
      | inl name ↦ inl (bad_after database.header.name after fault name)
      | inr ordered ↦ inr (rw ranks at (bad_rank (data_in database) [] lines fault ordered))
    ]
