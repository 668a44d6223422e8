-- What the bytes of a region are once a part is lent or taken back, and once bytes slid.
use Rattle.std.proofs.Common.{◌≡◌, ℕ, ◌+◌, List, [], ◌∷◌, ◌++◌, length, drop, ap, ◌∙◌, arith, inl, inr}
use Rattle.std.proofs.lemmas.List.{drop_all, append-nil}
use Rattle.heap_model.specs.Bytes.{overwritten}
use Rattle.heap_model.specs.Memory.{Lent}
use Rattle.raw_region.specs.Parts.{PartOut, IsOut}

-- all bytes are others
pub all_over : (old new : List ℕ) → length old ≡ length new → overwritten old 0 new ≡ new
unfolding overwritten
all_over old new many =
    let rest : drop (length new) old ≡ [] = drop_all (length new) old (omega (arith, many)) in
    let start : 0 + length new ≡ length new = omega arith in
    ap (λ (k : ℕ). new ++ drop k old) start ∙ ap (λ (l : List ℕ). new ++ l) rest ∙ append-nil new

-- a part that was written to is the same part
pub still_part : (lents : List Lent) (at : ℕ) (part other : PartOut) → IsOut lents at part → other.start ≡ part.start → length other.bytes ≡ length part.bytes → IsOut lents at other
still_part [] at part other out start long = absurd out
still_part (l ∷ ls) at part other (inl is) start long = inl (record { there = is.there; start = start ∙ is.start; count = long ∙ is.count })
still_part (l ∷ ls) at part other (inr rest) start long = inr (still_part ls at part other rest start long)
