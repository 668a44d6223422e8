-- The loop of `has_unmarked` keeps its invariant: it has found a number without a mark but with an
-- owner exactly if one is before this number.
use Rattle.store_check.proofs.Terms.{◌≡◌, ℕ, ◌<◌, IsTrue, ◌↔◌, slice_index, IsOurOwner}
use Rattle.store_check.proofs.chunks.has_unmarked.Given as goal

abbrev pub invariant-loop-number : goal.invariant-loop-number
invariant-loop-number l = IsTrue l.found ↔ ((number : ℕ) × (number < l.number)
    × ((slice_index l.marks number ≡ 0) × IsOurOwner (slice_index l.owners number)))
