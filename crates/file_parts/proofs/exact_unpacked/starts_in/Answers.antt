-- `starts_in` returns the starts of the blocks that a file has, by rank.
use Rattle.file_parts.proofs.AllLaws.{◌≡◌, ℕ, ◌+◌, ◌<◌, ◌++◌, [], ◌∷◌, List, length, ap, ◌∙◌, rules, slice_index, offsets_in, BlockStart, first_starts, one_more, none_more}
use Rattle.file_parts.proofs.exact_unpacked.starts_in.Goals as goal
use Rattle.file_parts.proofs.exact_unpacked.starts_in.Goals.{then-at-ne0+in_ok-push, else-at-ne0}

-- a start is put after those of the first ranks
pushed : (offsets : List ℕ) (rank at : ℕ) (old mid new : List BlockStart) → new ≡ mid
    → mid ≡ old ++ record { at = at; rank = rank } ∷ [] → old ≡ first_starts offsets rank
    → at ≡ slice_index offsets rank → 0 < at → new ≡ first_starts offsets (rank + 1)
pushed offsets rank at old mid new new_is mid_is before is some =
    new_is ∙ mid_is ∙ ap (λ xs. xs ++ record { at = at; rank = rank } ∷ []) before
    ∙ one_more offsets rank at is some

pub loop-rank-preserved : goal.loop-rank-preserved
loop-rank-preserved g c =
    let offsets : List ℕ = offsets_in c.args.file.now in
    elim c.if-at-ne0.branch [
      | then-at-ne0+in_ok-push w ↦
          pushed offsets c.loop-rank.rank _ _ _ _ (ap (λ v. v.items) w.starts-is)
          w.in_ok-push.ensures.items c.loop-rank.invariant c.offset-at.ensures.is (search rules)
      | else-at-ne0 w ↦ ap (λ v. v.items) w.starts-is ∙ c.loop-rank.invariant
          ∙ none_more offsets c.loop-rank.rank _ c.offset-at.ensures.is (search rules)
    ]

pub returns-clause-starts : goal.returns-clause-starts
returns-clause-starts g c =
    let ends = c.rank_count-rank-end.ensures.offsets in
    let all : c.loop-rank.rank ≡ length (offsets_in c.args.file.now) = search rules in
    c.loop-rank.invariant ∙ ap (first_starts (offsets_in c.args.file.now)) all
