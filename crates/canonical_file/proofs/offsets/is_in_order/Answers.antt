-- `is_in_order` returns whether the blocks are in the order of the list, by the contracts of its
-- calls.
use Rattle.std.proofs.Common.{◌+◌, ◌<◌, ◌∷◌, ℕ, List, length, drop, sym, ap, subst, ◌∙◌, rules}
use Rattle.std.proofs.lemmas.List.{drop_more}
use Rattle.heap_model.specs.Files.{offsets_in}
use Rattle.canonical_file.specs.Changes.{AreRising}
use Rattle.canonical_file.proofs.offsets.is_in_order.Goals as goal

pub loop-rank-preserved : goal.loop-rank-preserved
loop-rank-preserved g c =
    let os : List ℕ = offsets_in c.args.file.now in
    let rank = c.loop-rank.rank in
    let low = c.loop-rank.low in
    let inside : rank < length os = search rules in
    let left = drop_more os rank 0 inside
    ∙ ap (λ (o : ℕ). o ∷ drop (rank + 1) os) (sym c.offset.ensures.is) in
    let step = c.in-Some.ensures.some (drop (rank + 1) os) in
    let before = c.loop-rank.invariant in
    (λ rising. step.0 (subst (AreRising low) left (before.0 rising)), λ rising. before.1 (subst (AreRising low) (sym left) (step.1 rising)))
