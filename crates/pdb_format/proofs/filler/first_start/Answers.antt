-- `first_start` returns the offset of the first block, by the laws of LeastOffsets.
use Rattle.std.proofs.Common.{◌≡◌, ◌+◌, ◌<◌, ◌≤◌, ◌∷◌, ℕ, List, length, drop, sym, ap, ◌∙◌, arith, rules}
use Rattle.std.specs.Prelude.{min, nat_lt, filter}
use Rattle.std.specs.List.{fold}
use Rattle.std.proofs.lemmas.List.{drop_more, drop_all}
use Rattle.heap_model.specs.Files.{offsets_in}
use Rattle.pdb_format.specs.Filler as words
use Rattle.pdb_format.proofs.LeastOffsets.{least_most, first_after}
use Rattle.pdb_format.proofs.filler.first_start.Goals as goal

pub loop-rank-preserved : goal.loop-rank-preserved
loop-rank-preserved g c =
    let os : List ℕ = offsets_in (g.B.FileBytes.bytes c.args.file.now) in
    let rank = c.loop-rank.rank in
    let inside : rank < length os = search rules in
    let left = drop_more os rank 0 inside
    ∙ ap (λ (o : ℕ). o ∷ drop (rank + 1) os) (sym c.offset_of.ensures) in
    sym (c.lesser-first.ensures (drop (rank + 1) os))
    ∙ ap (λ (xs : List ℕ). fold min c.loop-rank.first (filter (nat_lt 0) xs)) (sym left)
    ∙ c.loop-rank.invariant

pub returns-clause-inside : goal.returns-clause-inside
returns-clause-inside g c =
    let os : List ℕ = offsets_in (g.B.FileBytes.bytes c.args.file.now) in
    let past : length os ≤ c.loop-rank.rank = search rules in
    let is : c.loop-rank.first ≡ words.first_start (g.B.FileBytes.bytes c.args.file.now) =
    sym (ap (λ (xs : List ℕ). fold min c.loop-rank.first (filter (nat_lt 0) xs))
    (drop_all c.loop-rank.rank os past)) ∙ c.loop-rank.invariant in
    let most = least_most (length (g.B.FileBytes.bytes c.args.file.now)) (filter (nat_lt 0) os) in
    omega arith

pub returns-clause-after : goal.returns-clause-after
returns-clause-after g c =
    let os : List ℕ = offsets_in (g.B.FileBytes.bytes c.args.file.now) in
    let past : length os ≤ c.loop-rank.rank = search rules in
    let is : c.loop-rank.first ≡ words.first_start (g.B.FileBytes.bytes c.args.file.now) =
    sym (ap (λ (xs : List ℕ). fold min c.loop-rank.first (filter (nat_lt 0) xs))
    (drop_all c.loop-rank.rank os past)) ∙ c.loop-rank.invariant in
    let least = first_after (g.B.FileBytes.bytes c.args.file.now) c.requires in
    omega arith
