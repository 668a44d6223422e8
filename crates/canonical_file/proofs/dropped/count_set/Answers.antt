-- `count_set` returns how many bytes aren't zero, by the contracts of its calls.
use Rattle.std.proofs.Common.{◌≤◌, ◌∙◌, length, ap, arith}
use Rattle.std.specs.Prelude.{count_by}
use Rattle.std.proofs.lemmas.List.{take_all}
use Rattle.canonical_file.specs.Dropped.{is_set}
use Rattle.canonical_file.proofs.dropped.count_set.Goals as goal

pub returns : goal.returns
returns c =
    let xs = c.args.bytes.now in
    let i = c.loop-byte.byte-index in
    let past : length xs ≤ i = omega arith in
    c.loop-byte.invariant.same ∙ ap (count_by is_set) (take_all i xs past)
