-- Behind those of the info blocks the sizes are the entries'.
use Rattle.std.proofs.Common.{◌≤◌, arith}
use Rattle.palm_store.proofs.GainedChunks.{size_behind}
use Rattle.palm_store.proofs.databases.whole.size_at.Goals as goal

pub returns-in_default : goal.returns-in_default
returns-in_default c =
    let inside = c.requires.inside in
    let past : 2 ≤ c.args.index = (let d = c.in_default in omega arith) in
    size_behind _ _ _ _ past (omega (arith, inside))
