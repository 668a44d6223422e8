-- `entry` of `KeepingExactSource` meets its contract, by the laws of KeptSources.
use Rattle.std.proofs.Common.{arith}
use Rattle.file_parts.proofs.KeptSources.{entry_count, values_at}
use Rattle.file_parts.proofs.kept.KeepingExactSource.entry.Goals as goal

pub entry_with_id-requires-clause-inside : goal.entry_with_id-requires-clause-inside
entry_with_id-requires-clause-inside c =
    let count = entry_count c.args.self.now in
    let inside = c.requires.inside in
    omega (arith, count, inside)

pub returns-clause-is : goal.returns-clause-is
returns-clause-is c =
    values_at c.args.self.now c.args.index 0 _ c.requires.inside c.entry_with_id.ensures.is
