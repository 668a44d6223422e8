-- `entry` of `ReplacingExactSource` meets its contract, by the laws of ReplacedFiles.
use Rattle.std.proofs.Common.{arith}
use Rattle.file_parts.proofs.ReplacedFiles.{entry_count, values_at}
use Rattle.file_parts.proofs.replaced.ReplacingExactSource.entry.Goals as goal

pub entry-requires : goal.entry-requires
entry-requires c =
    let count = entry_count c.args.self.now in
    let inside = c.requires.inside in
    omega (arith, count, inside)

pub returns-clause-is : goal.returns-clause-is
returns-clause-is c = values_at c.args.self.now c.args.index _ c.requires.inside c.entry.ensures.is
