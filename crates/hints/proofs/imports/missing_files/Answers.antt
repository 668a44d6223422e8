use Rattle.std.proofs.Common.{arith}
use Rattle.hints.proofs.Missing.{whole}
use Rattle.hints.proofs.imports.missing_files.Goals as goal

pub returns-clause-missing : goal.returns-clause-missing
returns-clause-missing g c =
    whole c.args.count c.args.lines.now c.args.numbers.now c.loop-index.index c.loop-index.missing.items (omega (arith, c.min-index-end.ensures)) c.loop-index.invariant
