use Rattle.std.specs.Prelude.{None, ◌-◌}
use Rattle.std.proofs.Common.{arith}
use Rattle.unicode_text.proofs.Short.{all_short}
use Rattle.unicode_text.proofs.characters.character_of.Goals as goal

pub returns-then-byte-lt160-clause-short : goal.returns-then-byte-lt160-clause-short
returns-then-byte-lt160-clause-short c = all_short (c.args.byte - 128) None (omega arith)
