use Rattle.std.proofs.Common.{arith}
use Rattle.script_commands.proofs.HexLaws.{lent_twice}
use Rattle.script_commands.proofs.lent_bytes.LentBytes.len.Goals as goal

pub returns-then-self : goal.returns-then-self
returns-then-self c =
    let long = lent_twice c.self.inside.is_hex c.self.inside.text.now c.args.self.now c.self.invariant c.self.view_is c.if-self.true in
    omega (arith, long)
