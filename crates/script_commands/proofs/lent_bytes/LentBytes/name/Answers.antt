use Rattle.std.proofs.Common.{ap, arith, take, ◌∙◌}
use Rattle.std.proofs.lemmas.List.{length-take, take_all}
use Rattle.script_commands.proofs.lent_bytes.LentBytes.name.Goals as goal

pub decoded-requires : goal.decoded-requires
decoded-requires c = record { room = rw c.front.ensures (omega (arith, length-take 32 c.args.self.now)) }

pub returns : goal.returns
returns c =
    c.of.ensures
    ∙ ap (take 32) (c.decoded.ensures ∙ c.front.ensures)
    ∙ take_all 32 (take 32 c.args.self.now) (omega (arith, length-take 32 c.args.self.now))
