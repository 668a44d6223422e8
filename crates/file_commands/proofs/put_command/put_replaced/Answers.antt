use Rattle.std.proofs.Common.{ℕ, true, subst}
use Rattle.palm_text.specs.Output.{Puts}
use Rattle.file_commands.specs.Ends.{written_line}
use Rattle.file_commands.proofs.put_command.put_replaced.Goals as goal

pub returns-in-Ok-clause-told : goal.returns-in-Ok-clause-told
returns-in-Ok-clause-told g c = λ e.
    subst (λ (n : ℕ). Puts g.V.Write.contents c.args.out.now c.say_count.new.out (written_line n) true) c.size.ensures (c.say_count.ensures.done e)
