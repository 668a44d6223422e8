use Rattle.std.proofs.Common.{List, ℕ, subst}
use Rattle.palm_text.specs.Output.{output}
use Rattle.file_commands.specs.Ends.{RewritesWhole}
use Rattle.file_commands.proofs.canonical_command.put_flushed.Goals as goal

pub returns-in-Ok : goal.returns-in-Ok
returns-in-Ok g c =
    subst (λ (file : List ℕ). RewritesWhole file (output g.W.Write.contents c.args.file_out.now c.put_opened.new.file_out) (g.A.Allowance.is_short c.args.memory.now) c.put_opened.result) c.in-Ok.ensures.opened c.put_opened.ensures
