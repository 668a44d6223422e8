use Rattle.std.proofs.Common.{List, ℕ, subst}
use Rattle.std.specs.Prelude.{option_map}
use Rattle.file_commands.specs.Ends.{EndsChanges}
use Rattle.file_commands.proofs.changes_command.cmd_changes_from.Goals as goal

pub returns-in-Ok-clause-ends : goal.returns-in-Ok-clause-ends
returns-in-Ok-clause-ends g c =
    subst (λ (file : List ℕ). EndsChanges (option_map (λ path. path.now) c.args.path) file g.V.Write.contents c.args.out.now c.say_changes.new.out c.say_changes.result) c.in-Ok.ensures.opened c.say_changes.ensures.ends
