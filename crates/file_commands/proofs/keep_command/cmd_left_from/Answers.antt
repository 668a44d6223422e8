use Rattle.std.proofs.Common.{List, ℕ, subst}
use Rattle.std.specs.Prelude.{option_map}
use Rattle.file_commands.specs.Keeps.{EndsLeft}
use Rattle.file_commands.proofs.keep_command.cmd_left_from.Goals as goal

pub returns-in-Ok-clause-ends : goal.returns-in-Ok-clause-ends
returns-in-Ok-clause-ends g c =
    subst (λ (file : List ℕ). EndsLeft c.args.keep (option_map (λ path. path.now) c.args.path) file g.V.Write.contents c.args.out.now c.say_left.new.out c.say_left.result) c.in-Ok.ensures.opened c.say_left.ensures.ends
