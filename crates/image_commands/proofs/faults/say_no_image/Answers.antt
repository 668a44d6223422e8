use Rattle.std.proofs.Common.{List, ℕ, subst}
use Rattle.palm_text.specs.Output.{output}
use Rattle.program_io.specs.BadLines.{bad_line}
use Rattle.program_io.specs.declared.status.Status.TheVariants.{BadWords}
use Rattle.image_commands.specs.FaultLines.{Says}
use Rattle.image_commands.proofs.faults.say_no_image.Goals as goal

pub returns : goal.returns
returns g c =
    subst (λ (name : List ℕ). Says (output g.V.Write.contents c.args.out.now c.say_bad.new.out) (bad_line name) BadWords c.say_bad.result) c.name.ensures
    (record { statuses = c.say_bad.ensures.status; said = c.say_bad.ensures.said; write = c.say_bad.ensures.fault })
