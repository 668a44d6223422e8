use Rattle.std.proofs.Common.{rules}
use Rattle.palm_text.specs.Output.{output}
use Rattle.image_commands.proofs.Checked.{fault_ends, summary_ends}
use Rattle.image_commands.proofs.commands.check_region_from.Goals as goal

pub returns-in-Ok-clause-ends : goal.returns-in-Ok-clause-ends
returns-in-Ok-clause-ends g c =
    summary_ends c.args.form (output g.V.Write.contents c.args.out.now c.say_summary.new.out) c.args.region.now.bytes c.in-Ok.summary c.say_summary.result (search rules) (search rules) c.say_summary.ensures.said c.say_summary.ensures.no_memory

pub returns-in-Err-2-clause-ends : goal.returns-in-Err-2-clause-ends
returns-in-Err-2-clause-ends g c =
    fault_ends c.args.form (output g.V.Write.contents c.args.out.now c.say_fault.new.out) c.args.region.now.bytes c.in-Err.fault c.say_fault.result (search rules) (search rules) (search rules) c.say_fault.ensures
