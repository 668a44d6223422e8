use Rattle.std.proofs.Common.{ℕ, List, string_bytes, true}
use Rattle.palm_text.specs.Output.{Puts}
use Rattle.file_commands.proofs.PartCounts.{line_said}
use Rattle.file_commands.proofs.line_faults.say_line_fault.Goals as goal

pub returns-clause-said : goal.returns-clause-said
returns-clause-said g c = λ refused.
    line_said string_bytes c.args.fault (λ (text : List ℕ). Puts g.V.Write.contents c.args.out.now c.say_text.new.out text true) c.line_fault_text.result c.line_fault_text.ensures.line (c.say_text.ensures.said refused)
