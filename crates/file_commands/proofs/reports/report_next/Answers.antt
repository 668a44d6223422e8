use Rattle.std.proofs.Common.{List, ℕ, Option, subst, inl, inr}
use Rattle.file_commands.specs.FilesRead.{bytes_of_read}
use Rattle.palm_text.specs.Output.{output}
use Rattle.file_commands.specs.Reports.{EndsReport}
use Rattle.file_commands.proofs.Reported.{not_read, reported}
use Rattle.file_commands.proofs.reports.report_next.Goals as goal

pub returns-in-Err-clause-ends : goal.returns-in-Err-clause-ends
returns-in-Err-clause-ends g c =
    not_read (g.I.Inputs.gives c.args.inputs.now) (g.A.Allowance.is_short c.args.memory.now) c.args.asked.report c.args.asked.named c.args.path.now g.V.Write.contents c.args.out.now c.in-Err.status c.in-Err.ensures.gives
    (λ is. elim c.in-Err.ensures.faults [
      | inl read ↦ cc
      | inr short ↦ cc
    ])

pub returns-clause-ends : goal.returns-clause-ends
returns-clause-ends g c =
    let file = bytes_of_read c.in-Ok.file in
    reported (g.I.Inputs.gives c.args.inputs.now) (g.A.Allowance.is_short c.args.memory.now) c.args.asked.report c.args.asked.named c.args.path.now g.V.Write.contents file c.args.out.now c.cmd_report_from-status.new.out c.cmd_report_from-status.result
    c.in-Ok.ensures.gives c.cmd_report_from-status.ensures.short
    (subst (λ (shown : Option (List ℕ)). EndsReport c.args.asked.report shown file (output g.V.Write.contents c.args.out.now c.cmd_report_from-status.new.out) c.cmd_report_from-status.result) c.path_if-shown.ensures c.cmd_report_from-status.ensures.ends)
