use Rattle.std.proofs.Common.{sym, subst}
use Rattle.std.specs.Prelude.{option_map}
use Rattle.palm_text.specs.Output.{output}
use Rattle.file_commands.specs.declared.reports.Report.{Report}
use Rattle.file_commands.specs.Reports.{EndsReport}
use Rattle.file_commands.proofs.reports.cmd_report_from.Goals as goal

pub returns-in-Listing-clause-ends : goal.returns-in-Listing-clause-ends
returns-in-Listing-clause-ends g c =
    subst (λ (report : Report). EndsReport report (option_map (λ path. path.now) c.args.path) (g.B.FileBytes.bytes c.args.file.now) (output g.V.Write.contents c.args.out.now c.cmd_list_from.new.out) c.cmd_list_from.result) (sym c.in-Listing.is) c.cmd_list_from.ensures.ends

pub returns-in-Document-clause-ends : goal.returns-in-Document-clause-ends
returns-in-Document-clause-ends g c =
    subst (λ (report : Report). EndsReport report (option_map (λ path. path.now) c.args.path) (g.B.FileBytes.bytes c.args.file.now) (output g.V.Write.contents c.args.out.now c.cmd_list_from-in-Document.new.out) c.cmd_list_from-in-Document.result) (sym c.in-Document.is) c.cmd_list_from-in-Document.ensures.ends

pub returns-in-Changes-clause-ends : goal.returns-in-Changes-clause-ends
returns-in-Changes-clause-ends g c =
    subst (λ (report : Report). EndsReport report (option_map (λ path. path.now) c.args.path) (g.B.FileBytes.bytes c.args.file.now) (output g.V.Write.contents c.args.out.now c.cmd_changes_from.new.out) c.cmd_changes_from.result) (sym c.in-Changes.is) c.cmd_changes_from.ensures.ends

pub returns-in-Left-clause-ends : goal.returns-in-Left-clause-ends
returns-in-Left-clause-ends g c =
    subst (λ (report : Report). EndsReport report (option_map (λ path. path.now) c.args.path) (g.B.FileBytes.bytes c.args.file.now) (output g.V.Write.contents c.args.out.now c.cmd_left_from.new.out) c.cmd_left_from.result) (sym c.in-Left.is) c.cmd_left_from.ensures.ends
