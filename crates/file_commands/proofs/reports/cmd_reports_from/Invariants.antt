use Rattle.std.proofs.Common.{◌≢◌, true, take}
use Rattle.std.specs.Prelude.{map}
use Rattle.palm_text.specs.Output.{output}
use Rattle.program_io.specs.declared.status.Status.TheVariants.{BadWords, WriteFault}
use Rattle.file_commands.specs.Reports.{MayReport, PrintsReports}
use Rattle.file_commands.proofs.reports.cmd_reports_from.Given as goal

-- the reports of the paths so far are printed
abbrev pub invariant-loop-path : goal.invariant-loop-path
invariant-loop-path g l = record {
  printed : PrintsReports (MayReport (g.I.Inputs.gives l.inputs) (g.A.Allowance.is_short l.memory) l.asked.report l.asked.named) (map (λ path. path.now) (take l.path-index l.asked.paths.now)) (output g.V.Write.contents l.fn.out l.out) l.worst true;
  no_write : l.worst ≢ WriteFault;
  good_words : l.worst ≢ BadWords;
}
