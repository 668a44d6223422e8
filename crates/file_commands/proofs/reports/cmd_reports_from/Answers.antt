use Rattle.std.proofs.Common.{◌≢◌, ◌+◌, sym, subst, take, map, true, ℕ, List, Bor}
use Rattle.palm_text.specs.Output.{output}
use Rattle.program_io.specs.declared.status.Status.{Status}
use Rattle.program_io.specs.declared.status.Status.TheVariants.{BadWords, WriteFault}
use Rattle.file_commands.specs.Reports.{MayReport, PrintsReports}
use Rattle.file_commands.proofs.Reported.{breaks_off, goes_on, one_of}
use Rattle.file_commands.proofs.reports.cmd_reports_from.Goals as goal

pub returns-in-WriteFault-clause-ends : goal.returns-in-WriteFault-clause-ends
returns-in-WriteFault-clause-ends g c =
    let may = MayReport (g.I.Inputs.gives c.args.inputs.now) (g.A.Allowance.is_short c.args.memory.now) c.args.asked.report c.args.asked.named in
    breaks_off may g.V.Write.contents (λ (path : Bor (List ℕ)). path.now) c.args.asked.paths.now c.loop-path.path-index _ c.args.out.now c.loop-path.out c.report_next.new.out c.loop-path.worst c.report_next.result c.loop-path-test.true c.loop-path.invariant.printed c.report_next.ensures.ends c.in-WriteFault.is

pub loop-path-preserved : goal.loop-path-preserved
loop-path-preserved g c =
    let may = MayReport (g.I.Inputs.gives c.args.inputs.now) (g.A.Allowance.is_short c.args.memory.now) c.args.asked.report c.args.asked.named in
    let worst = c.loop-path.worst in
    let no_write = c.in_default.not-WriteFault in
    let is = sym c.worse-worst.ensures in
    record {
      printed = subst (λ (s : Status). PrintsReports may (map (λ (path : Bor (List ℕ)). path.now) (take (c.loop-path.path-index + 1) c.args.asked.paths.now)) (output g.V.Write.contents c.args.out.now c.report_next.new.out) s true) is
          (goes_on may g.V.Write.contents (λ (path : Bor (List ℕ)). path.now) c.args.asked.paths.now c.loop-path.path-index _ c.args.out.now c.loop-path.out c.report_next.new.out worst c.report_next.result c.loop-path-test.true c.loop-path.invariant.printed c.report_next.ensures.ends no_write);
      no_write = subst (λ (s : Status). s ≢ WriteFault) is (one_of (λ (s : Status). s ≢ WriteFault) worst c.report_next.result c.loop-path.invariant.no_write no_write);
      good_words = subst (λ (s : Status). s ≢ BadWords) is (one_of (λ (s : Status). s ≢ BadWords) worst c.report_next.result c.loop-path.invariant.good_words c.report_next.ensures.good_words);
    }
