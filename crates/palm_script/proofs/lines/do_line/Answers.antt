use Rattle.std.proofs.Common.{◌∙◌, refl, sym, ap}
use Rattle.std.specs.Prelude.{is_ok}
use Rattle.palm_script.proofs.LineLaws.{reads_line}
use Rattle.palm_script.proofs.lines.do_line.Goals.{in-Ok-read, in-Err-read}
use Rattle.palm_script.proofs.lines.do_line.Goals as goal

pub returns-in-Ok-put : goal.returns-in-Ok-put
returns-in-Ok-put g c = elim c.match-read.branch [
  | in-Ok-read w ↦
      reads_line _ c.args.line.now c.args.store.now _ c.args.out.now _ _ c.in-Reads.name c.in-Reads.at c.in-Reads.count _ _ _ c.outcome_of.new.store c.in-Reads.ensures.answers.0 c.in-Reads.ensures.answers.1 w.in-Ok-read.ensures.does (λ e. absurd cc) refl refl
      w.put_data-put.ensures w.out-is (ap is_ok (sym w.put-is ∙ c.in-Ok-put.is)) refl
  | in-Err-read w ↦
      reads_line _ c.args.line.now c.args.store.now _ c.args.out.now _ _ c.in-Reads.name c.in-Reads.at c.in-Reads.count _ _ _ c.outcome_of.new.store c.in-Reads.ensures.answers.0 c.in-Reads.ensures.answers.1 w.in-Err-read.ensures.does (λ e. w.in-Err-read.ensures.takes_no_memory cc) refl refl
      w.put_refusal-put.ensures w.out-is (ap is_ok (sym w.put-is ∙ c.in-Ok-put.is)) refl
]

pub returns-in-Err-put : goal.returns-in-Err-put
returns-in-Err-put g c = elim c.match-read.branch [
  | in-Ok-read w ↦
      reads_line _ c.args.line.now c.args.store.now _ c.args.out.now _ _ c.in-Reads.name c.in-Reads.at c.in-Reads.count _ _ _ c.outcome_of.new.store c.in-Reads.ensures.answers.0 c.in-Reads.ensures.answers.1 w.in-Ok-read.ensures.does (λ e. absurd cc) refl refl
      w.put_data-put.ensures w.out-is (ap is_ok (sym w.put-is ∙ c.in-Err-put.is)) tt
  | in-Err-read w ↦
      reads_line _ c.args.line.now c.args.store.now _ c.args.out.now _ _ c.in-Reads.name c.in-Reads.at c.in-Reads.count _ _ _ c.outcome_of.new.store c.in-Reads.ensures.answers.0 c.in-Reads.ensures.answers.1 w.in-Err-read.ensures.does (λ e. w.in-Err-read.ensures.takes_no_memory cc) refl refl
      w.put_refusal-put.ensures w.out-is (ap is_ok (sym w.put-is ∙ c.in-Err-put.is)) tt
]
