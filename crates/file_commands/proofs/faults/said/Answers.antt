use Rattle.std.proofs.Common.{Bool, true, false, ap, subst}
use Rattle.std.specs.Prelude.{is_ok}
use Rattle.palm_text.specs.Counted.{Writes}
use Rattle.palm_text.proofs.Parts.{then_flush}
use Rattle.file_commands.proofs.faults.said.Goals as goal

pub returns-in-Ok-flushed-clause-said : goal.returns-in-Ok-flushed-clause-said
returns-in-Ok-flushed-clause-said g c = λ _ start text written.
    then_flush g.V.Write.contents start c.args.out.now c.flushed.new.out text true
    (subst (λ (ok : Bool). Writes g.V.Write.contents start c.args.out.now text ok) (ap is_ok c.in-Ok.is) written) c.in-Ok-flushed.ensures

pub returns-in-Err-flushed-clause-fault : goal.returns-in-Err-flushed-clause-fault
returns-in-Err-flushed-clause-fault g c = λ _ start text written.
    then_flush g.V.Write.contents start c.args.out.now c.flushed.new.out text false
    (subst (λ (ok : Bool). Writes g.V.Write.contents start c.args.out.now text ok) (ap is_ok c.in-Ok.is) written) c.in-Err-flushed.ensures
