use Rattle.std.proofs.Common.{◌++◌, List, ℕ, sym, subst}
use Rattle.std.specs.Prelude.{decimal, is_ok}
use Rattle.std.proofs.lemmas.List.{append-nil}
use Rattle.palm_text.specs.Counted.{Writes}
use Rattle.heap_check.specs.declared.fault.Numbers.{Numbers}
use Rattle.image_commands.specs.FaultLines.{formed}
use Rattle.image_commands.proofs.faults.put_named.Goals as goal

pub returns-in-One : goal.returns-in-One
returns-in-One g c =
    let form = c.args.form in
    subst (λ (numbers : Numbers). Writes g.W.Write.contents c.args.out.now c.put_pieces-in-One.new.out (formed form c.args.name.now numbers) (is_ok c.put_pieces-in-One.result)) (sym c.in-One.is)
    (subst (λ (end : List ℕ). Writes g.W.Write.contents c.args.out.now c.put_pieces-in-One.new.out (form.front.now ++ (c.args.name.now ++ (form.named.now ++ (form.first.now ++ (decimal c.in-One.number ++ end))))) (is_ok c.put_pieces-in-One.result)) (append-nil form.end.now) c.put_pieces-in-One.ensures)

pub returns-in-Two : goal.returns-in-Two
returns-in-Two g c =
    let form = c.args.form in
    subst (λ (numbers : Numbers). Writes g.W.Write.contents c.args.out.now c.put_pieces-in-Two.new.out (formed form c.args.name.now numbers) (is_ok c.put_pieces-in-Two.result)) (sym c.in-Two.is)
    (subst (λ (end : List ℕ). Writes g.W.Write.contents c.args.out.now c.put_pieces-in-Two.new.out (form.front.now ++ (c.args.name.now ++ (form.named.now ++ (form.first.now ++ (decimal c.in-Two.low ++ (form.between.now ++ (decimal c.in-Two.high ++ end))))))) (is_ok c.put_pieces-in-Two.result)) (append-nil form.end.now) c.put_pieces-in-Two.ensures)
