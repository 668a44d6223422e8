use Rattle.std.proofs.Common.{List, ℕ, subst, ◌∙◌}
use Rattle.std.specs.Prelude.{is_ok}
use Rattle.palm_text.specs.Counted.{Writes}
use Rattle.store_check.specs.Faults.{store_fault_name}
use Rattle.heap_check.specs.declared.fault.Numbers.{Numbers}
use Rattle.image_commands.specs.FaultLines.{formed}
use Rattle.image_commands.proofs.faults.put_fault.Goals as goal

pub returns : goal.returns
returns g c =
    subst (λ (numbers : Numbers). Writes g.W.Write.contents c.args.out.now c.put_named.new.out (formed c.args.form (store_fault_name c.args.fault) numbers) (is_ok c.put_named.result)) c.numbers.ensures
    (subst (λ (name : List ℕ). Writes g.W.Write.contents c.args.out.now c.put_named.new.out (formed c.args.form name c.numbers.result) (is_ok c.put_named.result)) (c.as_bytes.ensures.value ∙ c.name.ensures) c.put_named.ensures)
