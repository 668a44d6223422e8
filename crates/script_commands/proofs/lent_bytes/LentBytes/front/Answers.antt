use Rattle.std.proofs.Common.{◌*◌, arith, length-take-le, refl, sym}
use Rattle.script_commands.proofs.HexLaws.{lent_front, lent_twice}
use Rattle.script_commands.proofs.lent_bytes.LentBytes.front.Goals as goal

pub overflow_mul-result : goal.overflow_mul-result
overflow_mul-result c =
    let long = lent_twice c.self.inside.is_hex c.self.inside.text.now c.args.self.now c.self.invariant c.self.view_is c.if-self.true in
    omega (arith, long, c.self.told.0, c.min-count.ensures, c.len.ensures)

pub slice_bounds-result-end : goal.slice_bounds-result-end
slice_bounds-result-end c =
    let long = lent_twice c.self.inside.is_hex c.self.inside.text.now c.args.self.now c.self.invariant c.self.view_is c.if-self.true in
    sym (length-take-le (2 * c.min-count.result) c.self.inside.text.now (omega (arith, long, c.min-count.ensures, c.len.ensures)))

pub invariant_of-result : goal.invariant_of-result
invariant_of-result c = λ _.
    rw (lent_front c.self.inside.is_hex c.self.inside.text.now c.args.self.now c.args.most c.min-count.result c.self.invariant c.self.view_is c.if-self.true (rw c.len.ensures at c.min-count.ensures)) refl

pub returns-then-self : goal.returns-then-self
returns-then-self c =
    rw (lent_front c.self.inside.is_hex c.self.inside.text.now c.args.self.now c.args.most c.min-count.result c.self.invariant c.self.view_is c.if-self.true (rw c.len.ensures at c.min-count.ensures)) refl
