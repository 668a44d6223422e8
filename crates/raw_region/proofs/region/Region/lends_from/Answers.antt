use Rattle.std.proofs.Common.{◌≤◌, sym, subst, arith}
use Rattle.heap_model.specs.Memory.{Memory}
use Rattle.raw_region.specs.Marks.{BeginsAt, IsMarkable}
use Rattle.raw_region.proofs.MarkLaws.{even_at, begins_inside}
use Rattle.raw_region.proofs.region.Region.lends_from.Goals as goal
use Rattle.raw_region.proofs.region.Region.lends_from.Goals.{then-at-eq0-via-then-at-eq0, then-at-eq0-via-else-at-eq0+then-at-ne0, then-at-eq0-via-else-at-eq0+else-at-ne0+then-at-self}

pub returns-then-at-eq0 : goal.returns-then-at-eq0
returns-then-at-eq0 c = (
  λ bad. absurd cc,
  λ begins.
      let here : BeginsAt c.args.at c.self.inside.run.lents = subst (λ (m : Memory). BeginsAt c.args.at m.lents) (sym c.self.view_is) begins in
      let ok : IsMarkable c.args.at = even_at c.self.inside.run.lents c.args.at c.self.invariant.3.even here in
      let some = ok.0 in
      let even = ok.1 in
      let inside : c.args.at ≤ c.self.inside.run.len = begins_inside c.self.inside.run.ptr c.self.inside.run.len c.args.at c.self.inside.run.lents c.self.invariant.2.0 here in
      let len = c.self.invariant.0 in
      elim c.then-at-eq0.branch [
        | then-at-eq0-via-then-at-eq0 w ↦ let none = w.if-at-eq0.true in absurd (omega (arith, some, none))
        | then-at-eq0-via-else-at-eq0+then-at-ne0 w ↦ let odd = w.if-at-ne0.true in absurd (odd even)
        | then-at-eq0-via-else-at-eq0+else-at-ne0+then-at-self w ↦ let out = w.if-at-self.true in absurd (omega (arith, inside, len, out))
      ],
)
