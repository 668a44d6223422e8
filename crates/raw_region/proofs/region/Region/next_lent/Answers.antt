use Rattle.std.proofs.Common.{subst, List, ℕ, ◌+◌, ◌*◌, ◌/◌}
use Rattle.heap_model.specs.Memory.{Memory}
use Rattle.bit_sets.specs.Sets.{HasNoneFrom, IsLeastFrom}
use Rattle.raw_region.specs.Marks.{IsNextLent, NoneBeginsAbove}
use Rattle.raw_region.proofs.MarkLaws.{next_marked, none_marked_above}
use Rattle.raw_region.proofs.region.Region.next_lent.Goals as goal

pub returns-in-Some-clause-next : goal.returns-in-Some-clause-next
returns-in-Some-clause-next c =
    subst (λ (m : Memory). IsNextLent m.lents c.args.after (8 * c.in-Some.unit)) c.self.view_is
    (next_marked c.self.inside.marks.items c.self.inside.run.len c.self.inside.count c.args.after c.in-Some.unit c.self.inside.run.lents c.self.invariant.3
    (subst (λ (marks : List ℕ). IsLeastFrom marks (c.args.after / 8 + 1) c.in-Some.unit) c.deref.ensures.value c.in-Some.ensures.first))

pub returns-in-None-clause-none : goal.returns-in-None-clause-none
returns-in-None-clause-none c =
    subst (λ (m : Memory). NoneBeginsAbove c.args.after m.lents) c.self.view_is
    (none_marked_above c.self.inside.marks.items c.self.inside.run.len c.self.inside.count c.args.after c.self.inside.run.lents c.self.invariant.3
    (subst (λ (marks : List ℕ). HasNoneFrom marks (c.args.after / 8 + 1)) c.deref.ensures.value c.in-None.ensures.none))
