-- The owner's chunks become free, and all lists are built.
use Rattle.heap_compact.proofs.Laws.{subst, Memory, Becomes, layout_of, owned_freed, WritesPlain, plain_then, becomes_twice, kept_space}
use Rattle.heap_compact.proofs.space.Space.give_back_owned.Goals as goal

pub release_owned-count-requires-clause-none_lent : goal.release_owned-count-requires-clause-none_lent
release_owned-count-requires-clause-none_lent c = rw (← c.self.view_is) at c.requires.none_lent

pub returns-clause-gone : goal.returns-clause-gone
returns-clause-gone c =
    subst (λ m. Becomes m.bytes c.gather.new.region.bytes (owned_freed c.args.owner (layout_of m.bytes))) c.self.view_is
    (becomes_twice _ _ _ _ c.release_owned-count.ensures.gone c.gather.ensures.same)

pub returns-clause-plain : goal.returns-clause-plain
returns-clause-plain c =
    subst (λ (m : Memory). WritesPlain m.bytes c.gather.new.region.bytes) c.self.view_is
    (plain_then _ _ _ c.release_owned-count.ensures.plain c.gather.ensures.plain)

pub invariant_of-self : goal.invariant_of-self
invariant_of-self c =
    kept_space c.gather.ensures.heap c.gather.ensures.lists (becomes_twice _ _ _ _ c.release_owned-count.ensures.gone c.gather.ensures.same).frame c.self.invariant.tables
