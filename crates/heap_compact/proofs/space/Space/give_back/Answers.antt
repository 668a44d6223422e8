-- The lists are built, and the chunk that became free is in its own.
use Rattle.heap_compact.proofs.Laws.{◌-◌, sym, subst, ◌∙◌, ap, Memory, directory_of, Alters, freed, WritesPlain, IsOne, plain_then, same_found, then_freed, viewed_space}
use Rattle.heap_compact.proofs.space.Space.give_back.Goals.{After-release_listed}
use Rattle.heap_compact.proofs.space.Space.give_back.Goals as goal

gone : (c : After-release_listed) → Alters c.args.self.now.bytes c.release_listed.new.region.bytes (c.args.found.place.0 - 8) freed
gone c =
    subst (λ m. Alters m.bytes c.release_listed.new.region.bytes (c.args.found.place.0 - 8) freed) c.self.view_is
    (then_freed _ _ c.self.invariant.heap.accepted c.build.ensures.same
    (rw (← c.self.view_is) at c.requires.found) c.release_listed.ensures.gone)

pub release_listed-requires-clause-found : goal.release_listed-requires-clause-found
release_listed-requires-clause-found c =
    same_found c.args.found c.self.invariant.heap.accepted c.build.ensures.same
    (subst (λ (m : Memory). IsOne m.bytes c.args.found) (sym c.self.view_is) c.requires.found)

pub release_listed-requires-clause-no_directory : goal.release_listed-requires-clause-no_directory
release_listed-requires-clause-no_directory c e = c.requires.no_directory (e ∙ c.build.ensures.same.frame.directory ∙ ap (λ m. directory_of m.bytes) c.self.view_is)

pub returns-clause-gone : goal.returns-clause-gone
returns-clause-gone c = gone (goal.at.returns-clause-gone c).After-release_listed

pub returns-clause-plain : goal.returns-clause-plain
returns-clause-plain c =
    subst (λ (m : Memory). WritesPlain m.bytes c.release_listed.new.region.bytes) c.self.view_is
    (plain_then _ _ _ c.build.ensures.plain c.release_listed.ensures.plain)

pub invariant_of-self : goal.invariant_of-self
invariant_of-self c =
    viewed_space c.self.view_is c.release_listed.ensures.heap c.release_listed.ensures.lists
    (gone (goal.at.invariant_of-self c).After-release_listed).frame c.self.invariant.tables
