-- What was found has a chunk.
use Rattle.mem_manager.proofs.Words.{refl, sym, subst, IsSome, name_held}
use Rattle.mem_manager.proofs.lookup.is_fixed.Goals as goal

pub returns-in-Some-clause-there : goal.returns-in-Some-clause-there
returns-in-Some-clause-there c = subst IsSome (sym (name_held c.args.space.now.bytes c.args.name.0 _ c.holds.ensures.accepted c.in-Some.ensures.found)) refl
