-- The slot 0 has no chunk, so none that is locked.
use Rattle.palm_store.proofs.Words.{refl, ap, ◌∙◌, subst, false, both_ways, LiveChunk, Of, IsLocked, held, held-zero}
use Rattle.std.specs.Prelude.{Option}
use Rattle.palm_store.proofs.databases.clearing.is_locked.Goals as goal

pub returns-then-slot-eq0 : goal.returns-then-slot-eq0
returns-then-slot-eq0 c = (λ locked. absurd (both_ways false refl locked), λ is. absurd (subst (λ (o : Option LiveChunk). Of o IsLocked) (ap (held c.args.heap.now.bytes) c.if-slot-eq0.true ∙ held-zero _ c.requires.heap) is))
