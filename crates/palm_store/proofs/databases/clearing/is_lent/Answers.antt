-- The slot 0 has no chunk, so nothing of it is lent.
use Rattle.palm_store.proofs.Words.{refl, ap, ◌∙◌, false, both_ways, held, unheld_here, held-zero}
use Rattle.palm_store.proofs.databases.clearing.is_lent.Goals as goal

pub returns-then-slot-eq0 : goal.returns-then-slot-eq0
returns-then-slot-eq0 c = (
  λ lent. absurd (both_ways false refl lent),
  λ lent. absurd (unheld_here c.args.heap.now _ (ap (held c.args.heap.now.bytes) c.if-slot-eq0.true ∙ held-zero _ c.requires.heap) lent),
)
