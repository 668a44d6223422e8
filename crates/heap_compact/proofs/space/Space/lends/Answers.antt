-- A body's place can be marked.
use Rattle.heap_compact.proofs.Words.{ap, length, arith, Memory, bytes_inside, found_markable}
use Rattle.heap_compact.proofs.KeptLaws.{viewed_heap}
use Rattle.heap_compact.proofs.space.Space.lends.Goals as goal

pub lends_at-requires : goal.lends_at-requires
lends_at-requires c =
    let inside = bytes_inside _ _ (viewed_heap c.self.view_is c.self.invariant.heap).accepted c.requires.found in
    let same = ap (λ (m : Memory). length m.bytes) c.self.view_is in
    ((found_markable _ _ (viewed_heap c.self.view_is c.self.invariant.heap).accepted c.requires.found).0, omega (arith, inside, same))
