-- The chunks before `at` are packed, and all room but the last is in its list.
use Rattle.heap_compact.proofs.Words.{◌-◌, ◌+◌, ◌≡◌, AreLists, Before, PacksUpTo, HoldsHeap}
use Rattle.heap_compact.proofs.pack.pack.Given as goal

abbrev pub invariant-loop-at : goal.invariant-loop-at
invariant-loop-at l = PacksUpTo l.initial.region.bytes l.region.bytes l.start l.end l.at l.slid l.room × (l.region.slid ≡ l.initial.region.slid + l.slid) × AreLists (Before (l.at - l.room)) l.region.bytes l.lists × HoldsHeap l.region × (l.region.lents ≡ l.initial.region.lents)

abbrev pub decreases-loop-at : goal.decreases-loop-at
decreases-loop-at l = l.end - l.at
