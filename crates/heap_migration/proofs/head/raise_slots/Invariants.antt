use Rattle.std.proofs.Common.{[], ◌-◌, ◌≡◌}
use Rattle.heap_migration.specs.Writing.{RaisedUpTo}
use Rattle.heap_migration.proofs.head.raise_slots.Given as goal

abbrev pub invariant-loop-slot : goal.invariant-loop-slot
invariant-loop-slot l = record {
  raised : RaisedUpTo l.image.bytes l.fn.grown.bytes l.grown.bytes l.by l.slot;
  whole : l.grown.lents ≡ [];
}

abbrev pub decreases-loop-slot : goal.decreases-loop-slot
decreases-loop-slot l = l.end - l.slot
