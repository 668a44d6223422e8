use Rattle.std.proofs.Common.{[], ◌-◌, ◌≡◌}
use Rattle.heap_migration.specs.Writing.{WroteUpTo}
use Rattle.heap_migration.proofs.chunks.lower_offsets.Given as goal

abbrev pub invariant-loop-at : goal.invariant-loop-at
invariant-loop-at l = record {
  wrote : WroteUpTo l.image.bytes l.fn.grown.bytes l.grown.bytes l.by l.at;
  whole : l.grown.lents ≡ [];
}

abbrev pub decreases-loop-at : goal.decreases-loop-at
decreases-loop-at l = l.end - l.at
