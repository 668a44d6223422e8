-- Which chunks calls move. Steps say only that locked and fixed chunks stay.
use Rattle.std.specs.Prelude.{◌≡◌, ◌+◌, ℕ}
use Rattle.heap_model.specs.Memory.{Memory as Region}
use Rattle.heap_model.specs.Chunk.{need}
use Rattle.heap_model.specs.Space.{NoRun, FitsInPlace, MovesNothing, MovesOneStretch, MovesOneStretchAnd, moved_bytes}
use Rattle.heap_model.specs.MoreTables.{gained_length}
use Rattle.heap_model.specs.Reading.{chunks_of}
use Rattle.heap_model.specs.Packing.{Packed, Slid}
use Rattle.heap_model.specs.MemorySteps.{MemoryCall}
use Rattle.heap_model.specs.StoreSteps.{Call}
use Rattle.heap_model.specs.declared.call.Call.TheVariants.{Memory}
use Rattle.heap_model.specs.declared.call.MemoryCall.TheVariants.{HandleNew, PtrNew, Resize, Compact, MoreSlots}

-- A call for a new chunk of `size` bytes. If a run of free chunks has the room, nothing moves.
-- Otherwise only chunks of one stretch move, and no byte is slid twice.
pub record MovesForNew (old : Region) (size : ℕ) (new : Region) : Type 0 where
  pub unmoved : (NoRun (chunks_of old.bytes) (need size) → ⊥) → MovesNothing old.bytes new.bytes
  pub one_stretch : MovesOneStretch old.bytes new.bytes
  pub once : new.slid ≡ old.slid + moved_bytes old.bytes new.bytes

-- A call that resizes a chunk to `size` bytes. If the chunk and the free chunks directly after it
-- have the room, nothing moves. Otherwise only this chunk and chunks of one stretch move.
pub record MovesForResize (old : Region) (name size : ℕ) (new : Region) : Type 0 where
  pub unmoved : FitsInPlace old.bytes name (need size) → MovesNothing old.bytes new.bytes
  pub one_stretch : MovesOneStretchAnd old.bytes new.bytes name

-- A compaction packs each stretch, and keeps the order of its chunks. No byte is slid twice.
pub record MovesForCompact (old new : Region) : Type 0 where
  pub packed : Packed (chunks_of new.bytes)
  pub chunks : Slid (chunks_of old.bytes) (chunks_of new.bytes)
  pub once : new.slid ≡ old.slid + moved_bytes old.bytes new.bytes

-- the chunks that a call of the memory manager moves, even if it is refused
abbrev pub MovesInHeap : Region → MemoryCall → Region → Type 0
MovesInHeap old (HandleNew size owner) new = MovesForNew old size new
MovesInHeap old (PtrNew size owner) new = MovesForNew old size new
MovesInHeap old (Resize name size) new = MovesForResize old name.0 size new
MovesInHeap old Compact new = MovesForCompact old new
MovesInHeap old MoreSlots new = MovesForNew old gained_length new
MovesInHeap old call new = Unit {0}

-- the same for any call; the calls of other managers promise nothing here
abbrev pub Moves : Region → Call → Region → Type 0
Moves old (Memory call) new = MovesInHeap old call new
Moves old call new = Unit {0}
