-- The rows of the memory manager's calls, like a manual page: each gives a call's refusals, its
-- replies and its effect.
use Rattle.std.specs.Prelude.{◌≡◌, ◌≤◌, ◌<◌, ◌+◌, ◌-◌, ◌++◌, ◌⊎◌, ◌==◌, if◌then◌else◌, ℕ, Bool, true, false, List, [], ◌∷◌, length, not, slice_range, replicate, count_by, Option, Some, None, Result, Ok, Err}
use Rattle.std.specs.Bool.{OnTrue}
use Rattle.std.specs.List.{take_while}
use Rattle.heap_model.specs.Chunk.{fixed_lock, need, is_owned_by, most_locks, managers_owner, data_owner}
use Rattle.heap_model.specs.Memory.{Memory}
use Rattle.heap_model.specs.Heap.{HeapAccepted}
use Rattle.heap_model.specs.Lending.{IsLent, KeepsLoan}
use Rattle.heap_model.specs.Meaning.{LiveChunk, ChunkMap}
use Rattle.heap_model.specs.Reading.{chunks_of, held}
use Rattle.heap_model.specs.Maps.{made, gone, put, sized, relocked, reowned, without_owner, callers_map}
use Rattle.heap_model.specs.Space.{free_total, free_slots, Short, ShortFor, free_behind, rooms, greatest, place_of, Still, moved_bytes}
use Rattle.heap_model.specs.Placing.{SameFrame}
use Rattle.heap_model.specs.MoreTables.{gained_count, HasNoMore, GainsTable}
use Rattle.heap_model.specs.Refusals.{Check, ◌brings◌, ◌may_bring◌}
use Rattle.heap_model.specs.Steps.{Row, StepBy, done, a_number, a_name, locked, data_of, becomes, becomes_named, stays}
use Rattle.heap_model.specs.declared.names.Name.{Name}
use Rattle.heap_model.specs.declared.call.MemoryCall as given
use Rattle.heap_model.specs.declared.call.MemoryCall.TheVariants.{HandleNew, PtrNew, Free, Lock, Unlock, Size, Owner, Locks, Read, Write, Set, StrCopy, Resize, SetOwner, Recover, FreeByOwner, FreeBytes, LargestStretch, Compact, MoreSlots}
use Rattle.heap_model.specs.declared.call.Reply.{Reply}
use Rattle.heap_model.specs.declared.call.Reply.TheVariants.{Refused, Done}
use Rattle.heap_model.specs.declared.refusal.Refusal.{Refusal}
use Rattle.heap_model.specs.declared.refusal.Refusal.TheVariants.{InvalidHandle, OwnedByDatabase, ChunkLocked, ChunkNotLocked, LockOverflow, ChunkFixed, InvalidOwner, NotEnoughSpace, OutOfBounds, OutOfMemory, Lent}

-- ---- calls

-- a call of the memory manager; it gives chunks by their names
abbrev pub MemoryCall : Type 0
MemoryCall = given.MemoryCall Name (List ℕ)

-- the same call, with its chunk and its bytes given in another way
abbrev pub memory_call : {One Other Given Meant : Type 0} → (One → Other) → (Given → Meant) → given.MemoryCall One Given → given.MemoryCall Other Meant
memory_call chunk bytes (HandleNew size owner) = HandleNew size owner
memory_call chunk bytes (PtrNew size owner) = PtrNew size owner
memory_call chunk bytes (Free name) = Free (chunk name)
memory_call chunk bytes (Lock name) = Lock (chunk name)
memory_call chunk bytes (Unlock name) = Unlock (chunk name)
memory_call chunk bytes (Size name) = Size (chunk name)
memory_call chunk bytes (Owner name) = Owner (chunk name)
memory_call chunk bytes (Locks name) = Locks (chunk name)
memory_call chunk bytes (Read name at count) = Read (chunk name) at count
memory_call chunk bytes (Write name at given) = Write (chunk name) at (bytes given)
memory_call chunk bytes (Set name at count byte) = Set (chunk name) at count byte
memory_call chunk bytes (StrCopy name at text) = StrCopy (chunk name) at (bytes text)
memory_call chunk bytes (Resize name size) = Resize (chunk name) size
memory_call chunk bytes (SetOwner name owner) = SetOwner (chunk name) owner
memory_call chunk bytes (Recover place) = Recover place
memory_call chunk bytes (FreeByOwner owner) = FreeByOwner owner
memory_call chunk bytes FreeBytes = FreeBytes
memory_call chunk bytes LargestStretch = LargestStretch
memory_call chunk bytes Compact = Compact
memory_call chunk bytes MoreSlots = MoreSlots

-- ---- words of the rows

-- a property of the chunk that a name stands for
abbrev pub Of : Option LiveChunk → (LiveChunk → Type 0) → Type 0
Of None P = ⊥
Of (Some live) P = P live

-- an owner that no caller may use
abbrev pub IsNoCaller : ℕ → Type 0
IsNoCaller owner = (owner ≡ managers_owner) ⊎ (data_owner ≤ owner)

-- The chunk has a lock count of 1 to 14. A fixed chunk is not locked but fixed.
abbrev pub IsLocked : LiveChunk → Type 0
IsLocked live = (0 < live.lock) × (live.lock < fixed_lock)

-- the `count` bytes from the offset `at` on reach beyond the chunk's end
abbrev pub ReachesBeyond : ℕ → ℕ → LiveChunk → Type 0
ReachesBeyond at count live = length live.bytes < at + count

-- the bytes before the first zero (all bytes if there is none), and then a zero
abbrev pub text_of : List ℕ → List ℕ
text_of bytes = take_while (λ byte. not (byte == 0)) bytes ++ 0 ∷ []

-- no name of the map has its chunk at this place
abbrev pub IsNowhere : List ℕ → ChunkMap → ℕ → Type 0
IsNowhere image map place = (name : ℕ) → Of (map name) (λ live. place_of image name ≡ Some place) → ⊥

-- ---- the rows

abbrev pub unknown : ChunkMap → ℕ → Check
unknown map name = (map name ≡ None) brings InvalidHandle

abbrev pub where_it : ChunkMap → ℕ → (LiveChunk → Type 0) → Refusal → Check
where_it map name P refusal = Of (map name) P brings refusal

-- a chunk of this owner is lent
pub record LendsOf (old : Memory) (map : ChunkMap) (owner : ℕ) : Type 0 where
  pub name : ℕ
  pub owns : Of (map name) (λ live. live.owner ≡ owner)
  pub lent : IsLent old name

abbrev pub no_owner : ℕ → Check
no_owner owner = IsNoCaller owner brings InvalidOwner

abbrev pub lent_out : Memory → ChunkMap → ℕ → Check
lent_out old map name = where_it map name (λ live. IsLent old name) Lent

-- The checks for giving a name's chunk `size` bytes. It may not be lent. If it is locked, it may
-- not move. If it has no lock, there must be room for it.
abbrev pub growth_checks : Memory → ChunkMap → ℕ → ℕ → List Check
growth_checks old map name size =
    lent_out old map name
    ∷ where_it map name (λ live. IsLocked live × (need (length live.bytes) + free_behind old.bytes name < need size)) ChunkLocked
    ∷ where_it map name (λ live. (live.lock ≡ 0) × (need (length live.bytes) < need size) × ShortFor old.bytes name (need size)) NotEnoughSpace
    ∷ []

-- The row of a call on a region. Callers may name the chunks of `map` only. Refusals and replies
-- depend on these chunks; the effect is on all chunks of the region.
abbrev pub row : Memory → ChunkMap → MemoryCall → Row ChunkMap
row old map (HandleNew size owner) = record {
  only_asks = false;
  refusals =
      no_owner owner
      ∷ (((free_slots old.bytes ≡ 0) ⊎ Short old.bytes (need size)) brings NotEnoughSpace)
      ∷ [];
  answers = a_name (λ name. held old.bytes name.0 ≡ None);
  effect = becomes_named (λ name all. made all name.0 size owner 0);
}
row old map (PtrNew size owner) = record {
  only_asks = false;
  refusals =
      no_owner owner
      ∷ (Short old.bytes (need size) brings NotEnoughSpace)
      ∷ [];
  answers = a_name (λ name. held old.bytes name.0 ≡ None);
  effect = becomes_named (λ name all. made all name.0 size owner fixed_lock);
}
row old map (Free name) = record {
  only_asks = false;
  refusals =
      unknown map name.0
      ∷ where_it map name.0 (λ live. live.owner ≡ data_owner) OwnedByDatabase
      ∷ where_it map name.0 IsLocked ChunkLocked
      ∷ lent_out old map name.0
      ∷ [];
  answers = done;
  effect = becomes (λ all. gone all name.0);
}
row old map (Lock name) = record {
  only_asks = false;
  refusals =
      unknown map name.0
      ∷ where_it map name.0 (λ live. live.lock ≡ fixed_lock) ChunkFixed
      ∷ where_it map name.0 (λ live. live.lock ≡ most_locks) LockOverflow
      ∷ [];
  answers = locked (λ place count new. Of (map name.0) (λ live. count ≡ live.lock + 1) × (place_of new.bytes name.0 ≡ Some place.0));
  effect = becomes (λ all. relocked all name.0 (λ lock. lock + 1));
}
row old map (Unlock name) = record {
  only_asks = false;
  refusals =
      unknown map name.0
      ∷ where_it map name.0 (λ live. live.lock ≡ fixed_lock) ChunkFixed
      ∷ where_it map name.0 (λ live. live.lock ≡ 0) ChunkNotLocked
      ∷ lent_out old map name.0
      ∷ [];
  answers = a_number (λ count. Of (map name.0) (λ live. count ≡ live.lock - 1));
  effect = becomes (λ all. relocked all name.0 (λ lock. lock - 1));
}
row old map (Size name) = record {
  only_asks = true;
  refusals = unknown map name.0 ∷ [];
  answers = a_number (λ size. Of (map name.0) (λ live. size ≡ length live.bytes));
  effect = stays;
}
row old map (Owner name) = record {
  only_asks = true;
  refusals = unknown map name.0 ∷ [];
  answers = a_number (λ owner. Of (map name.0) (λ live. owner ≡ live.owner));
  effect = stays;
}
row old map (Locks name) = record {
  only_asks = true;
  refusals = unknown map name.0 ∷ [];
  answers = a_number (λ count. Of (map name.0) (λ live. count ≡ live.lock));
  effect = stays;
}
row old map (Read name at count) = record {
  only_asks = true;
  refusals =
      unknown map name.0
      ∷ lent_out old map name.0
      ∷ where_it map name.0 (ReachesBeyond at count) OutOfBounds
      ∷ (Unit {0} may_bring OutOfMemory)
      ∷ [];
  answers = data_of (λ bytes. Of (map name.0) (λ live. bytes ≡ slice_range live.bytes at (at + count)));
  effect = stays;
}
row old map (Write name at bytes) = record {
  only_asks = false;
  refusals =
      unknown map name.0
      ∷ where_it map name.0 (λ live. live.lock ≡ 0) ChunkNotLocked
      ∷ lent_out old map name.0
      ∷ where_it map name.0 (ReachesBeyond at (length bytes)) OutOfBounds
      ∷ [];
  answers = done;
  effect = becomes (λ all. put all name.0 at bytes);
}
row old map (Set name at count byte) = record {
  only_asks = false;
  refusals =
      unknown map name.0
      ∷ where_it map name.0 (λ live. live.lock ≡ 0) ChunkNotLocked
      ∷ lent_out old map name.0
      ∷ where_it map name.0 (ReachesBeyond at count) OutOfBounds
      ∷ [];
  answers = done;
  effect = becomes (λ all. put all name.0 at (replicate count byte));
}
row old map (StrCopy name at text) = record {
  only_asks = false;
  refusals =
      unknown map name.0
      ∷ where_it map name.0 (λ live. live.lock ≡ 0) ChunkNotLocked
      ∷ lent_out old map name.0
      ∷ where_it map name.0 (ReachesBeyond at (length (text_of text))) OutOfBounds
      ∷ [];
  answers = done;
  effect = becomes (λ all. put all name.0 at (text_of text));
}
row old map (Resize name size) = record {
  only_asks = false;
  refusals =
      unknown map name.0
      ∷ where_it map name.0 (λ live. live.owner ≡ data_owner) OwnedByDatabase
      ∷ where_it map name.0 (λ live. live.lock ≡ fixed_lock) ChunkFixed
      ∷ growth_checks old map name.0 size;
  answers = done;
  effect = becomes (λ all. sized all name.0 size);
}
row old map (SetOwner name owner) = record {
  only_asks = false;
  refusals =
      unknown map name.0
      ∷ where_it map name.0 (λ live. live.owner ≡ data_owner) OwnedByDatabase
      ∷ no_owner owner
      ∷ [];
  answers = done;
  effect = becomes (λ all. reowned all name.0 owner);
}
row old map (Recover place) = record {
  only_asks = true;
  refusals = (IsNowhere old.bytes map place.0 brings InvalidHandle) ∷ [];
  answers = a_name (λ name. Of (map name.0) (λ live. place_of old.bytes name.0 ≡ Some place.0));
  effect = stays;
}
row old map (FreeByOwner owner) = record {
  only_asks = false;
  refusals =
      no_owner owner
      ∷ (LendsOf old map owner brings Lent)
      ∷ [];
  answers = a_number (λ count. count ≡ count_by (is_owned_by owner) (chunks_of old.bytes));
  effect = becomes (λ all. without_owner all owner);
}
row old map FreeBytes = record {
  only_asks = true;
  refusals = [];
  answers = a_number (λ count. count ≡ free_total old.bytes);
  effect = stays;
}
row old map LargestStretch = record {
  only_asks = true;
  refusals = [];
  answers = a_number (λ count. count ≡ greatest (rooms old.bytes));
  effect = stays;
}
row old map Compact = record {
  only_asks = false;
  refusals = [];
  answers = λ reply new. a_number (λ count. count ≡ moved_bytes old.bytes new.bytes) reply new;
  effect = stays;
}
row old map MoreSlots = record {
  only_asks = false;
  refusals = (HasNoMore old.bytes brings NotEnoughSpace) ∷ [];
  answers = λ reply new. done reply new × (free_slots new.bytes ≡ free_slots old.bytes + gained_count);
  effect = stays;
}

-- ---- the step

-- Every name stands for what it stood for before, the names of the manager's own chunks too, and as
-- much is free. Chunks that don't stay may have moved.
pub record AsBefore (old new : Memory) : Type 0 where
  pub map : (name : ℕ) → held new.bytes name ≡ held old.bytes name
  pub free : free_total new.bytes ≡ free_total old.bytes
  pub slots : free_slots new.bytes ≡ free_slots old.bytes

-- the row of a call on a region
abbrev pub row_of : Memory → MemoryCall → Row ChunkMap
row_of old call = row old (callers_map old.bytes) call

-- the call's step on all chunks of the region
abbrev pub MemoryStep : Memory → MemoryCall → Reply → Memory → Type 0
MemoryStep old call reply new = StepBy (row_of old call) (AsBefore old new) (held old.bytes) reply new (held new.bytes)

-- the calls that may slide chunks
abbrev pub may_slide : MemoryCall → Bool
may_slide (HandleNew size owner) = true
may_slide (PtrNew size owner) = true
may_slide (Resize name size) = true
may_slide Compact = true
may_slide MoreSlots = true
may_slide call = false

-- How a call leaves the frame: as it was. Only an accepted `MoreSlots` adds a table of empty slots
-- at the end of the chain.
abbrev pub Frames : MemoryCall → Reply → List ℕ → List ℕ → Type 0
Frames MoreSlots Done old new = (place : ℕ) × GainsTable old new place
Frames call reply old new = SameFrame old new

-- From an accepted heap the call does its step to an accepted heap. The new heap has the same size,
-- the same tables and the same directory; only `MoreSlots` adds a table. No locked chunk has moved,
-- and each lent body stays lent at its place. All this is true of a refused call too. Of the
-- region's value only the bytes may change, and the count of slid bytes if the call may slide
-- chunks. A call that only asks changes nothing.
pub record Does (old : Memory) (call : MemoryCall) (reply : Reply) (new : Memory) : Type 0 where
  pub before : HeapAccepted old.bytes
  pub step : MemoryStep old call reply new
  pub frame : Frames call reply old.bytes new.bytes
  pub still : Still old.bytes new.bytes
  pub loan : KeepsLoan old new
  pub asks : OnTrue (row_of old call).only_asks (new ≡ old)
  pub rest : new ≡ record old { bytes = new.bytes; slid = if may_slide call then new.slid else old.slid }

-- a method's result as a reply
abbrev pub reply_of : {A : Type 0} → (A → Reply) → Result A Refusal → Reply
reply_of f (Ok answer) = f answer
reply_of f (Err refusal) = Refused refusal
