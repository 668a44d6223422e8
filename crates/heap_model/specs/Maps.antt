-- The changes of a map that calls make. Each leaves every other name as it was.
use Rattle.std.specs.Prelude.{◌==◌, if◌then◌else◌, ℕ, List, replicate, Option, Some, None}
use Rattle.heap_model.specs.Bytes.{overwritten, sized_to}
use Rattle.heap_model.specs.Meaning.{LiveChunk, ChunkMap}
use Rattle.heap_model.specs.Reading.{held}

-- a map in which one name stands for something else
abbrev pub updated : ChunkMap → ℕ → Option LiveChunk → ChunkMap
updated map name now other = if other == name then now else map other

-- a change of the chunk that a name stands for, if there is one
abbrev pub changed : (LiveChunk → LiveChunk) → Option LiveChunk → Option LiveChunk
changed change None = None
changed change (Some live) = Some (change live)

-- a chunk of `size` zeros under a new name
abbrev pub made : ChunkMap → ℕ → ℕ → ℕ → ℕ → ChunkMap
made map name size owner lock = updated map name (Some (record { bytes = replicate size 0; lock = lock; owner = owner }))

-- without a name
abbrev pub gone : ChunkMap → ℕ → ChunkMap
gone map name = updated map name None

-- a name's chunk changed
abbrev pub changed_at : ChunkMap → ℕ → (LiveChunk → LiveChunk) → ChunkMap
changed_at map name change = updated map name (changed change (map name))

-- bytes written over a chunk's, from an offset within it on
abbrev pub put : ChunkMap → ℕ → ℕ → List ℕ → ChunkMap
put map name at bytes = changed_at map name (λ live. record live { bytes = overwritten live.bytes at bytes })

-- a name's chunk with its first `size` bytes; a shorter one gets zeros after them, up to `size`
-- bytes
abbrev pub sized : ChunkMap → ℕ → ℕ → ChunkMap
sized map name size = changed_at map name (λ live. record live { bytes = sized_to live.bytes size })

-- another lock, another owner
abbrev pub relocked : ChunkMap → ℕ → (ℕ → ℕ) → ChunkMap
relocked map name change = changed_at map name (λ live. record live { lock = change live.lock })

abbrev pub reowned : ChunkMap → ℕ → ℕ → ChunkMap
reowned map name owner = changed_at map name (λ live. record live { owner = owner })

-- the chunk that a name stands for, unless its owner is this one
abbrev pub not_owned : ℕ → Option LiveChunk → Option LiveChunk
not_owned owner None = None
not_owned owner (Some live) = if live.owner == owner then None else Some live

-- without the chunks of an owner
abbrev pub without_owner : ChunkMap → ℕ → ChunkMap
without_owner map owner name = not_owned owner (map name)

-- The names that callers may use in an image: all its names but those of the manager's own chunks,
-- whose owner is 0.
abbrev pub callers_map : List ℕ → ChunkMap
callers_map image = without_owner (held image) 0
