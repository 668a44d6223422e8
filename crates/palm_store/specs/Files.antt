-- The preconditions and postconditions of the calls for files, on the store that an image means.
use Rattle.std.specs.Prelude.{◌≡◌, ◌⊎◌, ℕ, List, length}
use Rattle.heap_model.specs.Chunk.{data_owner}
use Rattle.heap_model.specs.Leaving.{rewritten}
use Rattle.heap_model.specs.MemorySteps.{Of}
use Rattle.heap_model.specs.Store.{Store, owner_under, store_of}
use Rattle.heap_model.specs.EntrySteps.{with_chunks}

-- a name that a database has: it is 0, or stands for a chunk for data
abbrev pub IsDataName : List ℕ → ℕ → Type 0
IsDataName image name = (name ≡ 0) ⊎ (owner_under image name ≡ data_owner)

-- a name stands for a chunk for data with `count` bytes, which has no lock
abbrev pub HasDataOf : List ℕ → ℕ → ℕ → Type 0
HasDataOf image name count = Of ((store_of image).map name) (λ live. (live.owner ≡ data_owner) × (live.lock ≡ 0) × (length live.bytes ≡ count))

-- a store in which the chunk under a name has these bytes
abbrev pub data_filled : Store → ℕ → List ℕ → Store
data_filled store name bytes = with_chunks store (rewritten store.map name bytes)
