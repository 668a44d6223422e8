-- The store after a migration.
use Rattle.std.specs.Prelude.{◌≡◌, ◌+◌, ◌<◌, ◌==◌, if◌then◌else◌, ℕ, Bool, true, false, List, length, Some}
use Rattle.heap_model.specs.Chunk.{fixed_lock}
use Rattle.heap_model.specs.Frame.{most_size}
use Rattle.heap_model.specs.Slots.{is_chained}
use Rattle.heap_model.specs.Meaning.{LiveChunk, ChunkMap}
use Rattle.heap_model.specs.Migration.{MigratesBytes}
use Rattle.heap_model.specs.Store.{Store, Accepted, store_of}
use Rattle.heap_migration.specs.Growth.{growth_of}

-- the name that a chunk has afterwards: the name of a fixed chunk is its place, so it is greater by
-- `by`
abbrev pub later_name : ℕ → ℕ → LiveChunk → ℕ
later_name by name live = if live.lock == fixed_lock then name + by else name

-- The new map has each chunk of the old one, under the name that it has afterwards, and no others.
pub record RaisesFixed (old new : ChunkMap) (by : ℕ) : Type 0 where
  pub kept : (name : ℕ) (live : LiveChunk) → old name ≡ Some live → new (later_name by name live) ≡ Some live
  pub no_others : (name : ℕ) (live : LiveChunk) → new name ≡ Some live → (was : ℕ) × (old was ≡ Some live) × (later_name by was live ≡ name)

-- The new store is the old one, with the names of fixed chunks greater by `by`.
pub record MigratesStore (old new : Store) (by : ℕ) : Type 0 where
  pub map : RaisesFixed old.map new.map by
  pub databases : new.databases ≡ old.databases

-- An image with one table has become one with a chain, byte for byte, and is accepted. An image
-- that already has a chain is unchanged.
abbrev pub MigratesFrom : List ℕ → List ℕ → Bool → Type 0
MigratesFrom old new false = MigratesBytes old new (growth_of old) × Accepted new × MigratesStore (store_of old) (store_of new) (growth_of old)
MigratesFrom old new true = new ≡ old

abbrev pub IsMigrated : List ℕ → List ℕ → Type 0
IsMigrated old new = MigratesFrom old new (is_chained old)

-- the image has one table, and is too large to grow
abbrev pub IsTooLarge : List ℕ → Type 0
IsTooLarge image = (is_chained image ≡ false) × (most_size < length image + growth_of image)
