-- What the calls do that open a store, close it, and write its image.
use Rattle.std.specs.Prelude.{[], ◌≡◌, ◌≢◌, ◌⊎◌, ℕ, List, Option, Some, None}
use Rattle.allowance.specs.Refusals.{GrowthRefused}
use Rattle.heap_model.specs.Memory.{Memory}
use Rattle.heap_model.specs.Numbers.{number_of}
use Rattle.heap_model.specs.Store.{Accepted}
use Rattle.heap_model.specs.declared.refusal.Refusal.TheVariants.{Lent, OutOfMemory}
use Rattle.palmheap_c.specs.Buffers.{PutsCoded}
use Rattle.palmheap_c.specs.Holding.{kept_in}
use Rattle.palmheap_c.specs.Opened.{Opened}

-- the store has this image, an accepted one, and no chunk of it is lent
pub record IsOpenStore (image : List ℕ) (store : Memory) : Type 0 where
  pub accepted : Accepted image
  pub bytes : store.bytes ≡ image
  pub whole : store.lents ≡ []

-- the same, and no pointer to a chunk is out
pub record IsNewlyOpen (image : List ℕ) (store : Opened) : Type 0 where
  pub is : IsOpenStore image store.memory
  pub none : store.pointers ≡ []

-- the place holds an open store of the image
pub record HoldsImage (image : List ℕ) (place : Option Opened) : Type 0 where
  pub store : Opened
  pub holds : place ≡ Some store
  pub is : IsNewlyOpen image store

-- The place holds no store after the call, and no chunk of one that it held is lent. Or a chunk of
-- its store is lent, the store is unchanged, and the result is the number of `Lent`.
abbrev pub Closes : Option Opened → Option Opened → ℕ → Type 0
Closes old new result =
    ((result ≡ 0) × ((kept_in old).memory.lents ≡ []) × (new ≡ None))
    ⊎ ((result ≡ number_of Lent) × ((kept_in old).memory.lents ≢ []) × (new ≡ old))

-- Nothing of the image of a store was written: a chunk of it is lent, or an allocation failed.
abbrev pub RefusesImage : Memory → ℕ → Type 0
RefusesImage store result = ((result ≡ number_of Lent) × (store.lents ≢ [])) ⊎ ((result ≡ number_of OutOfMemory) × GrowthRefused)

-- The buffer got the image of a store, or is too short for it. Otherwise the call was refused, and
-- the buffer and the count are unchanged.
abbrev pub WritesImage : Memory → (old new : List ℕ) → (was count : ℕ) → ℕ → Type 0
WritesImage store old new was count result =
    ((store.lents ≡ []) × PutsCoded store.bytes old new count result)
    ⊎ (RefusesImage store result × (new ≡ old) × (count ≡ was))
