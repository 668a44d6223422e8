-- Images without chunks whose master pointer tables are a chain.
use Rattle.std.specs.Prelude.{◌≡◌, ◌⊎◌, ◌<◌, ◌≤◌, ◌+◌, ◌-◌, ◌%◌, ℕ, List, [], None, true, length}
use Rattle.chunk_format.specs.Blank.{IsBlank}
use Rattle.heap_migration.specs.Growth.{growth}
use Rattle.heap_model.specs.Frame.{least_size, most_size}
use Rattle.heap_model.specs.Migration.{MigratesBytes}
use Rattle.heap_model.specs.Reading.{held}
use Rattle.heap_model.specs.Slots.{further_tables, is_chained, slot_count, start_behind}
use Rattle.palmheap_c.specs.declared.answers.Answer.{Answer}
use Rattle.palmheap_c.specs.Answers.{IsMemoryAnswer, bad_size, bad_slot_count}

-- An image with a chain may have this size, if its first table has so many slots: that of an image
-- with one table, and the bytes of `next` and its padding.
pub record HasChainSize (size slots : ℕ) : Type 0 where
  pub least : least_size + growth slots ≤ size
  pub most : size ≤ most_size
  pub whole : size % 8 ≡ 0

-- there is a slot, and the slots and `next` leave room for a chunk
pub record LeavesChainRoom (size slots : ℕ) : Type 0 where
  pub some_slot : 0 < slots
  pub a_chunk_fits : start_behind slots + growth slots + 8 ≤ size

-- An image of this size without chunks. Its chain has one table, of this number of slots. Byte for
-- byte it is the image that a blank one becomes when it is migrated.
pub record IsBlankChain (size slots : ℕ) (image : List ℕ) : Type 0 where
  pub size_is : length image ≡ size
  pub chained : is_chained image ≡ true
  pub slots_are : slot_count image ≡ slots
  pub one_table : further_tables image ≡ []
  pub nothing : (name : ℕ) → held image name ≡ None
  pub before : List ℕ
  pub blank : IsBlank (size - growth slots) slots before
  pub becomes : MigratesBytes before image (growth slots)

-- why there is no such image, the first of these
abbrev pub IsNoChain : (size slots : ℕ) → Answer → Type 0
IsNoChain size slots found =
    ((found ≡ bad_size) × (HasChainSize size slots → ⊥))
    ⊎ (((found ≡ bad_slot_count) × HasChainSize size slots × (LeavesChainRoom size slots → ⊥))
    ⊎ IsMemoryAnswer found)
