-- The result of migrating an image.
use Rattle.std.specs.Prelude.{◌≡◌, ◌⊎◌, ℕ, List}
use Rattle.heap_migration.specs.Stores.{IsMigrated, IsTooLarge}
use Rattle.heap_model.specs.Store.{Accepted}
use Rattle.palmheap_c.specs.Answers.{IsImageFault, IsMemoryAnswer, answer}
use Rattle.palmheap_c.specs.Buffers.{Buffer, PutsBytes}
use Rattle.palmheap_c.specs.declared.answers.Answer.{Answer}

abbrev pub too_large_to_migrate : Answer
too_large_to_migrate = answer 104 0 0

-- An allocation failed, or this is the first fault of the image. Or the image is accepted, has one
-- table, and is too large to grow.
abbrev pub IsNotMigrated : List ℕ → Answer → Type 0
IsNotMigrated image found = IsImageFault image found ⊎ (IsMemoryAnswer found ⊎ ((found ≡ too_large_to_migrate) × Accepted image × IsTooLarge image))

-- An accepted image became one with a chain of tables. The buffer got it, or is too short for it.
-- Otherwise there is none, and the buffer and the count are unchanged.
abbrev pub IsMigrateAnswer : (image : List ℕ) → (old new : Buffer) → Answer → Type 0
IsMigrateAnswer image old new found =
    ((migrated : List ℕ) × Accepted image × IsMigrated image migrated × PutsBytes migrated old.bytes new.bytes new.count found)
    ⊎ (IsNotMigrated image found × (new.bytes ≡ old.bytes) × (new.count ≡ old.count))
