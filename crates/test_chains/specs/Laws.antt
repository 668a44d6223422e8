-- The statement of a law about migration.
use Rattle.std.specs.Prelude.{◌≡◌, ℕ, false, List}
use Rattle.heap_model.specs.Bytes.{AreBytes}
use Rattle.heap_model.specs.Slots.{is_chained}
use Rattle.heap_model.specs.Heap.{HeapAccepted}
use Rattle.heap_model.specs.Migration.{MigratesBytes}

-- An accepted heap without a chain becomes one image only, and grows by one number of bytes only.
-- Numbers of 256 or more aren't bytes: four of them can spell a word in several ways.
abbrev pub MigratesToOne : Type 0
MigratesToOne =
    (old a b : List ℕ) (by more : ℕ) → HeapAccepted old → is_chained old ≡ false → AreBytes a → AreBytes b → MigratesBytes old a by → MigratesBytes old b more
    → (by ≡ more) × (a ≡ b)
