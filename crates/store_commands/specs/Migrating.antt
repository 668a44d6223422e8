-- The output of `migrate`. If the last argument of a definition is a `Bool`, it is whether all
-- writes succeeded.
use Rattle.std.specs.Prelude.{◌⊎◌, ℕ, Bool, List}
use Rattle.heap_model.specs.Store.{Accepted}
use Rattle.heap_migration.specs.FaultNames.{migrate_fault_name}
use Rattle.heap_migration.specs.Stores.{IsMigrated, IsTooLarge}
use Rattle.heap_migration.specs.declared.migration.MigrateFault.TheVariants.{TooLarge}
use Rattle.image_commands.specs.FaultLines.{PutsBadImage}
use Rattle.image_commands.specs.Printed.{EndsWritten}
use Rattle.palm_text.specs.Output.{Output, PutsTo}
use Rattle.program_io.specs.BadLines.{bad_line}
use Rattle.program_io.specs.declared.status.Status.{Status}

-- the line for an image that is refused: for its first fault if it isn't accepted, or if it is too
-- large to grow
abbrev pub PutsNotMigrated : {V : Type 0} → List ℕ → Output V → Bool → Type 0
PutsNotMigrated image out ok =
    ((Accepted image → ⊥) × PutsBadImage image out ok)
    ⊎ (Accepted image × IsTooLarge image × PutsTo out (bad_line (migrate_fault_name TooLarge)) ok)

-- the output is the image with a chain of tables that an image becomes
abbrev pub PutsMigrated : {W : Type 0} → List ℕ → Output W → Bool → Type 0
PutsMigrated image out ok = (grown : List ℕ) × IsMigrated image grown × PutsTo out grown ok

-- the output of `migrate`, by the status with which it ends
abbrev pub EndsMigrate : {W V : Type 0} → List ℕ → Output W → Output V → Status → Type 0
EndsMigrate image image_out out = EndsWritten image (PutsMigrated image image_out) (PutsNotMigrated image out) image_out out
