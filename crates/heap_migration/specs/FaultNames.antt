-- The names of the reasons why an image isn't migrated.
use Rattle.std.specs.Prelude.{ℕ, List, codes}
use Rattle.heap_migration.specs.declared.migration.MigrateFault.{MigrateFault}
use Rattle.heap_migration.specs.declared.migration.MigrateFault.TheVariants.{Lent, TooLarge, OutOfMemory}

abbrev pub migrate_fault_name : MigrateFault → List ℕ
migrate_fault_name Lent = codes "Lent"
migrate_fault_name TooLarge = codes "TooLarge"
migrate_fault_name OutOfMemory = codes "OutOfMemory"
