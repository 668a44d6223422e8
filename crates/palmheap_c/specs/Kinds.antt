-- The result of asking for the name of a kind of fault.
use Rattle.std.specs.Prelude.{◌≡◌, ◌≢◌, ◌⊎◌, ℕ, List}
use Rattle.heap_migration.specs.FaultNames.{migrate_fault_name}
use Rattle.heap_migration.specs.declared.migration.MigrateFault.TheVariants.{TooLarge}
use Rattle.heap_model.specs.Files.{file_fault_name}
use Rattle.heap_model.specs.declared.file_fault.FileFault.{FileFault}
use Rattle.script_lines.specs.FaultNames.{script_fault_name}
use Rattle.script_lines.specs.declared.fault.ScriptFault.{ScriptFault}
use Rattle.store_check.specs.Faults.{store_fault_name}
use Rattle.store_check.specs.declared.fault.StoreFault.{StoreFault}
use Rattle.palmheap_c.specs.Answers.{of_file, of_store}
use Rattle.palmheap_c.specs.Buffers.{PutsCoded}
use Rattle.palmheap_c.specs.Migrating.{too_large_to_migrate}
use Rattle.palmheap_c.specs.Runs.{of_script}

-- the kind of the fault of a script, at any line
abbrev pub kind_of_script : ScriptFault → ℕ
kind_of_script fault = (of_script 0 fault).kind

-- a fault has the kind, and the name
abbrev pub IsKindName : ℕ → List ℕ → Type 0
IsKindName kind name =
    ((fault : StoreFault) × (kind ≡ (of_store fault).kind) × (name ≡ store_fault_name fault))
    ⊎ (((fault : FileFault) × (kind ≡ (of_file fault).kind) × (name ≡ file_fault_name fault))
    ⊎ (((fault : ScriptFault) × (kind ≡ kind_of_script fault) × (name ≡ script_fault_name fault))
    ⊎ ((kind ≡ too_large_to_migrate.kind) × (name ≡ migrate_fault_name TooLarge))))

-- no fault has the kind
pub record IsNoKind (kind : ℕ) : Type 0 where
  pub store : (fault : StoreFault) → kind ≢ (of_store fault).kind
  pub file : (fault : FileFault) → kind ≢ (of_file fault).kind
  pub script : (fault : ScriptFault) → kind ≢ kind_of_script fault
  pub migrate : kind ≢ too_large_to_migrate.kind

-- the result if no fault has the kind
abbrev pub call_no_fault : ℕ
call_no_fault = 103

-- The buffer got the name of the faults of this kind, or is too short for it. Otherwise no fault has
-- this kind, and the buffer and the count are unchanged.
abbrev pub NamesKind : ℕ → (old new : List ℕ) → (was count : ℕ) → ℕ → Type 0
NamesKind kind old new was count result =
    ((name : List ℕ) × IsKindName kind name × PutsCoded name old new count result)
    ⊎ ((result ≡ call_no_fault) × IsNoKind kind × (new ≡ old) × (count ≡ was))
