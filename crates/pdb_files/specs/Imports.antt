-- The checks of the call that imports a database, before it asks for memory or room.
use Rattle.std.specs.Prelude.{◌≤◌, ℕ, List, [], ◌∷◌, length}
use Rattle.heap_model.specs.Database.{name_in}
use Rattle.heap_model.specs.Store.{most_databases, store_of}
use Rattle.heap_model.specs.Refusals.{Check, ◌brings◌}
use Rattle.heap_model.specs.Files.{file_faults}
use Rattle.heap_model.specs.FileSteps.{fault_checks}
use Rattle.heap_model.specs.DatabaseSteps.{taken}
use Rattle.heap_model.specs.declared.refusal.Refusal.TheVariants.{TooManyEntries}

-- whether a database of this name can be added
abbrev pub checks_of_new : List ℕ → List ℕ → List Check
checks_of_new image name =
    taken (store_of image) 0 name
    ∷ ((most_databases ≤ length (store_of image).databases) brings TooManyEntries)
    ∷ []

abbrev pub checks_in_front : List ℕ → List ℕ → List Check
checks_in_front image file = fault_checks file (file_faults file) (checks_of_new image (name_in file))
