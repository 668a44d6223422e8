-- A file that keeps some things, and is ready to be written.
use Rattle.std.specs.Prelude.{◌≡◌, ◌≤◌, ◌<◌, ◌⊎◌, ⊤, ℕ, List, length, Option, None}
use Rattle.heap_model.specs.Bytes.{AreBytes}
use Rattle.heap_model.specs.Database.{Database, name_in}
use Rattle.heap_model.specs.Files.{HasNoFault, Reads}
use Rattle.pdb_format.specs.Filler.{filler_in, written_filler}
use Rattle.pdb_format.specs.ReadFiles.{database_read}
use Rattle.canonical_file.specs.Canonical.{most_bytes}
use Rattle.canonical_file.specs.Written.{CanHaveIds, ids_of, seed_of}
use Rattle.file_parts.specs.Exact.{ExactFile, IsExactly, exact_bytes, exact_size}
use Rattle.file_parts.specs.ExactTexts.{after_name_of}
use Rattle.file_parts.specs.ExactWriting.{AreExactPlaces, IsOrdered}
use Rattle.file_parts.specs.Keeping.{kept_exact}
use Rattle.file_parts.specs.declared.exact_writing.PlaceFault.{PlaceFault}
use Rattle.file_parts.specs.declared.exact_writing.PlaceFault.TheVariants.{TooLarge, OutOfMemory}
use Rattle.file_parts.specs.declared.keep.Keep.{Keep}
use Rattle.file_parts.specs.declared.kept.Keeping.{Keeping}
use Rattle.file_parts.specs.declared.kept.Kept.{Kept}

-- the reason why a file that keeps these things isn't written
abbrev pub IsKeepFault : Keep → List ℕ → PlaceFault → Type 0
IsKeepFault keep file TooLarge = (exact : ExactFile) × IsExactly file exact × ((database : Database (Option (List ℕ))) × Reads file database × (most_bytes < exact_size (kept_exact keep exact database)))
IsKeepFault keep file OutOfMemory = ⊤

-- the file that is written
abbrev pub exact_keeping : Keeping → ExactFile
exact_keeping keeping = record {
  database = database_read keeping.file (ids_of keeping.file keeping.ids) (seed_of keeping.file keeping.ids);
  after_name = after_name_of (name_in keeping.file) None;
  filler = keeping.filler.now;
  order = keeping.ranks.items;
}

-- the file has no fault, the IDs can be those of its records, and the order is one of its blocks
pub record IsKeeping (keeping : Keeping) : Type 0 where
  pub short : length keeping.file ≤ most_bytes
  pub good : HasNoFault keeping.file
  pub numbers : AreBytes keeping.file
  pub ids : CanHaveIds keeping.file keeping.ids
  pub filler : (keeping.filler.now ≡ filler_in keeping.file) ⊎ (keeping.filler.now ≡ written_filler)
  pub order : IsOrdered (exact_keeping keeping)

-- a file that is ready to be written
pub record IsKeptFile (kept : Kept) : Type 0 where
  pub good : IsKeeping kept.keeping
  pub places : AreExactPlaces (exact_keeping kept.keeping) kept.places
  pub size : kept.places.size ≡ length (exact_bytes (exact_keeping kept.keeping))

-- its bytes
abbrev pub bytes_kept : Kept → List ℕ
bytes_kept kept = exact_bytes (exact_keeping kept.keeping)
