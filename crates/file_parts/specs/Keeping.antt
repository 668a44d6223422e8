-- Files in canonical form, but for some things that are kept: the IDs of the records, the filler, or
-- the order of the blocks. Only offsets move.
use Rattle.std.specs.Prelude.{◌≡◌, ◌&&◌, ◌||◌, ◌↔◌, not, if◌then◌else◌, ℕ, Bool, List, [], Option, None, IsTrue}
use Rattle.heap_model.specs.Database.{Database, data_in}
use Rattle.heap_model.specs.Files.{Reads, idle}
use Rattle.pdb_format.specs.Filler.{written_filler}
use Rattle.canonical_file.specs.Canonical.{IsCanonical}
use Rattle.canonical_file.specs.Changes.{AreChanges, is_none}
use Rattle.canonical_file.specs.declared.changes.Changes.{Changes}
use Rattle.file_parts.specs.Exact.{ExactFile, IsExactly, exact_bytes}
use Rattle.file_parts.specs.ExactTexts.{after_name_of, order_of}
use Rattle.file_parts.specs.declared.keep.Keep.{Keep}

-- ---- the file

-- A file that keeps these things. The database is the one that is read from the file: it has fresh
-- IDs in place of 0 and of repeated ones, and their seed. In both cases no record is busy, and zeros
-- follow the name.
abbrev pub kept_exact : Keep → ExactFile → Database (Option (List ℕ)) → ExactFile
kept_exact keep exact database = record {
  database = if keep.ids then idle exact.database else database;
  after_name = after_name_of exact.database.header.name None;
  filler = if keep.filler then exact.filler else written_filler;
  order = if keep.order then exact.order else order_of (data_in exact.database) [];
}

-- nothing is kept
abbrev pub keeps_nothing : Keep → Bool
keeps_nothing keep = not (keep.ids || (keep.filler || keep.order))

-- These bytes are those of a file that keeps these things. They are a file without fault, and it is
-- exactly this one. If nothing is kept, they are the canonical form.
pub record KeepsParts (keep : Keep) (file bytes : List ℕ) : Type 0 where
  pub exact : ExactFile
  pub exactly : IsExactly file exact
  pub database : Database (Option (List ℕ))
  pub reads : Reads file database
  pub is : bytes ≡ exact_bytes (kept_exact keep exact database)
  pub read : IsExactly bytes (kept_exact keep exact database)
  pub canonical : IsTrue (keeps_nothing keep) → IsCanonical file bytes

-- ---- what changes

-- the changes that are left if these things are kept
abbrev pub changes_left : Keep → Changes → Changes
changes_left keep changes = record {
  busy = changes.busy;
  filler = changes.filler && not keep.filler;
  ids = changes.ids && not keep.ids;
  name = changes.name;
  order = changes.order && not keep.order;
}

-- These are the changes of a file that are left. There are none exactly if the bytes stay the same.
pub record AreChangesLeft (keep : Keep) (file : List ℕ) (left : Changes) : Type 0 where
  pub changes : Changes
  pub are : AreChanges file changes
  pub is : left ≡ changes_left keep changes
  pub same : (bytes : List ℕ) → KeepsParts keep file bytes → (IsTrue (is_none left) ↔ (bytes ≡ file))
