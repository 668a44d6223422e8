-- The first bytes of a file that is put together. The file is opened by them.
use Rattle.std.specs.Prelude.{◌≡◌, ◌≤◌, ℕ, List, length}
use Rattle.heap_model.specs.DatabaseFields.{header_size}
use Rattle.pdb_format.specs.FileStarts.{IsFileStart, app_start}
use Rattle.canonical_file.specs.Canonical.{most_bytes}

-- These are first bytes of a file of this size. The first bytes of AppInfo are among them, as many
-- as a listing looks at.
pub record StartsFile (file start : List ℕ) (size : ℕ) : Type 0 where
  pub starts : IsFileStart file start
  pub size_is : size ≡ length file
  pub short : size ≤ most_bytes
  pub header : header_size ≤ length start
  pub app_is : app_start start ≡ app_start file
