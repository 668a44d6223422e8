-- The first bytes of a file, of which not all bytes need be read.
use Rattle.std.specs.Prelude.{◌≡◌, ◌≤◌, ◌⊎◌, ◌++◌, ℕ, List, [], length, take, drop}
use Rattle.heap_model.specs.Bytes.{AreBytes, u32_at}
use Rattle.heap_model.specs.DatabaseFields.{app_info_at}

-- the most bytes that a header, its entries and the two bytes after them have: 65,535 entries of
-- resources
abbrev pub most_start : ℕ
most_start = 655430

-- the first bytes of a file of bytes: all of them, or at least as many as the longest header with
-- its entries and the two bytes after them
pub record IsFileStart (file start : List ℕ) : Type 0 where
  pub rest : List ℕ
  pub is : file ≡ start ++ rest
  pub long : (rest ≡ []) ⊎ (most_start ≤ length start)
  pub numbers : AreBytes file

-- the most bytes of AppInfo that a listing looks at
abbrev pub most_app : ℕ
most_app = 276

-- the bytes from the offset of AppInfo on, as many as a listing looks at
abbrev pub app_start : List ℕ → List ℕ
app_start file = take most_app (drop (u32_at file app_info_at) file)
