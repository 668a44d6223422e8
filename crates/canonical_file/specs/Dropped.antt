-- The bytes of a file that a rewrite drops.
use Rattle.std.specs.Prelude.{◌≡◌, ◌==◌, ◌⊎◌, not, ℕ, Bool, List, length, slice_range}
use Rattle.heap_model.specs.DatabaseFields.{name_size}
use Rattle.heap_model.specs.Database.{name_in}
use Rattle.pdb_format.specs.Filler.{filler_in}
use Rattle.canonical_file.specs.Changes.{HasPlainFiller}

-- This many bytes are between the entries and the first block. If they are exactly two zeros, the
-- new file has them too.
abbrev pub IsDroppedFiller : List ℕ → ℕ → Type 0
IsDroppedFiller file count =
    (HasPlainFiller file × (count ≡ 0))
    ⊎ ((HasPlainFiller file → ⊥) × (count ≡ length (filler_in file)))

-- a byte that isn't zero
abbrev pub is_set : ℕ → Bool
is_set byte = not (byte == 0)

-- the bytes of the field of the name after the name
abbrev pub after_name : List ℕ → List ℕ
after_name file = slice_range file (length (name_in file)) name_size
