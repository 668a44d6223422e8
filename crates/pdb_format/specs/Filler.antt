-- The bytes between the entries of a file and its first block.
use Rattle.std.specs.Prelude.{min, nat_lt, ◌+◌, ℕ, Bool, List, [], ◌∷◌, length, filter, slice_range}
use Rattle.std.specs.List.{fold}
use Rattle.heap_model.specs.Database.{resources_in, entry_count_in, entry_offset}
use Rattle.heap_model.specs.Files.{entries_end, offsets_in}

-- the filler that is written: two zeros
abbrev pub written_filler : List ℕ
written_filler = 0 ∷ 0 ∷ []

-- the offset of the first block in a file that is written, by the kind and the number of its
-- entries
abbrev pub first_place_after : Bool → ℕ → ℕ
first_place_after resources count = entry_offset resources count + 2

-- the same for the entries of a file
abbrev pub first_place : List ℕ → ℕ
first_place file = first_place_after (resources_in file) (entry_count_in file)

-- the offset of the first block of a file, or the size of the file if there is none
abbrev pub first_start : List ℕ → ℕ
first_start file = fold min (length file) (filter (nat_lt 0) (offsets_in file))

-- the filler of a file
abbrev pub filler_in : List ℕ → List ℕ
filler_in file = slice_range file (entries_end file) (first_start file)
