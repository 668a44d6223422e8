-- The entries that a file has as a whole lie within the file.
use Rattle.std.proofs.Common.{ℕ, ◌+◌, ◌-◌, ◌/◌, ◌<◌, ◌≤◌, Bool, true, false, List, length, min, arith}
use Rattle.heap_model.specs.DatabaseFields.{entry_size}
use Rattle.heap_model.specs.Database.{entry_offset, resources_in, entry_count_in}
use Rattle.canonical_file.specs.Salvage.{whole_entries}

pub whole_inside : (r : Bool) (count long : ℕ) → 78 ≤ long
    → entry_offset r (min count ((long - 78) / entry_size r)) ≤ long
whole_inside false count long header = omega arith
whole_inside true count long header = omega arith

pub offset_rises : (r : Bool) (i j : ℕ) → i ≤ j → entry_offset r i ≤ entry_offset r j
offset_rises false i j less = omega arith
offset_rises true i j less = omega arith

-- one of them
pub whole_entry : (file : List ℕ) (index : ℕ) → 78 ≤ length file → index < whole_entries file
    → entry_offset (resources_in file) (index + 1) ≤ length file
whole_entry file index header below =
    let whole = whole_inside (resources_in file) (entry_count_in file) (length file) header in
    let rises = offset_rises (resources_in file) (index + 1) (whole_entries file) (omega arith) in
    omega arith
