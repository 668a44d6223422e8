-- The name of a database's file in a folder.
use Rattle.std.specs.Prelude.{◌++◌, ◌&&◌, ◌==◌, not, nat_le, if◌then◌else◌, ℕ, Bool, true, false, List, [], ◌∷◌, take, drop, codes}
use Rattle.std.specs.List.{flat_map}
use Rattle.hex.specs.Hex.{encode_lower}

-- A byte stands in the name of a file as it is: a character from space to `~`, but no `/`, no `%`, and no `.` at the
-- start.
abbrev pub is_plain : (first : Bool) → ℕ → Bool
is_plain first b = nat_le 32 b && nat_le b 126 && not (b == 47) && not (b == 37) && not (first && (b == 46))

-- any other one as `%` and two hex digits
abbrev pub byte_text : (first : Bool) → ℕ → List ℕ
byte_text first b = if is_plain first b then b ∷ [] else 37 ∷ encode_lower (b ∷ [])

abbrev pub bytes_text : (first : Bool) → List ℕ → List ℕ
bytes_text first bytes = flat_map (byte_text first) bytes

abbrev pub extension : (resources : Bool) → List ℕ
extension true = codes ".prc"
extension false = codes ".pdb"

-- the name of the file of a database with this name, of resources or of records
abbrev pub file_name : List ℕ → (resources : Bool) → List ℕ
file_name name resources = bytes_text true (take 1 name) ++ bytes_text false (drop 1 name) ++ extension resources
