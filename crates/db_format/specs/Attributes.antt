-- The bits of the attributes of databases and of records, with their names.
use Rattle.std.specs.Prelude.{ℕ, List, [], ◌∷◌, codes}

-- the bits of a database's attributes that have a name
abbrev pub database_bits : List (List ℕ × ℕ)
database_bits = (codes "RESOURCE", 0x0001) ∷ (codes "READ_ONLY", 0x0002) ∷ []

-- the bits of a record's attributes that have a name
abbrev pub record_bits : List (List ℕ × ℕ)
record_bits =
    (codes "DELETE", 0x80)
    ∷ (codes "DIRTY", 0x40)
    ∷ (codes "BUSY", 0x20)
    ∷ (codes "SECRET", 0x10)
    ∷ (codes "CATEGORY", 0x0F)
    ∷ []
