-- A header that is read off a file is the header of its database, also with another seed.
use Rattle.std.proofs.Common.{◌≡◌, ℕ, List, refl, ap, ◌∙◌}
use Rattle.std.proofs.lemmas.List.FromFn.{length-map-range_with_len}
use Rattle.heap_model.specs.UniqueIds.{with_seed}
use Rattle.heap_model.specs.Database.{DatabaseHeader, name_in, header_in, entry_count_in, entry_in, database_in}
use Rattle.db_format.specs.declared.header.DbHeader.{DbHeader}
use Rattle.db_format.specs.Headers.{header_values, IsHeaderOf}
use Rattle.pdb_format.specs.ReadFiles.{header_read}

pub values_are : (file : List ℕ) (header : DbHeader) → IsHeaderOf (database_in file) header
    → header_values header ≡ header_in file
unfolding database_in
values_are file header has = has.values

named : (file : List ℕ) → (header_in file).name ≡ name_in file
unfolding header_in
named file = refl

pub name_is : (file : List ℕ) (header : DbHeader) → IsHeaderOf (database_in file) header
    → header.name ≡ name_in file
name_is file header has = ap (λ (h : DatabaseHeader). h.name) (values_are file _ has) ∙ named file

pub count_is : (file : List ℕ) (header : DbHeader) → IsHeaderOf (database_in file) header
    → header.entry_count ≡ entry_count_in file
unfolding database_in
count_is file header has =
    has.entry_count ∙ length-map-range_with_len (entry_in file) 0 (entry_count_in file)

-- a header with this seed
seeded : DatabaseHeader → ℕ → DatabaseHeader
seeded header seed = record header { seed = seed }

pub header_is : (file : List ℕ) (header : DbHeader) (seed field : ℕ)
    → IsHeaderOf (database_in file) header → field ≡ with_seed header.seed seed
    → record (header_values header) { seed = field } ≡ header_read file seed
unfolding seeded
header_is file header seed field has is =
    ap (λ (s : ℕ). seeded (header_values header) s) is
    ∙ ap (λ (h : DatabaseHeader). seeded h (with_seed h.seed seed)) (values_are file header has)
