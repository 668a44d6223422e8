-- The size of a canonical form is the sum of the sizes of its parts.
use Rattle.std.proofs.Common.{◌≡◌, ℕ, ◌+◌, ◌*◌, Bool, true, false, Option, None, List, [], ◌∷◌, ◌++◌, length, get_or, refl, sym, ap, subst, ◌∙◌, arith, length-append}
use Rattle.std.specs.Prelude.{All}
use Rattle.std.proofs.lemmas.List.Elements.{All-head, All-tail}
use Rattle.heap_model.specs.DatabaseFields.{entry_size}
use Rattle.heap_model.specs.Database.{Database, Entry, a_record, a_resource, IsDatabaseName, name_in, header_in, resources_in, entry_at, entry_offset, entry_bytes}
use Rattle.heap_model.specs.Files.{HasNoFault, blocks_in, entries_end, idle_attributes, idle, block_size, block_offset, with_offsets, first_block, file_of}
use Rattle.laws_store.proofs.Spellings.{length-header_bytes}
use Rattle.pdb_format.specs.FileTexts.{data_at, header_text, entries_text}
use Rattle.pdb_format.specs.ReadFiles.{entry_read, entries_read, database_read}
use Rattle.pdb_format.proofs.FileNames.{file_named}
use Rattle.pdb_format.proofs.FileParts.{file_parts, record_long, resource_long}
use Rattle.pdb_format.proofs.ReadFiles.{length-entries_read, entry_read_is, blocks_read_are}
use Rattle.pdb_format.proofs.WrittenOffsets.{all_bytes}

-- an entry is of the kind
abbrev IsOfKind : Bool → Entry (Option (List ℕ)) → Type 0
IsOfKind false (a_record attributes id block) = Unit {0}
IsOfKind false (a_resource kind id block) = ⊥
IsOfKind true (a_record attributes id block) = ⊥
IsOfKind true (a_resource kind id block) = Unit {0}

kind_read : (resources : Bool) (file : List ℕ) (at given : ℕ) (block : Option (List ℕ))
    → IsOfKind resources (entry_read (entry_at resources file at) given block)
kind_read false file at given block = tt
kind_read true file at given block = tt

entries_long : (r : Bool) (at : ℕ) (es : List (Entry (Option (List ℕ)))) → All (IsOfKind r) es
    → length (entries_text at es) ≡ entry_size r * length es
entries_long r at [] all = omega arith
entries_long false at (a_record attributes id block ∷ es) all =
    let entry : List ℕ =
    entry_bytes (a_record (idle_attributes attributes) id (block_offset at block)) in
    let both = length-append entry (entries_text (at + block_size block) es) in
    let long = record_long (idle_attributes attributes) id (block_offset at block) in
    let rest = entries_long false (at + block_size block) es
    (All-tail (IsOfKind false) (a_record attributes id block) es all) in
    omega arith
entries_long true at (a_record attributes id block ∷ es) all =
    absurd (All-head (IsOfKind true) (a_record attributes id block) es all)
entries_long false at (a_resource kind id block ∷ es) all =
    absurd (All-head (IsOfKind false) (a_resource kind id block) es all)
entries_long true at (a_resource kind id block ∷ es) all =
    let entry : List ℕ = entry_bytes (a_resource kind id (block_offset at block)) in
    let both = length-append entry (entries_text (at + block_size block) es) in
    let long = resource_long kind id (block_offset at block) in
    let rest = entries_long true (at + block_size block) es
    (All-tail (IsOfKind true) (a_resource kind id block) es all) in
    omega arith

all_kinds : (file ids : List ℕ) → All (IsOfKind (resources_in file)) (entries_read file ids)
all_kinds file ids = λ k d inside.
    let long = length-entries_read file ids in
    subst (IsOfKind (resources_in file)) (sym (entry_read_is file ids k d (omega arith)))
    (kind_read (resources_in file) file (entry_offset (resources_in file) k) (get_or ids k 0)
    (get_or (blocks_in file) (2 + k) None))

-- the entries
pub entries_read_long : (file ids : List ℕ) (at : ℕ)
    → length (entries_text at (entries_read file ids)) + 78 ≡ entries_end file
entries_read_long file ids at =
    let long = entries_long (resources_in file) at (entries_read file ids) (all_kinds file ids) in
    let count = ap (λ (n : ℕ). entry_size (resources_in file) * n) (length-entries_read file ids) in
    omega arith

name_is : (file : List ℕ) → (header_in file).name ≡ name_in file
unfolding header_in
name_is file = refl

-- the header
pub header_long : (file ids : List ℕ) (seed : ℕ) → HasNoFault file
    → length (header_text (database_read file ids seed)) ≡ 78
unfolding database_read
header_long file ids seed good =
    let d : Database (Option (List ℕ)) = database_read file ids seed in
    length-header_bytes (with_offsets (first_block d) (idle d))
    (subst IsDatabaseName (sym (name_is file)) (file_named file good))

-- the parts
pub parts_read : (file ids : List ℕ) (seed : ℕ) → file_of (database_read file ids seed)
    ≡ header_text (database_read file ids seed)
    ++ (entries_text (data_at (database_read file ids seed)) (entries_read file ids)
    ++ (0 ∷ 0 ∷ [] ++ all_bytes (blocks_in file)))
unfolding database_read
parts_read file ids seed =
    let d : Database (Option (List ℕ)) = database_read file ids seed in
    file_parts d
    ∙ ap (λ (bs : List (Option (List ℕ))).
    header_text d ++ (entries_text (data_at d) d.entries ++ (0 ∷ 0 ∷ [] ++ all_bytes bs)))
    (blocks_read_are file ids seed)

-- all of it
pub file_long : (file ids : List ℕ) (seed : ℕ) → HasNoFault file
    → length (file_of (database_read file ids seed))
    ≡ entries_end file + 2 + length (all_bytes (blocks_in file))
file_long file ids seed good =
    let d : Database (Option (List ℕ)) = database_read file ids seed in
    let head : List ℕ = header_text d in
    let entries : List ℕ = entries_text (data_at d) (entries_read file ids) in
    let parts = ap length (parts_read file ids seed)
    ∙ length-append head (entries ++ (0 ∷ 0 ∷ [] ++ all_bytes (blocks_in file))) in
    let behind = length-append entries (0 ∷ 0 ∷ [] ++ all_bytes (blocks_in file)) in
    let front = header_long file ids seed good in
    let long = entries_read_long file ids (data_at d) in
    omega arith
