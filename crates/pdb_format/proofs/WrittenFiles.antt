-- A written file is read as the database that was written, of which no record is busy.
use Rattle.std.proofs.Common.{◌≡◌, ◌≢◌, ℕ, ◌+◌, ◌^◌, ◌<◌, ◌≤◌, Bool, true, false, Option, Some, None, List, [], ◌∷◌, ◌++◌, length, map, refl, sym, ap, subst, ◌∙◌, append_assoc, arith, inl, inr, length-append}
use Rattle.std.specs.Prelude.{All, ◌==◌, ◌⊎◌, bit_and}
use Rattle.std.specs.Int.{bit_at}
use Rattle.std.specs.List.{AllZip, filter_map}
use Rattle.std.proofs.lemmas.Bool.{false≢true}
use Rattle.std.proofs.lemmas.List.{length-map}
use Rattle.std.proofs.lemmas.Nat.{and_assoc, and_le_l}
use Rattle.std.proofs.lemmas.Nat.Bits.{bit_at_and, bit_at-lt}
use Rattle.std.specs.Int.Bits.{and_self}
use Rattle.std.proofs.lemmas.List.Elements.{All-head, All-tail, All-nil, All-cons}
use Rattle.heap_model.specs.Bytes.{u32_at}
use Rattle.heap_model.specs.Lists.{Distinct}
use Rattle.heap_model.specs.UniqueIds.{seed_in, with_seed}
use Rattle.heap_model.specs.Database.{DatabaseHeader, Database, Entry, a_record, a_resource, entry_data, data_in, has_resources, is_deleted, spelled, EntryFits, DatabaseFits, name_in, header_in, resources_in, entry_count_in, entry_offset, entry_in, database_in}
use Rattle.heap_model.specs.Store.{unique_id, unique_ids}
use Rattle.heap_model.specs.Files.{entries_end, IsOutside, IsBadInfo, HasBadOffset, HasNoFault, offsets_in, HaveIds, idle_attributes, idle_entry, idle, IsReadAs, Reads, block_size, block_offset, entries_with_offsets, with_offsets, first_block, file_of}
use Rattle.laws_store.proofs.Spellings.{length-spelled}
use Rattle.pdb_format.specs.Writable.{IsWritableEntry, file_size, IsWritable, HasFile, IsKeptAs, IsReadBack}
use Rattle.pdb_format.proofs.FaultLaws.{HasGoodHead, no_fault}
use Rattle.pdb_format.proofs.WrittenOffsets.{all_bytes, running, size_more, offset_most}
use Rattle.pdb_format.proofs.WrittenBlocks.{blocks_read}
use Rattle.pdb_format.proofs.WrittenHeads.{IsHeaded, spelled_heads}
use Rattle.pdb_format.proofs.WrittenIds.{ids_stay, header_stays}

-- ---- entries that aren't busy

pub idle_twice : (attributes : ℕ)
    → idle_attributes attributes ≡ idle_attributes (idle_attributes attributes)
idle_twice attributes =
    sym (and_assoc 0xDF attributes 0xDF ∙ ap (bit_and attributes) (and_self 0xDF))

same_bit : (attributes : ℕ) → bit_at (idle_attributes attributes) 7 ≡ bit_at attributes 7
same_bit attributes =
    let both = bit_at_and attributes 0xDF 7 in
    let small = bit_at-lt attributes 7 in
    both ∙ omega arith

pub still_deleted : (attributes : ℕ)
    → is_deleted (idle_attributes attributes) ≡ is_deleted attributes
still_deleted attributes = ap (λ (bit : ℕ). bit == 1) (same_bit attributes)

same_data : (es : List (Entry (Option (List ℕ))))
    → map entry_data (map idle_entry es) ≡ map entry_data es
same_data [] = refl
same_data (a_record attributes id block ∷ es) =
    ap (λ (xs : List (Option (List ℕ))). block ∷ xs) (same_data es)
same_data (a_resource kind id block ∷ es) =
    ap (λ (xs : List (Option (List ℕ))). block ∷ xs) (same_data es)

-- ---- entries with offsets

length-with_offsets : (at : ℕ) (es : List (Entry (Option (List ℕ))))
    → length (entries_with_offsets at es) ≡ length es
length-with_offsets at [] = refl
length-with_offsets at (e ∷ es) =
    let ih = length-with_offsets (at + block_size (entry_data e)) es in omega arith

offsets_run : (at : ℕ) (es : List (Entry (Option (List ℕ))))
    → map entry_data (entries_with_offsets at es) ≡ running at (map entry_data es)
offsets_run at [] = refl
offsets_run at (a_record attributes id block ∷ es) =
    ap (λ (xs : List ℕ). block_offset at block ∷ xs) (offsets_run (at + block_size block) es)
offsets_run at (a_resource kind id block ∷ es) =
    ap (λ (xs : List ℕ). block_offset at block ∷ xs) (offsets_run (at + block_size block) es)

ids_same : (at : ℕ) (es : List (Entry (Option (List ℕ))))
    → filter_map unique_id (entries_with_offsets at (map idle_entry es))
    ≡ filter_map unique_id (map idle_entry es)
ids_same at [] = refl
ids_same at (a_record attributes id block ∷ es) =
    ap (λ (xs : List ℕ). id ∷ xs) (ids_same (at + block_size block) es)
ids_same at (a_resource kind id block ∷ es) = ids_same (at + block_size block) es

ids_idle : (es : List (Entry (Option (List ℕ))))
    → filter_map unique_id (map idle_entry es) ≡ filter_map unique_id es
ids_idle [] = refl
ids_idle (a_record attributes id block ∷ es) = ap (λ (xs : List ℕ). id ∷ xs) (ids_idle es)
ids_idle (a_resource kind id block ∷ es) = ids_idle es

read_as : (at : ℕ) (es : List (Entry (Option (List ℕ))))
    → AllZip IsReadAs (entries_with_offsets at (map idle_entry es)) (map idle_entry es)
read_as at [] = tt
read_as at (a_record attributes id block ∷ es) =
    (idle_twice attributes, read_as (at + block_size block) es)
read_as at (a_resource kind id block ∷ es) = ((refl, refl), read_as (at + block_size block) es)

entries_fit : (r : Bool) (at : ℕ) (es : List (Entry (Option (List ℕ)))) → All (IsWritableEntry r) es
    → at + length (all_bytes (map entry_data es)) < 2 ^ 32
    → All (EntryFits r) (entries_with_offsets at (map idle_entry es))
entries_fit r at [] all inside = All-nil (EntryFits r)
entries_fit false at (a_record attributes id block ∷ es) all inside =
    let one = All-head (IsWritableEntry false) (a_record attributes id block) es all in
    let more = size_more block (map entry_data es) in
    let most = offset_most at block in
    let less = and_le_l attributes 0xDF in
    let small = one.0 in
    All-cons (EntryFits false) (a_record (idle_attributes attributes) id (block_offset at block))
    (entries_with_offsets (at + block_size block) (map idle_entry es))
    (omega arith, one.1, omega arith)
    (entries_fit false (at + block_size block) es
    (All-tail (IsWritableEntry false) (a_record attributes id block) es all) (omega arith))
entries_fit true at (a_record attributes id block ∷ es) all inside =
    absurd (All-head (IsWritableEntry true) (a_record attributes id block) es all)
entries_fit false at (a_resource kind id block ∷ es) all inside =
    absurd (All-head (IsWritableEntry false) (a_resource kind id block) es all)
entries_fit true at (a_resource kind id block ∷ es) all inside =
    let one = All-head (IsWritableEntry true) (a_resource kind id block) es all in
    let more = size_more block (map entry_data es) in
    let most = offset_most at block in
    All-cons (EntryFits true) (a_resource kind id (block_offset at block))
    (entries_with_offsets (at + block_size block) (map idle_entry es))
    (one.0, one.1, omega arith)
    (entries_fit true (at + block_size block) es
    (All-tail (IsWritableEntry true) (a_resource kind id block) es all) (omega arith))

-- ---- no offset is bad

not_outside : (file : List ℕ) (at : ℕ) → entries_end file ≤ at → at ≤ length file
    → IsOutside file at → ⊥
not_outside file at low high (inl less) = omega arith
not_outside file at low high (inr more) = omega arith

good_info : (file : List ℕ) (at : ℕ) (block : Option (List ℕ)) → entries_end file ≤ at
    → at ≤ length file → IsBadInfo file (block_offset at block) → ⊥
good_info file at None low high bad = bad.0 refl
good_info file at (Some bytes) low high bad = not_outside file at low high bad.1

empty_record : (file : List ℕ) (attributes id : ℕ) → is_deleted attributes ≡ true
    → HasBadOffset file (a_record (idle_attributes attributes) id 0) → ⊥
empty_record file attributes id deleted bad = elim (bad.0) [
  | inl some ↦ some refl
  | inr alive ↦ false≢true (sym alive ∙ still_deleted attributes ∙ deleted)
]

good_offsets : (r : Bool) (file : List ℕ) (at : ℕ) (es : List (Entry (Option (List ℕ))))
    → All (IsWritableEntry r) es → entries_end file ≤ at
    → at + length (all_bytes (map entry_data es)) ≤ length file
    → All (λ e. HasBadOffset file e → ⊥) (entries_with_offsets at (map idle_entry es))
good_offsets r file at [] all low high = All-nil (λ e. HasBadOffset file e → ⊥)
good_offsets r file at (a_record attributes id None ∷ es) all low high =
    All-cons (λ e. HasBadOffset file e → ⊥) (a_record (idle_attributes attributes) id 0)
    (entries_with_offsets (at + block_size None) (map idle_entry es))
    (empty_record file attributes id
    (dead r (All-head (IsWritableEntry r) (a_record attributes id None) es all)))
    (good_offsets r file (at + block_size None) es
    (All-tail (IsWritableEntry r) (a_record attributes id None) es all) (omega arith) (omega arith))
  where
    dead : (r : Bool) → IsWritableEntry r (a_record attributes id None)
        → is_deleted attributes ≡ true
    dead false one = one.2 refl
    dead true one = absurd one
good_offsets r file at (a_record attributes id (Some bytes) ∷ es) all low high =
    let more = size_more (Some bytes) (map entry_data es) in
    All-cons (λ e. HasBadOffset file e → ⊥) (a_record (idle_attributes attributes) id at)
    (entries_with_offsets (at + length bytes) (map idle_entry es))
    (λ bad. not_outside file at low (omega arith) bad.1)
    (good_offsets r file (at + length bytes) es
    (All-tail (IsWritableEntry r) (a_record attributes id (Some bytes)) es all) (omega arith)
    (omega arith))
good_offsets r file at (a_resource kind id None ∷ es) all low high =
    absurd (none r (All-head (IsWritableEntry r) (a_resource kind id None) es all)) where
      none : (r : Bool) → IsWritableEntry r (a_resource kind id None) → ⊥
      none false one = one
      none true one = one.2 refl
good_offsets r file at (a_resource kind id (Some bytes) ∷ es) all low high =
    let more = size_more (Some bytes) (map entry_data es) in
    All-cons (λ e. HasBadOffset file e → ⊥) (a_resource kind id at)
    (entries_with_offsets (at + length bytes) (map idle_entry es))
    (λ bad. not_outside file at low (omega arith) bad)
    (good_offsets r file (at + length bytes) es
    (All-tail (IsWritableEntry r) (a_resource kind id (Some bytes)) es all) (omega arith)
    (omega arith))

-- ---- the database as its file has it

abbrev placed : Database (Option (List ℕ)) → Database ℕ
placed d = with_offsets (first_block d) (idle d)

-- where the data of its entries begins
abbrev data_from : Database (Option (List ℕ)) → ℕ
data_from d = first_block d + block_size d.app_info + block_size d.sort_info

data_idle : (d : Database (Option (List ℕ))) → data_in (idle d) ≡ data_in d
data_idle d =
    ap (λ (xs : List (Option (List ℕ))). d.app_info ∷ d.sort_info ∷ xs) (same_data d.entries)

total : (d : Database (Option (List ℕ)))
    → length (all_bytes (data_in d))
    ≡ block_size d.app_info + (block_size d.sort_info + length (all_bytes (map entry_data d.entries)))
total d =
    let one = size_more d.app_info (d.sort_info ∷ map entry_data d.entries) in
    let two = size_more d.sort_info (map entry_data d.entries) in
    omega arith

placed_offsets : (d : Database (Option (List ℕ)))
    → data_in (placed d) ≡ running (first_block d) (data_in (idle d))
placed_offsets d =
    ap (λ (xs : List ℕ). block_offset (first_block d) d.app_info
    ∷ block_offset (first_block d + block_size d.app_info) d.sort_info ∷ xs)
    (offsets_run (data_from d) (map idle_entry d.entries))

length-placed : (d : Database (Option (List ℕ))) → length (placed d).entries ≡ length d.entries
length-placed d =
    length-with_offsets (data_from d) (map idle_entry d.entries) ∙ length-map d.entries idle_entry

placed_fits : (d : Database (Option (List ℕ))) → HasFile d → DatabaseFits (placed d)
placed_fits d is =
    let all = total d in
    let size = is.size in
    let app = offset_most (first_block d) d.app_info in
    let sort = offset_most (first_block d + block_size d.app_info) d.sort_info in
    let long = length-placed d in
    let few = is.entry_count in
    record {
      name = is.name;
      header = is.header;
      app_info = omega arith;
      sort_info = omega arith;
      entries = entries_fit (has_resources d.header.attributes) (data_from d) _ is.entries
          (omega arith);
      entry_count = omega arith;
    }

-- the part before the first block
front : Database (Option (List ℕ)) → List ℕ
front d = spelled (placed d) ++ 0 ∷ 0 ∷ []

length-front : (d : Database (Option (List ℕ))) → HasFile d → length (front d) ≡ first_block d
unfolding front
length-front d is =
    let both = length-append (spelled (placed d)) (0 ∷ 0 ∷ []) in
    let long = length-spelled _ (placed_fits d is)
    ∙ ap (entry_offset (has_resources d.header.attributes)) (length-placed d) in
    both ∙ ap (λ (n : ℕ). n + 2) long

file_parts : (d : Database (Option (List ℕ))) → file_of d ≡ front d ++ all_bytes (data_in (idle d))
unfolding file_of front
file_parts d =
    ap (λ (xs : List (Option (List ℕ))). spelled (placed d) ++ 0 ∷ 0 ∷ all_bytes xs)
    (sym (data_idle d))
    ∙ sym (append_assoc (spelled (placed d)) (0 ∷ 0 ∷ []) (all_bytes (data_in (idle d))))

headed : (d : Database (Option (List ℕ))) → HasFile d → IsHeaded (file_of d) (placed d)
unfolding file_of
headed d is = spelled_heads (placed d) (0 ∷ 0 ∷ all_bytes (data_in d)) (placed_fits d is)

-- how long the file is, and where its entries end
pub length-of_file : (d : Database (Option (List ℕ))) → HasFile d → length (file_of d) ≡ file_size d
length-of_file d is =
    let long = ap length (file_parts d) ∙ length-append (front d) (all_bytes (data_in (idle d))) in
    let first = length-front d is in
    let same = ap (λ (xs : List (Option (List ℕ))). length (all_bytes xs)) (data_idle d) in
    omega arith

end_at : (d : Database (Option (List ℕ))) → HasFile d → entries_end (file_of d) + 2 ≡ first_block d
end_at d is =
    let head = headed d is in
    ap (λ (n : ℕ). n + 2)
    (ap (λ (r : Bool). entry_offset r (entry_count_in (file_of d))) head.resources
    ∙ ap (entry_offset (has_resources d.header.attributes)) (head.count ∙ length-placed d))

header_there : (d : Database (Option (List ℕ))) → HasFile d → header_in (file_of d) ≡ d.header
unfolding database_in
header_there d is = ap (λ (x : Database ℕ). x.header) (headed d is).is

app_there : (d : Database (Option (List ℕ))) → HasFile d
    → u32_at (file_of d) 52 ≡ block_offset (first_block d) d.app_info
unfolding database_in
app_there d is = ap (λ (x : Database ℕ). x.app_info) (headed d is).is

sort_there : (d : Database (Option (List ℕ))) → HasFile d
    → u32_at (file_of d) 56 ≡ block_offset (first_block d + block_size d.app_info) d.sort_info
unfolding database_in
sort_there d is = ap (λ (x : Database ℕ). x.sort_info) (headed d is).is

name_there : (d : Database (Option (List ℕ))) → HasFile d → name_in (file_of d) ≡ d.header.name
unfolding header_in
name_there d is = ap (λ (h : DatabaseHeader). h.name) (header_there d is)

-- ---- it has no fault

at_least_header : (resources : Bool) (n : ℕ) → 78 ≤ entry_offset resources n
at_least_header false n = omega arith
at_least_header true n = omega arith

not_truncated : (file : List ℕ) → 78 ≤ length file → entries_end file ≤ length file
    → (length file < 78) ⊎ (length file < entries_end file) → ⊥
not_truncated file header ends (inl less) = omega arith
not_truncated file header ends (inr less) = omega arith

not_empty : (name other : List ℕ) → 0 < length name → other ≡ name → other ≡ [] → ⊥
not_empty name other some e none =
    let zero_long : length name ≡ 0 = ap length (sym e ∙ none) in omega arith

good_head : (d : Database (Option (List ℕ))) → HasFile d → HasGoodHead (file_of d)
good_head d is =
    let file : List ℕ = file_of d in
    let long = length-of_file d is in
    let ends = end_at d is in
    let least = at_least_header (resources_in file) (entry_count_in file) in
    let all = total d in
    record {
      whole = not_truncated file (omega arith) (omega arith);
      ends = λ some. some (headed d is).next_list;
      named = not_empty d.header.name (name_in file) is.name.some (name_there d is);
      app_info = λ bad. good_info file (first_block d) d.app_info (omega arith) (omega arith)
          (subst (IsBadInfo file) (app_there d is) bad);
      sort_info = λ bad. good_info file (first_block d + block_size d.app_info) d.sort_info
          (omega arith) (omega arith) (subst (IsBadInfo file) (sort_there d is) bad);
    }

good_entry : (d : Database (Option (List ℕ))) (index : ℕ) → HasFile d
    → index < entry_count_in (file_of d) → HasBadOffset (file_of d) (entry_in (file_of d) index) → ⊥
good_entry d index is below bad =
    let file : List ℕ = file_of d in
    let head = headed d is in
    let long = length-of_file d is in
    let ends = end_at d is in
    let all = total d in
    let count = head.count in
    let good = good_offsets (has_resources d.header.attributes) file (data_from d) _ is.entries
    (omega arith) (omega arith) in
    good index (a_record 0 0 0) (omega arith)
    (subst (HasBadOffset file) (head.entry index (a_record 0 0 0) (omega arith)) bad)

pub file_good : (d : Database (Option (List ℕ))) → HasFile d → HasNoFault (file_of d)
file_good d is =
    no_fault (file_of d) (good_head d is) (λ index below bad. good_entry d index is below bad.1)

-- ---- a database that can be written

pub has_file : (d : Database (Option (List ℕ))) → IsWritable d → HasFile d
has_file d is = record {
  name = is.name;
  header = is.header;
  entries = is.entries;
  entry_count = is.entry_count;
  size = is.size;
}

pub length-file : (d : Database (Option (List ℕ))) → IsWritable d → length (file_of d) ≡ file_size d
length-file d is = length-of_file d (has_file d is)

pub written_good : (d : Database (Option (List ℕ))) → IsWritable d → HasNoFault (file_of d)
written_good d is = file_good d (has_file d is)

-- ---- what is read

ids_from : (seed other : ℕ) (ids given : List ℕ) → seed ≡ other → ids ≡ given
    → HaveIds other given given other → HaveIds seed ids given other
ids_from seed other ids given e f have =
    subst (λ (s : ℕ). HaveIds s ids given other) (sym e)
    (subst (λ (xs : List ℕ). HaveIds other xs given other) (sym f) have)

header_from : (h g : DatabaseHeader) → g ≡ h
    → h ≡ record g { seed = with_seed g.seed (seed_in h.seed) }
header_from h g e =
    subst (λ (g : DatabaseHeader). h ≡ record g { seed = with_seed g.seed (seed_in h.seed) })
    (sym e) (header_stays h)

idle_ids : (d : Database (Option (List ℕ))) → unique_ids (idle d) ≡ unique_ids d
idle_ids d = ids_idle d.entries

file_ids : (d : Database (Option (List ℕ))) → HasFile d
    → unique_ids (database_in (file_of d)) ≡ unique_ids (idle d)
file_ids d is =
    ap (λ (x : Database ℕ). unique_ids x) (headed d is).is ∙ ids_same (data_from d) d.entries

file_offsets : (d : Database (Option (List ℕ))) → HasFile d
    → offsets_in (file_of d) ≡ running (length (front d)) (data_in (idle d))
file_offsets d is =
    ap (λ (x : Database ℕ). data_in x) (headed d is).is ∙ placed_offsets d
    ∙ ap (λ (n : ℕ). running n (data_in (idle d))) (sym (length-front d is))

pub file_reads : (d : Database (Option (List ℕ))) → HasFile d → All (λ id. id ≢ 0) (unique_ids d)
    → Distinct (unique_ids d) → Reads (file_of d) (idle d)
file_reads d is none_zero distinct =
    let file : List ℕ = file_of d in
    let there = header_there d is in
    let first = length-front d is in
    record {
      good = file_good d is;
      last_seed = seed_in d.header.seed;
      ids = ids_from (seed_in (header_in file).seed) (seed_in d.header.seed)
          (unique_ids (database_in file)) (unique_ids (idle d))
          (ap (λ (h : DatabaseHeader). seed_in h.seed) there) (file_ids d is)
          (ids_stay (seed_in d.header.seed) (unique_ids (idle d))
          (subst (λ (ids : List ℕ). All (λ id. id ≢ 0) ids) (sym (idle_ids d)) none_zero)
          (subst (λ (ids : List ℕ). Distinct ids) (sym (idle_ids d)) distinct));
      header = header_from d.header (header_in file) there;
      entries =
          rw (← (ap (λ (x : Database ℕ). x.entries) (headed d is).is)) at (read_as (data_from d) d.entries);
      blocks = blocks_read file (front d) (data_in (idle d)) (omega arith) (file_parts d)
          (file_offsets d is);
    }

pub written_reads : (d : Database (Option (List ℕ))) → IsWritable d → Reads (file_of d) (idle d)
written_reads d is = file_reads d (has_file d is) is.none_zero is.distinct

-- ---- a file of a database of which no record is busy

entries_idle_twice : (es : List (Entry (Option (List ℕ))))
    → map idle_entry (map idle_entry es) ≡ map idle_entry es
entries_idle_twice [] = refl
entries_idle_twice (a_record attributes id block ∷ es) =
    ap (λ (a : ℕ). a_record a id block ∷ map idle_entry (map idle_entry es))
    (sym (idle_twice attributes))
    ∙ ap (λ (xs : List (Entry (Option (List ℕ)))). a_record (idle_attributes attributes) id block
    ∷ xs) (entries_idle_twice es)
entries_idle_twice (a_resource kind id block ∷ es) =
    ap (λ (xs : List (Entry (Option (List ℕ)))). a_resource kind id block ∷ xs)
    (entries_idle_twice es)

with_entries : Database (Option (List ℕ)) → List (Entry (Option (List ℕ)))
    → Database (Option (List ℕ))
with_entries d es = record d { entries = es }

idle_again : (d : Database (Option (List ℕ))) → idle (idle d) ≡ idle d
unfolding with_entries
idle_again d = ap (with_entries d) (entries_idle_twice d.entries)

first_idle : (d : Database (Option (List ℕ))) → first_block (idle d) ≡ first_block d
first_idle d =
    ap (λ (n : ℕ). entry_offset (has_resources d.header.attributes) n + 2)
    (length-map d.entries idle_entry)

-- busy bits make no other file
pub idle_file : (d : Database (Option (List ℕ))) → file_of (idle d) ≡ file_of d
unfolding file_of
idle_file d =
    ap (λ (at : ℕ). spelled (with_offsets at (idle (idle d))) ++ 0 ∷ 0
    ∷ all_bytes (data_in (idle d))) (first_idle d)
    ∙ ap (λ (x : Database (Option (List ℕ))). spelled (with_offsets (first_block d) x) ++ 0 ∷ 0
    ∷ all_bytes (data_in (idle d))) (idle_again d)
    ∙ ap (λ (xs : List (Option (List ℕ))). spelled (with_offsets (first_block d) (idle d)) ++ 0 ∷ 0
    ∷ all_bytes xs) (data_idle d)

-- ---- a database with any IDs

kept_as : (at : ℕ) (es fs : List (Entry (Option (List ℕ))))
    → AllZip IsReadAs (entries_with_offsets at (map idle_entry es)) fs → AllZip IsKeptAs es fs
kept_as at [] [] all = tt
kept_as at [] (f ∷ fs) all = absurd all
kept_as at (a_record attributes id block ∷ es) [] all = absurd all
kept_as at (a_resource kind id block ∷ es) [] all = absurd all
kept_as at (a_record attributes id block ∷ es) (a_record other_attributes other_id other_block ∷ fs) all =
    (all.0 ∙ sym (idle_twice attributes), kept_as (at + block_size block) es fs all.1)
kept_as at (a_record attributes id block ∷ es) (a_resource other_kind other_id other_block ∷ fs) all =
    absurd all.0
kept_as at (a_resource kind id block ∷ es) (a_record other_attributes other_id other_block ∷ fs) all =
    absurd all.0
kept_as at (a_resource kind id block ∷ es) (a_resource other_kind other_id other_block ∷ fs) all =
    (all.0, kept_as (at + block_size block) es fs all.1)

-- its file is read back as it, with the IDs that are given
pub read_back : (d e : Database (Option (List ℕ))) → HasFile d → Reads (file_of d) e
    → IsReadBack d e
read_back d e is reads =
    let file : List ℕ = file_of d in
    let there = header_there d is in
    let first = length-front d is in
    record {
      last_seed = reads.last_seed;
      ids = subst (λ (h : DatabaseHeader). HaveIds (seed_in h.seed) (unique_ids d)
          (unique_ids e) reads.last_seed) there
          (rw (file_ids d is ∙ idle_ids d) at reads.ids);
      header = rw there at reads.header;
      entries = kept_as (data_from d) d.entries e.entries
          (rw (ap (λ (x : Database ℕ). x.entries) (headed d is).is) at reads.entries);
      blocks = reads.blocks
          ∙ sym (blocks_read file (front d) (data_in (idle d)) (omega arith) (file_parts d)
          (file_offsets d is)) ∙ data_idle d;
    }
