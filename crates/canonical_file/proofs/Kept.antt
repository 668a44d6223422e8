-- If all of a file is kept, it is the file that is written for its database. All of a written file
-- is kept.
use Rattle.std.proofs.Common.{◌≡◌, ◌≢◌, ℕ, ◌+◌, ◌-◌, ◌<◌, ◌≤◌, Bool, true, false, Option, List, [], ◌∷◌, ◌++◌, length, get_or, filter, take, drop, map, slice_range, refl, sym, ap, subst, ◌∙◌, arith, length-append, length-drop, inl, inr}
use Rattle.std.specs.Prelude.{All, nat_lt}
use Rattle.std.specs.List.{flat_map}
use Rattle.std.proofs.lemmas.Bool.{cases_eq, cases_lt}
use Rattle.std.proofs.lemmas.List.{length-map, take-append-drop, take-append-le, length-take, length-take-le, get_or_past, drop_at, drop-drop}
use Rattle.std.proofs.lemmas.List.FromFn.{length-map-range_with_len, get_or-map-range_with_len}
use Rattle.heap_model.specs.Bytes.{u32_at, AreBytes}
use Rattle.heap_model.specs.Lists.{Distinct}
use Rattle.heap_model.specs.UniqueIds.{greatest_id, seed_in, with_seed}
use Rattle.heap_model.specs.Database.{Database, DatabaseHeader, Entry, a_record, entry_data, data_in, has_resources, spelled, name_field, IsDatabaseName, HeaderFits, EntryFits, DatabaseFits, HasShape, header_bytes, entry_bytes, name_in, header_in, resources_in, entry_count_in, entry_offset, entry_in, database_in}
use Rattle.heap_model.specs.Store.{unique_ids}
use Rattle.heap_model.specs.Files.{HasNoFault, Reads, entries_end, offsets_in, blocks_in, block_size, block_offset, idle_entry, first_block, file_of}
use Rattle.heap_model.specs.declared.file_fault.FileFault.TheVariants.{Truncated}
use Rattle.laws_store.proofs.Entries.{fits_with}
use Rattle.laws_store.proofs.Numbers.{AreBytes-slice}
use Rattle.laws_store.proofs.Shapes.{database_fits, shape_spelled}
use Rattle.laws_store.proofs.Spellings.{length-header_bytes, spelled_name, length-spelled}
use Rattle.pdb_format.proofs.FileBlocks.{block_count}
use Rattle.pdb_format.proofs.FileNames.{file_named}
use Rattle.pdb_format.proofs.FileParts.{length-with_offsets}
use Rattle.pdb_format.proofs.GoodFiles.{not_truncated, offset_inside_file}
use Rattle.pdb_format.proofs.ReadIds.{given_same}
use Rattle.pdb_format.proofs.WrittenHeads.{name_front, resources_front, count_front, u32_front, database_front, spelled_heads}
use Rattle.pdb_format.proofs.WrittenIds.{ids_stay, header_stays}
use Rattle.pdb_format.proofs.WrittenOffsets.{all_bytes, running, size_more, offset_most}
use Rattle.pdb_format.specs.Filler.{first_start}
use Rattle.pdb_format.proofs.LeastOffsets.{least_most}
use Rattle.pdb_format.specs.Opened.{most_file_bytes}
use Rattle.canonical_file.specs.Changes.{IsIdle, NoneIsBusy, HasPlainFiller, HasPlainName, AreRising, IsInOrder}
use Rattle.canonical_file.proofs.Rising.{first_of, least_first, some_pass}
use Rattle.canonical_file.proofs.Tiled.{AreTiled, tiled}
use Rattle.canonical_file.proofs.Placed.{placed, data_from, same_head, entries_back, idle_placed, ids_placed, offsets_placed, fits_placed, rising_running, first_running}

-- what is known of a file and of the database that is read from it
pub record Known (file : List ℕ) (d : Database (Option (List ℕ))) : Type 0 where
  pub bytes : AreBytes file
  pub short : length file ≤ most_file_bytes
  pub reads : Reads file d
  pub long : length (file_of d) ≡ entries_end file + 2 + length (all_bytes (data_in d))
  pub fit : All (λ id. (0 < id) × (id ≤ greatest_id)) (unique_ids d)
  pub distinct : Distinct (unique_ids d)
  pub seed : reads.last_seed ≤ greatest_id

-- all of the file is kept
pub record IsKept (file : List ℕ) (d : Database (Option (List ℕ))) : Type 0 where
  pub busy : NoneIsBusy file
  pub filler : HasPlainFiller file
  pub ids : unique_ids d ≡ unique_ids (database_in file)
  pub name : HasPlainName file
  pub order : IsInOrder file

-- ---- the offsets of a file

offsets_inside : (file : List ℕ) → HasNoFault file → (k : ℕ)
    → get_or (offsets_in file) k 0 ≤ length file
offsets_inside file good k = elim (cases_lt k (length (offsets_in file))) [
  | inl inside ↦ offset_inside_file file good k inside
  | inr past ↦ let none = get_or_past (offsets_in file) k 0 past in omega arith
]

at_least_header : (resources : Bool) (n : ℕ) → 78 ≤ entry_offset resources n
at_least_header false n = omega arith
at_least_header true n = omega arith

-- ---- its entries

entry_here : (file : List ℕ) (k : ℕ) (d : Entry ℕ) → k < entry_count_in file
    → get_or (database_in file).entries k d ≡ entry_in file k
unfolding database_in
entry_here file k d inside =
    get_or-map-range_with_len (entry_in file) 0 (entry_count_in file) k k d inside (omega arith)

entries_long : (file : List ℕ) → length (database_in file).entries ≡ entry_count_in file
unfolding database_in
entries_long file = length-map-range_with_len (entry_in file) 0 (entry_count_in file)

pub all_idle : (file : List ℕ) → NoneIsBusy file → All IsIdle (database_in file).entries
all_idle file none = λ k d below.
    let long = entries_long file in
    let inside : k < entry_count_in file = omega arith in
    subst IsIdle (sym (entry_here file k d inside)) (none k inside)

pub none_busy : (file : List ℕ) → All IsIdle (database_in file).entries → NoneIsBusy file
none_busy file all = λ k inside.
    let long = entries_long file in
    let some : Entry ℕ = a_record 0 0 0 in
    subst IsIdle (entry_here file k some inside) (all k some (omega arith))

-- ---- its header

header_there : (file : List ℕ) → (database_in file).header ≡ header_in file
unfolding database_in
header_there file = refl

name_there : (file : List ℕ) → (header_in file).name ≡ name_in file
unfolding header_in
name_there file = refl

resources_there : (file : List ℕ) → has_resources (header_in file).attributes ≡ resources_in file
unfolding header_in
resources_there file = refl

seeded : DatabaseHeader → ℕ → DatabaseHeader
seeded header seed = record header { seed = with_seed header.seed seed }

attributes_kept : (header : DatabaseHeader) (seed : ℕ)
    → (seeded header seed).attributes ≡ header.attributes
unfolding seeded
attributes_kept header seed = refl

name_kept : (header : DatabaseHeader) (seed : ℕ) → (seeded header seed).name ≡ header.name
unfolding seeded
name_kept header seed = refl

seed_kept : (header : DatabaseHeader) (seed : ℕ) → seed ≡ seed_in header.seed
    → seeded header seed ≡ header
unfolding seeded
seed_kept header seed is = ap (seeded header) is ∙ sym (header_stays header)

-- a header fits with a seed that fits
pub fits_seeded : (header : DatabaseHeader) (seed : ℕ) → HeaderFits header → seed ≤ greatest_id
    → HeaderFits (record header { seed = with_seed header.seed seed })
fits_seeded header seed fits most =
    let field = fits.seed in
    fits_with header header.name (with_seed header.seed seed) fits (omega arith)

seed_fits : (header : DatabaseHeader) (seed : ℕ) → seed ≤ greatest_id → HeaderFits header
    → HeaderFits (seeded header seed)
unfolding seeded
seed_fits header seed most fits = fits_seeded header seed fits most

header_read : (file : List ℕ) (d : Database (Option (List ℕ))) → (reads : Reads file d)
    → d.header ≡ seeded (header_in file) reads.last_seed
unfolding seeded
header_read file d reads = reads.header

resources_read : (file : List ℕ) (d : Database (Option (List ℕ))) → Reads file d
    → has_resources d.header.attributes ≡ resources_in file
resources_read file d reads =
    ap has_resources
    (ap (λ (h : DatabaseHeader). h.attributes) (header_read file d reads)
    ∙ attributes_kept (header_in file) reads.last_seed) ∙ resources_there file

name_read : (file : List ℕ) (d : Database (Option (List ℕ))) → Reads file d
    → d.header.name ≡ name_in file
name_read file d reads =
    ap (λ (h : DatabaseHeader). h.name) (header_read file d reads)
    ∙ name_kept (header_in file) reads.last_seed ∙ name_there file

-- IDs that stay leave the seed as it is
pub seed_stays : (file : List ℕ) (d : Database (Option (List ℕ))) → (k : Known file d)
    → unique_ids d ≡ unique_ids (database_in file)
    → k.reads.last_seed ≡ seed_in (header_in file).seed
seed_stays file d k same =
    let ids : List ℕ = unique_ids (database_in file) in
    let seed : ℕ = seed_in (header_in file).seed in
    let some : All (λ id. id ≢ 0) (unique_ids d) =
    λ i e below. (λ none. (let here = (k.fit i e below).0 in omega arith)) in
    let stay = ids_stay seed ids (rw same at some) (rw same at k.distinct) in
    (given_same _ _ seed ids (unique_ids d) ids k.reads.last_seed seed k.reads.ids stay).1

-- ---- the number of entries, and the offset of the first block in the new file

count_read : (file : List ℕ) (d : Database (Option (List ℕ))) → Reads file d
    → length d.entries ≡ entry_count_in file
count_read file d reads =
    let all = ap length reads.blocks ∙ block_count file in
    let data_long = length-map d.entries (entry_data {Data = Option (List ℕ)}) in
    omega arith

first_read : (file : List ℕ) (d : Database (Option (List ℕ))) → Reads file d
    → first_block d ≡ entries_end file + 2
first_read file d reads =
    ap (λ (r : Bool). entry_offset r (length d.entries) + 2) (resources_read file d reads)
    ∙ ap (λ (n : ℕ). entry_offset (resources_in file) n + 2) (count_read file d reads)

-- ---- the prefix of a file

-- the bytes up to the end of the entries spell what is read from the file
pub record IsFront (file : List ℕ) : Type 0 where
  pub spells : spelled (database_in file) ≡ take (entries_end file) file
  pub fits : DatabaseFits (database_in file)

no_list : (file : List ℕ) → (u32_at file 72 ≢ 0 → ⊥) → u32_at file 72 ≡ 0
no_list file none = elim (cases_eq (u32_at file 72) 0) [
  | inl is ↦ is
  | inr some ↦ absurd (none some)
]

pub front_of : (file : List ℕ) → AreBytes file → HasNoFault file → HasPlainName file → IsFront file
front_of file bytes good plain =
    let end : ℕ = entries_end file in
    let front : List ℕ = take end file in
    let back : List ℕ = drop end file in
    let joined : front ++ back ≡ file = take-append-drop end file in
    let least = at_least_header (resources_in file) (entry_count_in file) in
    let inside = (not_truncated file good).1 in
    let long : length front ≡ end = length-take-le end file inside in
    let header : 78 ≤ length front = omega arith in
    let resources : resources_in front ≡ resources_in file =
    sym (resources_front front back header) ∙ ap resources_in joined in
    let count : entry_count_in front ≡ entry_count_in file =
    sym (count_front front back header) ∙ ap entry_count_in joined in
    let name : name_in front ≡ name_in file =
    sym (name_front front back header) ∙ ap name_in joined in
    let next : u32_at front 72 ≡ 0 = sym (u32_front 72 front back (omega arith))
    ∙ ap (λ (xs : List ℕ). u32_at xs 72) joined ∙ no_list file (good 1 Truncated (omega arith)) in
    let field : take 32 front ≡ name_field (name_in front) =
    sym (take-append-le 32 front back (omega arith)) ∙ ap (take 32) joined ∙ plain
    ∙ ap name_field (sym name) in
    let ends : length front ≡ entry_offset (resources_in front) (entry_count_in front) =
    long
    ∙ sym (ap (λ (r : Bool). entry_offset r (entry_count_in front)) resources
    ∙ ap (entry_offset (resources_in file)) count) in
    let shape : HasShape front = record {
      header = header;
      name =
          record { name = subst IsDatabaseName (sym name) (file_named file good); field = field };
      next_list = next;
      ends = ends;
    } in
    let front_bytes : AreBytes front = AreBytes-slice 0 end file bytes in
    let same : database_in front ≡ database_in file =
    sym (database_front front back header (omega arith)) ∙ ap database_in joined in
    record {
      spells = ap spelled (sym same) ∙ sym (shape_spelled front front_bytes shape).bytes_are;
      fits = subst DatabaseFits same (database_fits front front_bytes shape);
    }

-- ---- its filler

filler_two : (file : List ℕ) → HasPlainFiller file → first_start file ≡ entries_end file + 2
filler_two file filler =
    let most = least_most (length file) (filter (nat_lt 0) (offsets_in file)) in
    let rest = length-drop (entries_end file) file in
    let long = length-take (first_start file - entries_end file) (drop (entries_end file) file) in
    let two = ap length filler in
    omega arith

filler_zeros : (file : List ℕ) → HasPlainFiller file
    → slice_range file (entries_end file) (entries_end file + 2) ≡ 0 ∷ 0 ∷ []
filler_zeros file filler =
    ap (slice_range file (entries_end file)) (sym (filler_two file filler)) ∙ filler

-- ---- a file of which all is kept

whole : DatabaseHeader → ℕ → ℕ → List (Entry ℕ) → Database ℕ
whole header app sort entries =
    record { header = header; app_info = app; sort_info = sort; entries = entries }

same_whole : (h g : DatabaseHeader) (a b c e : ℕ) (xs ys : List (Entry ℕ)) → h ≡ g → a ≡ b → c ≡ e
    → xs ≡ ys → whole h a c xs ≡ whole g b e ys
same_whole h g a b c e xs ys p q r s = cc

databases_same : (one other : Database ℕ) → one.header ≡ other.header
    → one.app_info ≡ other.app_info → one.sort_info ≡ other.sort_info → one.entries ≡ other.entries
    → one ≡ other
unfolding whole
databases_same one other p q r s =
    same_whole one.header other.header one.app_info other.app_info one.sort_info other.sort_info
    one.entries other.entries p q r s

-- the places of its blocks
blocks_stand : (file : List ℕ) (d : Database (Option (List ℕ))) → Reads file d → HasPlainFiller file
    → IsInOrder file → AreTiled file (first_block d) (data_in d) (offsets_in file)
blocks_stand file d reads filler order =
    let inside = offsets_inside file reads.good in
    let start : first_of (length file) (offsets_in file) ≡ first_block d =
    sym (least_first (nat_lt 0) 0 (length file) (offsets_in file) some_pass order inside)
    ∙ filler_two file filler ∙ sym (first_read file d reads) in
    subst (λ (blocks : List (Option (List ℕ))).
    AreTiled file (first_block d) blocks (offsets_in file)) (sym reads.blocks)
    (rw start at (tiled file order inside))

database_stays : (file : List ℕ) (d : Database (Option (List ℕ))) → Known file d → IsKept file d
    → placed d ≡ database_in file
database_stays file d k kept =
    let stand = blocks_stand file d k.reads kept.filler kept.order in
    let was : Database ℕ = database_in file in
    let app = same_head (block_offset (first_block d) d.app_info) was.app_info _
    (was.sort_info ∷ map entry_data was.entries) stand.stand in
    let sort = same_head (block_offset (first_block d + block_size d.app_info) d.sort_info)
    was.sort_info (running (data_from d) (map entry_data d.entries)) (map entry_data was.entries)
    app.1 in
    databases_same (placed d) was
    (header_read file d k.reads
    ∙ seed_kept (header_in file) k.reads.last_seed (seed_stays file d k kept.ids)
    ∙ sym (header_there file))
    app.0 sort.0
    (entries_back (data_from d) was.entries d.entries k.reads.entries
    (all_idle file kept.busy) kept.ids sort.1)

-- the two zeros after the entries
zeros_there : (file : List ℕ) → HasPlainFiller file
    → drop (entries_end file) file ≡ 0 ∷ 0 ∷ drop (entries_end file + 2) file
zeros_there file filler =
    let end : ℕ = entries_end file in
    let two : end + 2 - end ≡ 2 = omega arith in
    sym (take-append-drop 2 (drop end file))
    ∙ ap (λ (n : ℕ). take n (drop end file) ++ drop 2 (drop end file)) (sym two)
    ∙ ap (λ (xs : List ℕ). xs ++ drop 2 (drop end file)) (filler_zeros file filler)
    ∙ ap (λ (xs : List ℕ). 0 ∷ 0 ∷ xs) (drop-drop 2 end file)

pub file_stays : (file : List ℕ) (d : Database (Option (List ℕ))) → Known file d → IsKept file d
    → file_of d ≡ file
unfolding file_of
file_stays file d k kept =
    let end : ℕ = entries_end file in
    let stand = blocks_stand file d k.reads kept.filler kept.order in
    let front = front_of file k.bytes k.reads.good kept.name in
    let rest : all_bytes (data_in d) ≡ drop (end + 2) file =
    stand.cover ∙ ap (λ (n : ℕ). drop n file) (first_read file d k.reads) in
    ap (λ (x : Database ℕ). spelled x ++ 0 ∷ 0 ∷ all_bytes (data_in d))
    (database_stays file d k kept)
    ∙ ap (λ (xs : List ℕ). xs ++ 0 ∷ 0 ∷ all_bytes (data_in d)) front.spells
    ∙ ap (λ (xs : List ℕ). take end file ++ 0 ∷ 0 ∷ xs) rest
    ∙ ap (λ (xs : List ℕ). take end file ++ xs) (sym (zeros_there file kept.filler))
    ∙ take-append-drop end file

-- ---- a file that is written

-- what comes after the entries of a written file
abbrev after : Database (Option (List ℕ)) → List ℕ
after d = 0 ∷ 0 ∷ all_bytes (data_in d)

parts : (d : Database (Option (List ℕ))) → file_of d ≡ spelled (placed d) ++ after d
unfolding file_of
parts d = refl

spelled_long : (d : Database ℕ) → IsDatabaseName d.header.name → 78 ≤ length (spelled d)
unfolding spelled
spelled_long d named =
    let front = length-header_bytes d named in
    let both = length-append (header_bytes d) (flat_map entry_bytes d.entries) in
    omega arith

named : (file : List ℕ) (d : Database (Option (List ℕ))) → Reads file d
    → IsDatabaseName d.header.name
named file d reads =
    subst IsDatabaseName (sym (name_read file d reads)) (file_named file reads.good)

plain_name : (file : List ℕ) (d : Database (Option (List ℕ))) → Reads file d → file_of d ≡ file
    → HasPlainName file
plain_name file d reads same =
    let is = named file d reads in
    let long = spelled_long (placed d) is in
    ap (take 32) (sym same ∙ parts d)
    ∙ take-append-le 32 (spelled (placed d)) (after d) (omega arith)
    ∙ spelled_name (placed d) is
    ∙ ap name_field (name_read file d reads)

-- how long its blocks are
total : (d : Database (Option (List ℕ)))
    → length (all_bytes (data_in d))
    ≡ block_size d.app_info
    + (block_size d.sort_info + length (all_bytes (map entry_data d.entries)))
total d =
    let one = size_more d.app_info (d.sort_info ∷ map entry_data d.entries) in
    let two = size_more d.sort_info (map entry_data d.entries) in
    omega arith

file_length : (file : List ℕ) (d : Database (Option (List ℕ))) → file_of d ≡ file
    → length file ≡ length (spelled (placed d)) + 2 + length (all_bytes (data_in d))
file_length file d same =
    let both = length-append (spelled (placed d)) (after d) in
    let all = ap length (sym same ∙ parts d) in
    omega arith

placed_fits : (file : List ℕ) (d : Database (Option (List ℕ))) → Known file d → file_of d ≡ file
    → DatabaseFits (placed d)
placed_fits file d k same =
    let front = front_of file k.bytes k.reads.good (plain_name file d k.reads same) in
    let was : Database ℕ = database_in file in
    let all = total d in
    let long = k.long in
    let same_long = ap length same in
    let short = k.short in
    let first = first_read file d k.reads in
    let app = offset_most (first_block d) d.app_info in
    let sort = offset_most (first_block d + block_size d.app_info) d.sort_info in
    let kind : has_resources was.header.attributes ≡ has_resources d.header.attributes =
    ap (λ (h : DatabaseHeader). has_resources h.attributes) (header_there file)
    ∙ resources_there file ∙ sym (resources_read file d k.reads) in
    let count = length-with_offsets (data_from d) (map idle_entry d.entries)
    ∙ length-map d.entries (idle_entry {Data = Option (List ℕ)}) ∙ count_read file d k.reads in
    let few = front.fits.entry_count in
    let same_count = entries_long file in
    record {
      name = named file d k.reads;
      header = subst HeaderFits (sym (header_read file d k.reads))
          (seed_fits (header_in file) k.reads.last_seed k.seed
          (subst HeaderFits (header_there file) front.fits.header));
      app_info = omega arith;
      sort_info = omega arith;
      entries = fits_placed (has_resources d.header.attributes) (data_from d) _ _ k.reads.entries
          (rw kind at front.fits.entries) k.fit (omega arith);
      entry_count = omega arith;
    }

database_there : (file : List ℕ) (d : Database (Option (List ℕ))) → Known file d → file_of d ≡ file
    → database_in file ≡ placed d
database_there file d k same =
    ap database_in (sym same ∙ parts d) ∙ (spelled_heads _ (after d) (placed_fits file d k same)).is

-- where its entries end
end_there : (file : List ℕ) (d : Database (Option (List ℕ))) → Known file d → file_of d ≡ file
    → length (spelled (placed d)) ≡ entries_end file
end_there file d k same =
    let long = length-spelled (placed d) (placed_fits file d k same) in
    let count = length-with_offsets (data_from d) (map idle_entry d.entries)
    ∙ length-map d.entries (idle_entry {Data = Option (List ℕ)}) in
    let front = ap (entry_offset (has_resources d.header.attributes)) count in
    let first = first_read file d k.reads in
    omega arith

pub all_kept : (file : List ℕ) (d : Database (Option (List ℕ))) → Known file d → file_of d ≡ file
    → IsKept file d
all_kept file d k same =
    let is = database_there file d k same in
    let end : ℕ = entries_end file in
    let ends = end_there file d k same in
    let long = file_length file d same in
    let first = first_read file d k.reads in
    let offsets : offsets_in file ≡ running (first_block d) (data_in d) =
    ap (λ (x : Database ℕ). data_in x) is ∙ offsets_placed d in
    let order : IsInOrder file = subst (AreRising 0) (sym offsets)
    (rising_running 0 (first_block d) (data_in d) (omega arith) (omega arith)) in
    let start : first_start file ≡ first_block d =
    least_first (nat_lt 0) 0 (length file) (offsets_in file) some_pass order
    (offsets_inside file k.reads.good)
    ∙ ap (first_of (length file)) offsets
    ∙ first_running (length file) (first_block d) (data_in d) (omega arith) (omega arith) in
    let two : end + 2 - end ≡ 2 = omega arith in
    record {
      busy = none_busy file
          (subst (λ (x : Database ℕ). All IsIdle x.entries) (sym is)
          (idle_placed (data_from d) d.entries));
      filler = ap (slice_range file end) (start ∙ first)
          ∙ ap (λ (n : ℕ). take n (drop end file)) two
          ∙ ap (λ (xs : List ℕ). take 2 (drop end xs)) (sym same ∙ parts d)
          ∙ ap (take 2) (drop_at (spelled (placed d)) (after d) end ends);
      ids = sym (ap (λ (x : Database ℕ). unique_ids x) is ∙ ids_placed (data_from d) d.entries);
      name = plain_name file d k.reads same;
      order = order;
    }
