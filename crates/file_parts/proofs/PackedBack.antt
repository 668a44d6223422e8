-- A file that is taken apart is put together as its canonical form.
use Rattle.file_parts.proofs.AllWords.{◌≡◌, ◌≢◌, ℕ, suc, ◌+◌, ◌^◌, ◌<◌, ◌≤◌, Bool, true, false, Option, None, List, [], ◌∷◌, length, map, get_or, refl, sym, ap, subst, ◌∙◌, arith, All, AllZip, and_le_l, big_from-lt, AreBytes, u16_at, u32_at, Distinct, greatest_id, Database, Entry, a_record, a_resource, IsDatabaseName, HeaderFits, has_resources, header_in, resources_in, entry_count_in, entry_at, entry_in, entry_offset, unique_ids, HasNoFault, Reads, blocks_in, idle, idle_entry, file_of, size_of_block, header_fits, HasPlaces, Block, IsWritableEntry, HasFile, entry_read, entries_read, database_read, HasIdsFor, file_named, none_planned, record_block, resource_block, not_truncated, length-entries_read, entry_read_is, ids_read, blocks_read_are, read_once, still_deleted, file_reads, idle_file, idle_twice, all_bytes, IsCanonical, fits_seeded, IsUnpacked, database_of, PacksBack}
use Rattle.canonical_file.proofs.BlockTexts.{blocks_long}
use Rattle.canonical_file.proofs.Headers.{first_is}
use Rattle.file_parts.specs.declared.unpacked.Unpacked.{Unpacked}
use Rattle.file_parts.proofs.PartsBack.{parts_back, text_back, name_bytes}

pub u16_small : (file : List ℕ) (at : ℕ) → AreBytes file → u16_at file at < 2 ^ 16
unfolding u16_at
u16_small file at bytes = big_from-lt at 2 file bytes

pub u32_small : (file : List ℕ) (at : ℕ) → AreBytes file → u32_at file at < 2 ^ 32
unfolding u32_at
u32_small file at bytes = big_from-lt at 4 file bytes

-- ---- the header

named : (file ids : List ℕ) (seed : ℕ) → HasNoFault file
    → IsDatabaseName (database_read file ids seed).header.name
unfolding database_read header_in
named file ids seed good = file_named file good

fits : (file ids : List ℕ) (seed : ℕ) → AreBytes file → seed ≤ greatest_id
    → HeaderFits (database_read file ids seed).header
unfolding database_read header_in
fits file ids seed bytes small = fits_seeded (header_in file) seed (header_fits file bytes) small

-- ---- the entries

one_writable : (file ids : List ℕ) (k : ℕ) (r : Bool) → HasNoFault file → AreBytes file
    → HasIdsFor file ids → k < entry_count_in file → r ≡ resources_in file
    → IsWritableEntry r (entry_read (entry_at r file (entry_offset r k)) (get_or ids k 0)
    (get_or (blocks_in file) (2 + k) None))
one_writable file ids k false good bytes has inside is =
    let at : ℕ = entry_offset false k in
    let here : entry_at false file at ≡ entry_in file k =
    ap (λ (r : Bool). entry_at r file (entry_offset r k)) is in
    let byte = bytes (at + 4) in
    let less = and_le_l (get_or file (at + 4) 0) 0xDF in
    let count = has.count (sym is) in
    let fit = has.fit k 0 (omega arith) in
    let high = fit.1 in (
      omega arith,
      omega arith,
      λ none. still_deleted (get_or file (at + 4) 0) ∙ record_block file k (get_or file (at + 4) 0)
          _ _ good inside here (none_planned file k _ inside here (ap size_of_block none)),
    )
one_writable file ids k true good bytes has inside is =
    let at : ℕ = entry_offset true k in
    let here : entry_at true file at ≡ entry_in file k =
    ap (λ (r : Bool). entry_at r file (entry_offset r k)) is in (
      u32_small file at bytes,
      u16_small file (at + 4) bytes,
      λ none. resource_block file k _ _ _ good inside here
          (none_planned file k _ inside here (ap size_of_block none)),
    )

all_writable : (file ids : List ℕ) → HasNoFault file → AreBytes file → HasIdsFor file ids
    → All (IsWritableEntry (resources_in file)) (entries_read file ids)
all_writable file ids good bytes has = λ k d inside.
    let long = length-entries_read file ids in
    subst (IsWritableEntry (resources_in file)) (sym (entry_read_is file ids k d (omega arith)))
    (one_writable file ids k (resources_in file) good bytes has (omega arith) refl)

writable : (file ids : List ℕ) (seed : ℕ) → HasNoFault file → AreBytes file → HasIdsFor file ids
    → All (IsWritableEntry (has_resources (database_read file ids seed).header.attributes))
    (database_read file ids seed).entries
unfolding database_read header_in
writable file ids seed good bytes has = all_writable file ids good bytes has

-- ---- its file

few : (file ids : List ℕ) (seed : ℕ) → AreBytes file
    → length (database_read file ids seed).entries < 2 ^ 16
unfolding database_read
few file ids seed bytes =
    let long = length-entries_read file ids in
    let small = u16_small file 76 bytes in
    omega arith

has_file : (unpacked : Unpacked) (blocks : List (Option Block)) → HasPlaces unpacked.file blocks
    → AreBytes unpacked.file → IsUnpacked unpacked → HasFile (database_of unpacked)
has_file unpacked blocks places bytes is =
    let file = unpacked.file in
    let ids = unpacked.given.ids.items in
    let seed = unpacked.given.seed in
    let good = places.good in
    let first = first_is file ids seed in
    let data_size = ap (λ (bs : List (Option (List ℕ))). length (all_bytes bs))
    (blocks_read_are file ids seed) ∙ blocks_long _ _ places in
    let total = places.total in
    let short = is.short in
    let end = (not_truncated file good).1 in
    record {
      name = named file ids seed good;
      header = fits file ids seed bytes is.ids.seed;
      entries = writable file ids seed good bytes is.ids.fit;
      entry_count = few file ids seed bytes;
      size = omega arith;
    }

ids_are : (unpacked : Unpacked) → IsUnpacked unpacked
    → unique_ids (database_of unpacked) ≡ unpacked.given.ids.items
unfolding database_read
ids_are unpacked is =
    ids_read unpacked.file unpacked.given.ids.items _ unpacked.given.seed is.ids.have

pub none_zero : (ids : List ℕ) → All (λ id. (0 < id) × (id ≤ greatest_id)) ids
    → All (λ id. id ≢ 0) ids
none_zero ids fit = λ k d inside zero. let low = (fit k d inside).0 in omega arith

-- its file is read as it
idle_read : (entry : Entry ℕ) (given : ℕ) (block : Option (List ℕ))
    → idle_entry (entry_read entry given block) ≡ entry_read entry given block
idle_read (a_record attributes id at) given block =
    ap (λ a. a_record a given block) (sym (idle_twice attributes))
idle_read (a_resource kind id at) given block = refl

all_idle : (es : List (Entry (Option (List ℕ)))) → ((k : ℕ) (d : Entry (Option (List ℕ)))
    → k < length es → idle_entry (get_or es k d) ≡ get_or es k d) → map idle_entry es ≡ es
all_idle [] each = refl
all_idle (e ∷ es) each =
    let first : idle_entry e ≡ e = each 0 e (omega arith) in
    let rest = all_idle es (λ k d inside. each (suc k) d (omega arith)) in
    λ i. first i ∷ rest i

-- the same of entries beside others
pub zip_idle : {X : Type 0} (R : X → Entry (Option (List ℕ))
    → Type 0) (xs : List X) (es : List (Entry (Option (List ℕ)))) → AllZip R xs es
    → ((x : X) (e : Entry (Option (List ℕ))) → R x e → idle_entry e ≡ e) → map idle_entry es ≡ es
zip_idle R [] [] zip each = refl
zip_idle R [] (e ∷ es) zip each = absurd zip
zip_idle R (x ∷ xs) [] zip each = absurd zip
zip_idle R (x ∷ xs) (e ∷ es) zip each =
    let first : idle_entry e ≡ e = each x e zip.0 in
    let rest = zip_idle R xs es zip.1 each in
    λ i. first i ∷ rest i

entries_idle : (file ids : List ℕ) → map idle_entry (entries_read file ids) ≡ entries_read file ids
entries_idle file ids = all_idle (entries_read file ids) (λ k d inside.
    let many = length-entries_read file ids in
    let is = entry_read_is file ids k d (omega arith) in
    ap idle_entry is
    ∙ idle_read (entry_in file k) (get_or ids k 0) (get_or (blocks_in file) (2 + k) None) ∙ sym is)

read_idle : (file ids : List ℕ) (seed : ℕ)
    → idle (database_read file ids seed) ≡ database_read file ids seed
unfolding database_read
read_idle file ids seed =
    ap (λ es. record (database_read file ids seed) { entries = es }) (entries_idle file ids)

reads_idle : (unpacked : Unpacked) (blocks : List (Option Block)) → HasPlaces unpacked.file blocks
    → AreBytes unpacked.file → IsUnpacked unpacked → Distinct unpacked.given.ids.items
    → Reads (file_of (database_of unpacked)) (idle (database_of unpacked))
reads_idle unpacked blocks places are is distinct =
    let same = ids_are unpacked is in
    file_reads (database_of unpacked) (has_file unpacked blocks places are is)
    (rw same (none_zero unpacked.given.ids.items is.ids.fit.fit))
    (subst Distinct (sym same) distinct)

-- the canonical form of its file is that file
pub packed_back : (unpacked : Unpacked) (blocks : List (Option Block)) (bytes : List ℕ)
    → HasPlaces unpacked.file blocks → AreBytes unpacked.file → IsUnpacked unpacked
    → Distinct unpacked.given.ids.items → IsCanonical (file_of (database_of unpacked)) bytes
    → bytes ≡ file_of (database_of unpacked)
packed_back unpacked blocks bytes places are is distinct canonical =
    let d : Database (Option (List ℕ)) = database_of unpacked in
    let reads = reads_idle unpacked blocks places are is distinct in
    canonical.written ∙ ap file_of (read_once _ _ _ canonical.reads reads) ∙ idle_file d

header_name_bytes : (file ids : List ℕ) (seed : ℕ) → AreBytes file
    → AreBytes (database_read file ids seed).header.name
unfolding database_read header_in
header_name_bytes file ids seed are = name_bytes file are

pub packs_back : (unpacked : Unpacked) (blocks : List (Option Block))
    → HasPlaces unpacked.file blocks → AreBytes unpacked.file → IsUnpacked unpacked
    → Distinct unpacked.given.ids.items → PacksBack (database_of unpacked)
packs_back unpacked blocks places are is distinct = record {
  text = text_back _ (has_file _ _ places are is)
      (header_name_bytes unpacked.file unpacked.given.ids.items unpacked.given.seed are);
  parts = parts_back (database_of unpacked);
  again = rw (read_idle unpacked.file unpacked.given.ids.items unpacked.given.seed) at
      (reads_idle _ _ places are is distinct);
  file = λ bytes. packed_back unpacked blocks bytes places are is distinct;
}
