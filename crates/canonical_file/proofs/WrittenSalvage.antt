-- The file of a salvaged database has no fault, and is read as that database if the IDs are
-- distinct.
use Rattle.std.proofs.Common.{◌≡◌, ℕ, zero, suc, ◌+◌, ◌<◌, ◌≤◌, Bool, true, false, Option, None, List, [], ◌∷◌, length, get_or, map, refl, sym, ap, subst, ◌∙◌, arith}
use Rattle.std.specs.Prelude.{◌==◌, ◌&&◌, ◌||◌, All}
use Rattle.std.specs.List.{AllZip, filter_map}
use Rattle.std.proofs.lemmas.Nat.{and_le_l}
use Rattle.std.proofs.lemmas.List.Elements.{All-nil, All-cons, All-head, All-tail}
use Rattle.heap_model.specs.Bytes.{AreBytes}
use Rattle.heap_model.specs.UniqueIds.{greatest_id, seed_in}
use Rattle.heap_model.specs.Database.{Database, DatabaseHeader, Entry, a_record, a_resource, entry_data, data_in, EntryFits, HeaderFits, IsDatabaseName, entry_offset, has_resources, is_deleted, header_in, resources_in, entry_count_in}
use Rattle.heap_model.specs.Store.{unique_id, unique_ids}
use Rattle.heap_model.specs.Files.{HasNoFault, IsReadAs, Reads, idle, idle_attributes, idle_entry, kept_ids, file_of}
use Rattle.pdb_format.specs.Writable.{HasFile, IsWritableEntry}
use Rattle.pdb_format.proofs.GoodFiles.{offset_count}
use Rattle.pdb_format.proofs.WrittenFiles.{file_good, file_reads, idle_twice, still_deleted}
use Rattle.pdb_format.proofs.WrittenOffsets.{all_bytes}
use Rattle.pdb_format.proofs.Zips.{zip_long}
use Rattle.file_ids.proofs.GivenLaws.{given_distinct}
use Rattle.canonical_file.specs.Canonical.{most_bytes}
use Rattle.canonical_file.specs.Mended.{mended}
use Rattle.canonical_file.specs.Salvage.{HaveIdsBy, IsSalvaged, is_sound_entry, is_sound_offset, sound_block, sound_blocks, sound_header, sound_in, sound_offsets}
use Rattle.canonical_file.specs.SalvageLaws.{SalvagedFilesAreRead, SalvagedFilesHaveNoFault}
use Rattle.canonical_file.specs.declared.salvage.SalvagedIds.{SalvagedIds}
use Rattle.canonical_file.specs.declared.salvage.SalvagedIds.TheVariants.{Distinct, Exact}
use Rattle.canonical_file.proofs.BlockTexts.{blocks_long}
use Rattle.canonical_file.proofs.FoundPlaces.{finds_places}
use Rattle.canonical_file.proofs.GivenFit.{given_fit}
use Rattle.canonical_file.proofs.Kept.{fits_seeded}
use Rattle.canonical_file.proofs.KeptEntries.{data_at}
use Rattle.canonical_file.proofs.MendedFiles.{front_long, mended_blocks, mended_end, mended_good, mended_heads, mended_long, resources_sound, sound_entries}
use Rattle.canonical_file.proofs.SoundParts.{attributes_there, few, header_fits, inside, sound_few, sound_fits, sound_named, whole_most}

-- ---- the IDs that are given

own_most : (r : Bool) (es : List (Entry ℕ)) → All (EntryFits r) es
    → All (λ id. id ≤ greatest_id) (filter_map unique_id es)
own_most r [] all = All-nil (λ id. id ≤ greatest_id)
own_most false (a_record attributes id at ∷ es) all =
    let one = All-head (EntryFits false) (a_record attributes id at) es all in
    let low = one.1 in
    All-cons (λ id. id ≤ greatest_id) id (filter_map unique_id es) (omega arith)
    (own_most false es (All-tail (EntryFits false) (a_record attributes id at) es all))
own_most true (a_record attributes id at ∷ es) all =
    absurd (All-head (EntryFits true) (a_record attributes id at) es all)
own_most r (a_resource kind id at ∷ es) all =
    own_most r es (All-tail (EntryFits r) (a_resource kind id at) es all)

entries_fit : (file : List ℕ) → AreBytes file
    → All (EntryFits (resources_in file)) (sound_in file).entries
entries_fit file b = rw (resources_sound file) at (sound_fits file b).entries

above_zero : (ids : List ℕ) → All (λ id. (0 < id) × (id ≤ greatest_id)) ids
    → All (λ id. id ≤ greatest_id) ids
above_zero ids fit = λ k d below. (fit k d below).1

ids_fit : (rule : SalvagedIds) (file ids : List ℕ) (last : ℕ) → AreBytes file
    → HaveIdsBy rule file ids last → All (λ id. id ≤ greatest_id) ids × (last ≤ greatest_id)
ids_fit Distinct file ids last b have =
    let fit = given_fit (kept_ids [] (unique_ids (sound_in file))) []
    (seed_in (header_in file).seed) (unique_ids (sound_in file)) ids last (omega arith)
    (own_most (resources_in file) _ (entries_fit file b)) have in
    (above_zero ids fit.0, fit.1)
ids_fit Exact file ids last b have =
    let is = have.1 in
    (subst (All (λ id. id ≤ greatest_id)) (sym have.0) (own_most (resources_in file) _ (entries_fit file b)), omega arith)

-- ---- the entries

-- at the offset 0 only a deleted record is sound
zero_not_sound : (r : Bool) (n : ℕ) → entry_offset r n ≤ 0 → ⊥
zero_not_sound false n low = omega arith
zero_not_sound true n low = omega arith

no_block : (file : List ℕ) (at : ℕ) → at ≡ 0 → is_sound_offset file at ≡ true → ⊥
no_block file at none sound =
    let first = (inside file at sound).0 in
    zero_not_sound (resources_in file) (entry_count_in file) (omega arith)

or_deleted : (a d z : Bool) → (a || (d && z)) ≡ true → (a ≡ true → ⊥) → d ≡ true
or_deleted true d z e unsound = absurd (unsound refl)
or_deleted false true z e unsound = refl
or_deleted false false z e unsound = absurd cc

one_record : (file : List ℕ) (attributes id at other given : ℕ) (block : Option (List ℕ))
    → EntryFits false (a_record attributes id at)
    → is_sound_entry file (a_record attributes id at) ≡ true → other ≡ idle_attributes attributes
    → given ≤ greatest_id
    → (block ≡ None → at ≡ 0) → IsWritableEntry false (a_record other given block)
one_record file attributes id at other given block fits sound is most none =
    let byte = fits.0 in
    let less = and_le_l attributes 0xDF in (
      omega arith,
      omega arith,
      λ e. ap is_deleted is ∙ still_deleted attributes
          ∙ or_deleted (is_sound_offset file at) (is_deleted attributes) (at == 0) sound
          (no_block file at (none e)),
    )

one_resource : (file : List ℕ) (kind id at other given : ℕ) (block : Option (List ℕ))
    → EntryFits true (a_resource kind id at) → is_sound_entry file (a_resource kind id at) ≡ true
    → other ≡ kind → given ≡ id → (block ≡ None → at ≡ 0)
    → IsWritableEntry true (a_resource other given block)
one_resource file kind id at other given block fits sound is same none =
    let low = fits.0 in
    let small = fits.1 in
    (omega arith, omega arith, λ e. no_block file at (none e) sound)

writable : (file : List ℕ) (r : Bool) (es : List (Entry ℕ)) (fs : List (Entry (Option (List ℕ))))
    → AllZip IsReadAs es fs → All (EntryFits r) es
    → All (λ entry. is_sound_entry file entry ≡ true) es
    → All (λ id. id ≤ greatest_id) (filter_map unique_id fs)
    → ((k : ℕ) (e : Entry (Option (List ℕ))) (s : Entry ℕ) → k < length fs → entry_data (get_or fs k e) ≡ None → entry_data (get_or es k s) ≡ 0)
    → All (IsWritableEntry r) fs
writable file r [] [] zip fits sound ids none = All-nil (IsWritableEntry r)
writable file r [] (f ∷ fs) zip fits sound ids none = absurd zip
writable file r (e ∷ es) [] zip fits sound ids none = absurd zip
writable file r (a_record attributes id at ∷ es) (a_resource kind given block ∷ fs) zip fits sound ids none =
    absurd zip.0
writable file r (a_resource kind id at ∷ es) (a_record attributes given block ∷ fs) zip fits sound ids none =
    absurd zip.0
writable file true (a_record attributes id at ∷ es) (a_record other given block ∷ fs) zip fits sound ids none =
    absurd (All-head (EntryFits true) (a_record attributes id at) es fits)
writable file false (a_resource kind id at ∷ es) (a_resource other given block ∷ fs) zip fits sound ids none =
    absurd (All-head (EntryFits false) (a_resource kind id at) es fits)
writable file false (a_record attributes id at ∷ es) (a_record other given block ∷ fs) zip fits sound ids none =
    All-cons (IsWritableEntry false) (a_record other given block) fs
    (one_record file attributes id at other given block (All-head (EntryFits false) (a_record attributes id at) es fits) (All-head (λ entry. is_sound_entry file entry ≡ true) (a_record attributes id at) es sound) zip.0
    (All-head (λ q. q ≤ greatest_id) given (filter_map unique_id fs) ids)
    (none 0 (a_record other given block) (a_record attributes id at) (omega arith)))
    (writable file false es fs zip.1 (All-tail (EntryFits false) (a_record attributes id at) es fits) (All-tail (λ entry. is_sound_entry file entry ≡ true) (a_record attributes id at) es sound)
    (All-tail (λ q. q ≤ greatest_id) given (filter_map unique_id fs) ids)
    (λ k e s below. none (suc k) e s (omega arith)))
writable file true (a_resource kind id at ∷ es) (a_resource other given block ∷ fs) zip fits sound ids none =
    All-cons (IsWritableEntry true) (a_resource other given block) fs
    (one_resource file kind id at other given block (All-head (EntryFits true) (a_resource kind id at) es fits) (All-head (λ entry. is_sound_entry file entry ≡ true) (a_resource kind id at) es sound) zip.0.0 zip.0.1
    (none 0 (a_resource other given block) (a_resource kind id at) (omega arith)))
    (writable file true es fs zip.1 (All-tail (EntryFits true) (a_resource kind id at) es fits) (All-tail (λ entry. is_sound_entry file entry ≡ true) (a_resource kind id at) es sound) ids
    (λ k e s below. none (suc k) e s (omega arith)))

none_there : (file : List ℕ) (rank at : ℕ) → sound_block file rank at ≡ None → at ≡ 0
none_there file rank zero e = refl
none_there file rank (suc at) e = absurd cc

none_at : (file : List ℕ) (d : Database (Option (List ℕ))) → data_in d ≡ sound_blocks file
    → length d.entries ≡ length (sound_in file).entries
    → (k : ℕ) (e : Entry (Option (List ℕ))) (s : Entry ℕ) → k < length d.entries
    → entry_data (get_or d.entries k e) ≡ None → entry_data (get_or (sound_in file).entries k s) ≡ 0
none_at file d blocks same k e s below none =
    let parts = data_at file d k e s blocks same below in
    sym parts.1
    ∙ none_there file (2 + k) (get_or (sound_offsets file) (2 + k) 0) (sym parts.0 ∙ none)

-- ---- the file

blocks_fit : (file : List ℕ) → AreBytes file → 78 ≤ length file
    → entry_offset (resources_in file) (length (sound_in file).entries)
    + length (all_bytes (sound_blocks file))
    ≤ length file
blocks_fit file b header =
    let good = mended_good file b header in
    let count = offset_count (mended file) in
    let heads = mended_heads file b in
    let number = heads.count in
    let most = sound_few file in
    let whole = whole_most file in
    let all = few file b in
    let found = finds_places (mended file) good (omega arith) in
    let total = found.places.total in
    let same = ap (λ (bs : List (Option (List ℕ))). length (all_bytes bs))
    (sym (mended_blocks file b header)) ∙ blocks_long (mended file) found.blocks found.places in
    let long = mended_long file b header in
    let end = mended_end file b in
    let front = front_long file b in
    omega arith

pub salvaged_file : (rule : SalvagedIds) (file : List ℕ) (d : Database (Option (List ℕ)))
    → AreBytes file → 78 ≤ length file → length file ≤ most_bytes → IsSalvaged rule file d
    → HasFile d
salvaged_file rule file d b header short is =
    let same = zip_long IsReadAs (sound_in file).entries d.entries is.entries in
    let ids = ids_fit rule file (unique_ids d) is.last_seed b is.ids in
    let kind : has_resources d.header.attributes ≡ resources_in file =
    ap (λ (h : DatabaseHeader). has_resources h.attributes) is.header ∙ attributes_there file in
    let most = sound_few file in
    let whole = whole_most file in
    let all = few file b in
    let size = blocks_fit file b header in
    let data_size = ap (λ (bs : List (Option (List ℕ))). length (all_bytes bs)) is.blocks in
    let first = ap (λ (r : Bool). entry_offset r (length d.entries)) kind
    ∙ ap (entry_offset (resources_in file)) (sym same) in
    record {
      name = subst (λ (h : DatabaseHeader). IsDatabaseName h.name) (sym is.header)
          (sound_named file);
      header = subst HeaderFits (sym is.header)
          (fits_seeded (sound_header file) is.last_seed (header_fits file b) ids.1);
      entries = subst (λ (r : Bool). All (IsWritableEntry r) d.entries) (sym kind)
          (writable file (resources_in file) (sound_in file).entries d.entries is.entries
          (entries_fit file b) (sound_entries file) ids.0 (none_at file d is.blocks (sym same)));
      entry_count = omega arith;
      size = omega arith;
    }

pub salvaged_good : SalvagedFilesHaveNoFault
salvaged_good rule file bytes b header short is =
    subst HasNoFault (sym is.written)
    (file_good _ (salvaged_file rule file _ b header short is.salvaged))

-- ---- it is read

with_entries : Database (Option (List ℕ)) → List (Entry (Option (List ℕ)))
    → Database (Option (List ℕ))
with_entries d es = record d { entries = es }

entry_idle : (e : Entry ℕ) (f : Entry (Option (List ℕ))) → IsReadAs e f → idle_entry f ≡ f
entry_idle (a_record attributes id at) (a_record other given block) read =
    ap (λ (a : ℕ). a_record a given block)
    (ap idle_attributes read ∙ sym (idle_twice attributes) ∙ sym read)
entry_idle (a_record attributes id at) (a_resource kind given block) read = absurd read
entry_idle (a_resource kind id at) (a_record other given block) read = absurd read
entry_idle (a_resource kind id at) (a_resource other given block) read = refl

all_idle : (es : List (Entry ℕ)) (fs : List (Entry (Option (List ℕ)))) → AllZip IsReadAs es fs
    → map idle_entry fs ≡ fs
all_idle [] [] zip = refl
all_idle [] (f ∷ fs) zip = absurd zip
all_idle (e ∷ es) [] zip = absurd zip
all_idle (e ∷ es) (f ∷ fs) zip =
    let first = entry_idle e f zip.0 in
    let rest = all_idle es fs zip.1 in
    λ i. first i ∷ rest i

salvaged_idle : (file : List ℕ) (d : Database (Option (List ℕ))) → IsSalvaged Distinct file d
    → idle d ≡ d
unfolding with_entries
salvaged_idle file d is = ap (with_entries d) (all_idle _ _ is.entries)

pub salvaged_read : SalvagedFilesAreRead
salvaged_read file d b header short is =
    let fit = given_fit (kept_ids [] (unique_ids (sound_in file))) []
    (seed_in (header_in file).seed) (unique_ids (sound_in file)) (unique_ids d) is.last_seed
    (omega arith) (own_most (resources_in file) _ (entries_fit file b)) is.ids in
    subst (Reads (file_of d)) (salvaged_idle file d is)
    (file_reads d (salvaged_file _ file d b header short is) (λ k e below zero_id. (let low = (fit.0 k e below).0 in omega arith))
    (given_distinct _ _ _ _ is.ids))
