-- The entries of a database, with the offsets of its file, are those of a file that is read as it.
use Rattle.std.proofs.Common.{◌≡◌, ℕ, zero, suc, ◌+◌, ◌^◌, ◌<◌, ◌≤◌, Bool, true, false, Option, Some, None, List, [], ◌∷◌, length, map, refl, sym, ap, subst, ◌∙◌, arith}
use Rattle.std.specs.Prelude.{All}
use Rattle.std.specs.List.{AllZip, filter_map}
use Rattle.std.proofs.lemmas.Nat.{and_le_l}
use Rattle.std.proofs.lemmas.List.Elements.{All-head, All-tail, All-nil, All-cons}
use Rattle.heap_model.specs.Database.{Database, Entry, a_record, a_resource, entry_data, data_in, EntryFits}
use Rattle.heap_model.specs.Store.{unique_id}
use Rattle.heap_model.specs.UniqueIds.{greatest_id}
use Rattle.heap_model.specs.Files.{IsReadAs, idle_attributes, idle_entry, idle, block_size, block_offset, entries_with_offsets, with_offsets, first_block}
use Rattle.pdb_format.proofs.WrittenFiles.{idle_twice}
use Rattle.pdb_format.proofs.WrittenOffsets.{all_bytes, running, size_more, offset_most}
use Rattle.canonical_file.specs.Changes.{IsIdle, AreRising}
use Rattle.canonical_file.proofs.Rising.{first_of, rising_more}

-- a database as its file has it
abbrev pub placed : Database (Option (List ℕ)) → Database ℕ
placed d = with_offsets (first_block d) (idle d)

-- where the data of its entries begins
abbrev pub data_from : Database (Option (List ℕ)) → ℕ
data_from d = first_block d + block_size d.app_info + block_size d.sort_info

pub same_head : {X : Type 0} (x y : X) (xs ys : List X) → x ∷ xs ≡ y ∷ ys → (x ≡ y) × (xs ≡ ys)
same_head x y xs ys e = (cc, cc)

same_list : {X : Type 0} (x y : X) (xs ys : List X) → x ≡ y → xs ≡ ys → x ∷ xs ≡ y ∷ ys
same_list x y xs ys p q = cc

same_record : (a b c x y z : ℕ) → a ≡ x → b ≡ y → c ≡ z → a_record a b c ≡ a_record x y z
same_record a b c x y z p q r = cc

same_resource : (a b c x y z : ℕ) → a ≡ x → b ≡ y → c ≡ z → a_resource a b c ≡ a_resource x y z
same_resource a b c x y z p q r = cc

-- ---- if nothing changes

pub entries_back : (at : ℕ) (es : List (Entry ℕ)) (ds : List (Entry (Option (List ℕ))))
    → AllZip IsReadAs es ds → All IsIdle es → filter_map unique_id ds ≡ filter_map unique_id es
    → running at (map entry_data ds) ≡ map entry_data es
    → entries_with_offsets at (map idle_entry ds) ≡ es
entries_back at [] [] zip all ids run = refl
entries_back at [] (d ∷ ds) zip all ids run = absurd zip
entries_back at (e ∷ es) [] zip all ids run = absurd zip
entries_back at (a_record attributes id o ∷ es) (a_resource kind x_id x ∷ ds) zip all ids run =
    absurd zip.0
entries_back at (a_resource kind id o ∷ es) (a_record x_attributes x_id x ∷ ds) zip all ids run =
    absurd zip.0
entries_back at (a_record attributes id o ∷ es) (a_record x_attributes x_id x ∷ ds) zip all ids run =
    let still = All-head IsIdle (a_record attributes id o) es all in
    let id_is = same_head x_id id (filter_map unique_id ds) (filter_map unique_id es) ids in
    let offset_is = same_head (block_offset at x) o
    (running (at + block_size x) (map entry_data ds)) (map entry_data es) run in
    same_list _ _ (entries_with_offsets (at + block_size x) (map idle_entry ds)) es
    (same_record _ _ _ _ _ _ (ap idle_attributes (zip.0 ∙ still) ∙ still) id_is.0 offset_is.0)
    (entries_back (at + block_size x) es ds zip.1
    (All-tail IsIdle (a_record attributes id o) es all) id_is.1 offset_is.1)
entries_back at (a_resource kind id o ∷ es) (a_resource x_kind x_id x ∷ ds) zip all ids run =
    let offset_is = same_head (block_offset at x) o
    (running (at + block_size x) (map entry_data ds)) (map entry_data es) run in
    same_list _ _ (entries_with_offsets (at + block_size x) (map idle_entry ds)) es
    (same_resource _ _ _ _ _ _ zip.0.0 zip.0.1 offset_is.0)
    (entries_back (at + block_size x) es ds zip.1
    (All-tail IsIdle (a_resource kind id o) es all) ids offset_is.1)

-- ---- what they are

pub idle_placed : (at : ℕ) (ds : List (Entry (Option (List ℕ))))
    → All IsIdle (entries_with_offsets at (map idle_entry ds))
idle_placed at [] = All-nil IsIdle
idle_placed at (a_record attributes id x ∷ ds) =
    All-cons IsIdle (a_record (idle_attributes attributes) id (block_offset at x))
    (entries_with_offsets (at + block_size x) (map idle_entry ds))
    (sym (idle_twice attributes)) (idle_placed (at + block_size x) ds)
idle_placed at (a_resource kind id x ∷ ds) =
    All-cons IsIdle (a_resource kind id (block_offset at x))
    (entries_with_offsets (at + block_size x) (map idle_entry ds)) tt
    (idle_placed (at + block_size x) ds)

pub ids_placed : (at : ℕ) (ds : List (Entry (Option (List ℕ))))
    → filter_map unique_id (entries_with_offsets at (map idle_entry ds)) ≡ filter_map unique_id ds
ids_placed at [] = refl
ids_placed at (a_record attributes id x ∷ ds) =
    ap (λ (xs : List ℕ). id ∷ xs) (ids_placed (at + block_size x) ds)
ids_placed at (a_resource kind id x ∷ ds) = ids_placed (at + block_size x) ds

data_placed : (at : ℕ) (ds : List (Entry (Option (List ℕ))))
    → map entry_data (entries_with_offsets at (map idle_entry ds)) ≡ running at (map entry_data ds)
data_placed at [] = refl
data_placed at (a_record attributes id x ∷ ds) =
    ap (λ (xs : List ℕ). block_offset at x ∷ xs) (data_placed (at + block_size x) ds)
data_placed at (a_resource kind id x ∷ ds) =
    ap (λ (xs : List ℕ). block_offset at x ∷ xs) (data_placed (at + block_size x) ds)

pub offsets_placed : (d : Database (Option (List ℕ)))
    → data_in (placed d) ≡ running (first_block d) (data_in d)
offsets_placed d =
    ap (λ (xs : List ℕ).
    block_offset (first_block d) d.app_info
    ∷ block_offset (first_block d + block_size d.app_info) d.sort_info ∷ xs)
    (data_placed (data_from d) d.entries)

pub fits_placed : (r : Bool) (at : ℕ) (es : List (Entry ℕ)) (ds : List (Entry (Option (List ℕ))))
    → AllZip IsReadAs es ds → All (EntryFits r) es
    → All (λ id. (0 < id) × (id ≤ greatest_id)) (filter_map unique_id ds)
    → at + length (all_bytes (map entry_data ds)) < 2 ^ 32
    → All (EntryFits r) (entries_with_offsets at (map idle_entry ds))
fits_placed r at [] [] zip all ids short = All-nil (EntryFits r)
fits_placed r at [] (d ∷ ds) zip all ids short = absurd zip
fits_placed r at (e ∷ es) [] zip all ids short = absurd zip
fits_placed r at (a_record attributes id o ∷ es) (a_resource kind x_id x ∷ ds) zip all ids short =
    absurd zip.0
fits_placed r at (a_resource kind id o ∷ es) (a_record x_attributes x_id x ∷ ds) zip all ids short =
    absurd zip.0
fits_placed true at (a_record attributes id o ∷ es) (a_record x_attributes x_id x ∷ ds) zip all ids short =
    absurd (All-head (EntryFits true) (a_record attributes id o) es all)
fits_placed false at (a_record attributes id o ∷ es) (a_record x_attributes x_id x ∷ ds) zip all ids short =
    let one = (All-head (EntryFits false) (a_record attributes id o) es all).0 in
    let given =
    (All-head (λ i. (0 < i) × (i ≤ greatest_id)) x_id (filter_map unique_id ds) ids).1 in
    let was = and_le_l attributes 0xDF in
    let now = and_le_l x_attributes 0xDF in
    let is = zip.0 in
    let more = size_more x (map entry_data ds) in
    let most = offset_most at x in
    All-cons (EntryFits false) (a_record (idle_attributes x_attributes) x_id (block_offset at x))
    (entries_with_offsets (at + block_size x) (map idle_entry ds))
    (omega arith, omega arith, omega arith)
    (fits_placed false (at + block_size x) es ds zip.1
    (All-tail (EntryFits false) (a_record attributes id o) es all)
    (All-tail (λ i. (0 < i) × (i ≤ greatest_id)) x_id (filter_map unique_id ds) ids) (omega arith))
fits_placed false at (a_resource kind id o ∷ es) (a_resource x_kind x_id x ∷ ds) zip all ids short =
    absurd (All-head (EntryFits false) (a_resource kind id o) es all)
fits_placed true at (a_resource kind id o ∷ es) (a_resource x_kind x_id x ∷ ds) zip all ids short =
    let one = All-head (EntryFits true) (a_resource kind id o) es all in
    let kind_fits = one.0 in
    let id_fits = one.1 in
    let same_kind = zip.0.0 in
    let same_id = zip.0.1 in
    let more = size_more x (map entry_data ds) in
    let most = offset_most at x in
    All-cons (EntryFits true) (a_resource x_kind x_id (block_offset at x))
    (entries_with_offsets (at + block_size x) (map idle_entry ds))
    (omega arith, omega arith, omega arith)
    (fits_placed true (at + block_size x) es ds zip.1
    (All-tail (EntryFits true) (a_resource kind id o) es all) ids (omega arith))

-- ---- offsets that are given

pub rising_running : (low at : ℕ) (blocks : List (Option (List ℕ))) → 0 < at → low ≤ at
    → AreRising low (running at blocks)
rising_running low at [] some less = tt
rising_running low at (None ∷ blocks) some less =
    let e : at ≡ at + block_size None = omega arith in
    subst (λ (n : ℕ). AreRising low (running n blocks)) e (rising_running low at blocks some less)
rising_running low at (Some bytes ∷ blocks) some less =
    (rising_more low at (running (at + length bytes) blocks) some less).1
    (rising_running at (at + length bytes) blocks (omega arith) (omega arith))

first_here : (last at : ℕ) (rest : List ℕ) → 0 < at → first_of last (at ∷ rest) ≡ at
first_here last zero rest some = absurd (omega arith)
first_here last (suc at) rest some = refl

pub first_running : (last at : ℕ) (blocks : List (Option (List ℕ))) → 0 < at
    → last ≡ at + length (all_bytes blocks) → first_of last (running at blocks) ≡ at
first_running last at [] some ends = omega arith
first_running last at (None ∷ blocks) some ends =
    let e : at ≡ at + block_size None = omega arith in
    subst (λ (n : ℕ). first_of last (running n blocks) ≡ at) e
    (first_running last at blocks some ends)
first_running last at (Some bytes ∷ blocks) some ends =
    first_here last at (running (at + length bytes) blocks) some
