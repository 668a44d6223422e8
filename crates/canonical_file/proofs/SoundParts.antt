-- The sound parts of a file of bytes with a header can be spelled, and each of their offsets is
-- sound or 0.
use Rattle.std.proofs.Common.{◌≡◌, ℕ, ◌+◌, ◌<◌, ◌≤◌, ◌^◌, Bool, true, false, List, [], ◌∷◌, length, take, map, get_or, refl, sym, ap, subst, ◌∙◌, arith, inl, inr}
use Rattle.std.specs.Prelude.{◌⊎◌, ◌==◌, ◌&&◌, ◌||◌, not, if◌then◌else◌, All, filter, nat_le, codes}
use Rattle.std.specs.List.{prefix_len}
use Rattle.std.proofs.lemmas.Bool.{cases_eq, eq-eqb, eqb-true, leb-true}
use Rattle.std.proofs.lemmas.List.{get_or-take, length-take}
use Rattle.std.proofs.lemmas.List.Elements.{All-nil, All-cons, All-filter, All-map, filter_passes}
use Rattle.std.proofs.lemmas.List.FromFn.{length-map-range_with_len, get_or-map-range_with_len}
use Rattle.std.proofs.lemmas.List.Sums.{count_by-le-length, length-filter, prefix_len_passes}
use Rattle.byteorder.specs.Numbers.{big_from-lt}
use Rattle.heap_model.specs.Bytes.{AreBytes, u16_at, u24_at, u32_at}
use Rattle.heap_model.specs.Lists.{numbered}
use Rattle.heap_model.specs.Database.{Entry, a_record, a_resource, entry_data, IsDatabaseName, HeaderFits, EntryFits, DatabaseFits, has_resources, is_deleted, name_in, header_in, resources_in, entry_count_in, entry_offset, entry_at, entry_in}
use Rattle.heap_model.specs.Files.{entries_end}
use Rattle.pdb_format.proofs.FileNames.{name_short}
use Rattle.laws_store.proofs.Entries.{fits_with}
use Rattle.laws_store.proofs.Shapes as shapes
use Rattle.canonical_file.specs.Salvage.{is_sound_entry, is_sound_offset, sound_header, sound_in, sound_info, sound_name, sound_offsets, whole_entries}

-- ---- the name

recovered : IsDatabaseName (82 ∷ 101 ∷ 99 ∷ 111 ∷ 118 ∷ 101 ∷ 114 ∷ 101 ∷ 100 ∷ [])
recovered =
    let P : ℕ → Type 0 = λ byte. 0 < byte in
    let last : All P (100 ∷ []) = All-cons P 100 [] (omega arith) (All-nil P) in
    let eight : All P (101 ∷ 100 ∷ []) = All-cons P 101 (100 ∷ []) (omega arith) last in
    let seven : All P (114 ∷ 101 ∷ 100 ∷ []) =
    All-cons P 114 (101 ∷ 100 ∷ []) (omega arith) eight in
    let six : All P (101 ∷ 114 ∷ 101 ∷ 100 ∷ []) =
    All-cons P 101 (114 ∷ 101 ∷ 100 ∷ []) (omega arith) seven in
    let five : All P (118 ∷ 101 ∷ 114 ∷ 101 ∷ 100 ∷ []) =
    All-cons P 118 (101 ∷ 114 ∷ 101 ∷ 100 ∷ []) (omega arith) six in
    let four : All P (111 ∷ 118 ∷ 101 ∷ 114 ∷ 101 ∷ 100 ∷ []) =
    All-cons P 111 (118 ∷ 101 ∷ 114 ∷ 101 ∷ 100 ∷ []) (omega arith) five in
    let three : All P (99 ∷ 111 ∷ 118 ∷ 101 ∷ 114 ∷ 101 ∷ 100 ∷ []) =
    All-cons P 99 (111 ∷ 118 ∷ 101 ∷ 114 ∷ 101 ∷ 100 ∷ []) (omega arith) four in
    let two : All P (101 ∷ 99 ∷ 111 ∷ 118 ∷ 101 ∷ 114 ∷ 101 ∷ 100 ∷ []) =
    All-cons P 101 (99 ∷ 111 ∷ 118 ∷ 101 ∷ 114 ∷ 101 ∷ 100 ∷ []) (omega arith) three in
    record {
      some = omega arith;
      room = omega arith;
      none_zero = All-cons P 82 (101 ∷ 99 ∷ 111 ∷ 118 ∷ 101 ∷ 114 ∷ 101 ∷ 100 ∷ [])
          (omega arith) two;
    }

no_zero : (byte : ℕ) → not (byte == 0) ≡ true → 0 < byte
no_zero byte passes = elim (cases_eq byte 0) [
  | inl is ↦ let yes = eq-eqb byte 0 is in absurd cc
  | inr ne ↦ omega arith
]

-- no byte of a name is zero
none_zero : (file : List ℕ) → All (λ byte. 0 < byte) (name_in file)
unfolding name_in
none_zero file = λ k d inside.
    let front = take 31 file in
    let p : ℕ → Bool = λ byte. not (byte == 0) in
    let long = length-take (prefix_len p front) front in
    let below : k < prefix_len p front = omega arith in
    no_zero _
    (ap p (get_or-take (prefix_len p front) front k d below) ∙ prefix_len_passes p front k d below)

named : (name : List ℕ) → length name < 32 → All (λ byte. 0 < byte) name
    → IsDatabaseName (sound_name name)
named [] short all = recovered
named (byte ∷ bytes) short all = record { some = omega arith; room = short; none_zero = all }

pub sound_named : (file : List ℕ) → IsDatabaseName (sound_name (name_in file))
sound_named file = named (name_in file) (name_short file) (none_zero file)

pub name_stays : (name : List ℕ) → 0 < length name → sound_name name ≡ name
name_stays [] some = absurd (omega arith)
name_stays (byte ∷ bytes) some = refl

pub name_new : (name : List ℕ) → length name ≡ 0 → sound_name name ≡ codes "Recovered"
name_new [] none = refl
name_new (byte ∷ bytes) none = absurd (omega arith)

pub named_stays : (file name : List ℕ) → name ≡ name_in file → 0 < length name → IsDatabaseName name
named_stays file name is some =
    let there = ap (length {A = ℕ}) is in
    subst IsDatabaseName (name_stays (name_in file) (omega arith) ∙ sym is) (sound_named file)

-- ---- the numbers

pub header_fits : (file : List ℕ) → AreBytes file → HeaderFits (sound_header file)
header_fits file b =
    let fits = shapes.header_fits file b in
    fits_with (header_in file) (sound_name (name_in file)) (header_in file).seed fits fits.seed

entry_fits : (r : Bool) (file : List ℕ) (at : ℕ) → AreBytes file → EntryFits r (entry_at r file at)
unfolding u16_at u24_at u32_at
entry_fits false file at b = (b (at + 4), big_from-lt (at + 5) 3 file b, big_from-lt at 4 file b)
entry_fits true file at b =
    (big_from-lt at 4 file b, big_from-lt (at + 4) 2 file b, big_from-lt (at + 6) 4 file b)

u32_fits : (file : List ℕ) (at : ℕ) → AreBytes file → u32_at file at < 2 ^ 32
unfolding u32_at
u32_fits file at b = big_from-lt at 4 file b

by_test : (b : Bool) (at : ℕ) → (if b then at else 0) ≤ at
by_test true at = omega arith
by_test false at = omega arith

info_at_most : (file : List ℕ) (at : ℕ) → sound_info file at ≤ at
info_at_most file at = by_test (is_sound_offset file at) at

pub whole_most : (file : List ℕ) → whole_entries file ≤ entry_count_in file
whole_most file = omega arith

pub few : (file : List ℕ) → AreBytes file → entry_count_in file < 2 ^ 16
unfolding u16_at
few file b = big_from-lt 76 2 file b

all_fit : (file : List ℕ) → AreBytes file
    → All (EntryFits (resources_in file)) (numbered (entry_in file) (whole_entries file))
all_fit file b = λ k d inside.
    let long = length-map-range_with_len (entry_in file) 0 (whole_entries file) in
    subst (EntryFits (resources_in file))
    (sym (get_or-map-range_with_len (entry_in file) 0 (whole_entries file) k k d (omega arith) (omega arith)))
    (entry_fits (resources_in file) file (entry_offset (resources_in file) k) b)

count_kept : (file : List ℕ)
    → length (filter (is_sound_entry file) (numbered (entry_in file) (whole_entries file)))
    ≤ whole_entries file
count_kept file =
    let xs = numbered (entry_in file) (whole_entries file) in
    let long = length-map-range_with_len (entry_in file) 0 (whole_entries file) in
    let kept = length-filter (is_sound_entry file) xs in
    let most = count_by-le-length (is_sound_entry file) xs in
    omega arith

pub sound_few : (file : List ℕ) → length (sound_in file).entries ≤ whole_entries file
unfolding sound_in
sound_few file = count_kept file

pub attributes_there : (file : List ℕ)
    → has_resources (sound_header file).attributes ≡ resources_in file
unfolding header_in
attributes_there file = refl

pub sound_fits : (file : List ℕ) → AreBytes file → DatabaseFits (sound_in file)
unfolding sound_in
sound_fits file b =
    let app = info_at_most file (u32_at file 52) in
    let app_most = u32_fits file 52 b in
    let sort = info_at_most file (u32_at file 56) in
    let sort_most = u32_fits file 56 b in
    let kept = count_kept file in
    let most = whole_most file in
    let all = few file b in
    record {
      name = sound_named file;
      header = header_fits file b;
      app_info = omega arith;
      sort_info = omega arith;
      entries = subst (λ (r : Bool).
          All (EntryFits r)
          (filter (is_sound_entry file) (numbered (entry_in file) (whole_entries file))))
          (sym (attributes_there file))
          (All-filter (is_sound_entry file) (EntryFits (resources_in file))
          (numbered (entry_in file) (whole_entries file)) (all_fit file b));
      entry_count = omega arith;
    }

-- ---- the offsets

-- there is no block, or it begins after the entries and within the file
abbrev pub IsNoneOrInside : List ℕ → ℕ → Type 0
IsNoneOrInside file at = (at ≡ 0) ⊎ ((entries_end file ≤ at) × (at ≤ length file))

both_true : (a b : Bool) → (a && b) ≡ true → (a ≡ true) × (b ≡ true)
both_true true true e = (refl, refl)
both_true true false e = absurd cc
both_true false b e = absurd cc

pub inside : (file : List ℕ) (at : ℕ) → is_sound_offset file at ≡ true
    → (entries_end file ≤ at) × (at ≤ length file)
inside file at sound =
    let both = both_true (nat_le (entries_end file) at) (nat_le at (length file)) sound in
    (leb-true (entries_end file) at both.0, leb-true at (length file) both.1)

info_inside : (file : List ℕ) (at : ℕ) (b : Bool) → is_sound_offset file at ≡ b
    → IsNoneOrInside file (if b then at else 0)
info_inside file at true sound = inr (inside file at sound)
info_inside file at false sound = inl refl

record_inside : (file : List ℕ) (at : ℕ) (a d z : Bool) → is_sound_offset file at ≡ a
    → (at == 0) ≡ z → (a || (d && z)) ≡ true → IsNoneOrInside file at
record_inside file at true d z sound none e = inr (inside file at sound)
record_inside file at false true true sound none e = inl (eqb-true at 0 none)
record_inside file at false true false sound none e = absurd cc
record_inside file at false false z sound none e = absurd cc

-- the offset of an info block, as it is kept
pub kept_info : (file : List ℕ) (at : ℕ) → IsNoneOrInside file (sound_info file at)
kept_info file at = info_inside file at (is_sound_offset file at) refl

-- the offset of a sound entry
pub kept_entry : (file : List ℕ) (entry : Entry ℕ) → is_sound_entry file entry ≡ true
    → IsNoneOrInside file (entry_data entry)
kept_entry file (a_record attributes id at) sound =
    record_inside file at (is_sound_offset file at) (is_deleted attributes)
    (at == 0) refl refl sound
kept_entry file (a_resource kind id at) sound = inr (inside file at sound)

-- each offset of the sound parts
pub kept_offsets : (file : List ℕ) → All (IsNoneOrInside file) (sound_offsets file)
unfolding sound_in
kept_offsets file =
    let entries = filter (is_sound_entry file) (numbered (entry_in file) (whole_entries file)) in
    let passes =
    filter_passes (is_sound_entry file) (numbered (entry_in file) (whole_entries file)) in
    let each : All (λ entry. IsNoneOrInside file (entry_data entry)) entries =
    λ k d below. kept_entry file (get_or entries k d) (passes k d below) in
    All-cons (IsNoneOrInside file) (sound_info file (u32_at file 52))
    (sound_info file (u32_at file 56) ∷ map (entry_data {Data = ℕ}) entries)
    (kept_info file (u32_at file 52))
    (All-cons (IsNoneOrInside file) (sound_info file (u32_at file 56)) (map (entry_data {Data = ℕ}) entries) (kept_info file (u32_at file 56))
    (All-map (IsNoneOrInside file) (entry_data {Data = ℕ}) entries each))
