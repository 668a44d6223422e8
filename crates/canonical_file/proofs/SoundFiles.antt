-- A part of a file is sound exactly if it has no fault, so a file without fault has only sound
-- parts.
use Rattle.std.proofs.Common.{◌≡◌, ℕ, zero, suc, ◌-◌, ◌/◌, ◌<◌, ◌≤◌, Bool, true, false, Some, List, [], ◌∷◌, length, get_or, min, refl, sym, ap, subst, ◌∙◌, arith, inl, inr}
use Rattle.std.specs.Prelude.{◌≢◌, ◌⊎◌, ◌==◌, ◌&&◌, ◌||◌, if◌then◌else◌, All, filter, nat_le, slice_range}
use Rattle.std.specs.List.{fold}
use Rattle.std.proofs.lemmas.Bool.{cases_eq, cases_lt, eqb-true}
use Rattle.std.proofs.lemmas.List.Elements.{All-head, All-tail}
use Rattle.std.proofs.lemmas.List.FromFn.{length-map-range_with_len, get_or-map-range_with_len}
use Rattle.laws_heap.proofs.Tests.{leb-is-true, true_or_false}
use Rattle.heap_model.specs.Bytes.{u32_at}
use Rattle.heap_model.specs.Lists.{numbered}
use Rattle.heap_model.specs.DatabaseFields.{entry_size}
use Rattle.heap_model.specs.Database.{Database, DatabaseHeader, Entry, a_record, a_resource, data_in, is_deleted, name_in, header_in, resources_in, entry_count_in, entry_offset, entry_in, database_in}
use Rattle.heap_model.specs.Files.{HasBadOffset, HasNoFault, IsBadInfo, IsOutside, block_at, blocks_in, entries_end, offsets_in, starts_behind}
use Rattle.heap_model.specs.declared.file_fault.FileFault.TheVariants.{Truncated}
use Rattle.pdb_format.proofs.GoodFiles.{good_offset, not_truncated}
use Rattle.pdb_format.proofs.WrittenHeads.{same_numbered}
use Rattle.canonical_file.specs.Salvage.{is_none_or_sound, is_sound_entry, is_sound_offset, sound_block, sound_blocks, sound_header, sound_in, sound_info, sound_name, sound_offsets, whole_entries}
use Rattle.canonical_file.proofs.SoundParts.{inside}

-- ---- an offset

pub outside_or_sound : (file : List ℕ) (at : ℕ)
    → (is_sound_offset file at ≡ true) ⊎ IsOutside file at
outside_or_sound file at = elim (cases_lt at (entries_end file)) [
  | inl before ↦ inr (inl before)
  | inr after ↦ elim (cases_lt (length file) at) [
    | inl past ↦ inr (inr past)
    | inr within ↦ inl (
        ap (λ (b : Bool). b && nat_le at (length file)) (leb-is-true (entries_end file) at after)
        ∙ leb-is-true at (length file) within)
  ]
]

pub sound_inside : (file : List ℕ) (at : ℕ) → is_sound_offset file at ≡ true → IsOutside file at → ⊥
sound_inside file at sound (inl before) = let within = (inside file at sound).0 in omega arith
sound_inside file at sound (inr past) = let within = (inside file at sound).1 in omega arith

-- ---- an info block

none_or : (at : ℕ) (s z : Bool) → (at == 0) ≡ z → (z || s) ≡ true → (at ≡ 0) ⊎ (s ≡ true)
none_or at s true none e = inl (eqb-true at 0 none)
none_or at true false some e = inr refl
none_or at false false some e = absurd cc

pub info_not_bad : (file : List ℕ) (at : ℕ) → is_none_or_sound file at ≡ true → IsBadInfo file at
    → ⊥
info_not_bad file at good bad = elim (none_or at (is_sound_offset file at) (at == 0) refl good) [
  | inl none ↦ bad.0 none
  | inr sound ↦ sound_inside file at sound bad.1
]

or_right : (z s : Bool) → s ≡ true → (z || s) ≡ true
or_right true s e = refl
or_right false s e = e

pub info_good : (file : List ℕ) (at : ℕ) → (IsBadInfo file at → ⊥) → is_none_or_sound file at ≡ true
info_good file at good = elim (outside_or_sound file at) [
  | inl sound ↦ or_right (at == 0) (is_sound_offset file at) sound
  | inr outside ↦ elim (cases_eq at 0) [
    | inl none ↦ ap (λ (n : ℕ). (n == 0) || is_sound_offset file at) none
    | inr some ↦ absurd (good (some, outside))
  ]
]

kept : (at : ℕ) (s : Bool) → (at ≡ 0) ⊎ (s ≡ true) → (if s then at else 0) ≡ at
kept at true good = refl
kept at false (inl none) = sym none
kept at false (inr sound) = absurd cc

info_kept : (file : List ℕ) (at : ℕ) → (IsBadInfo file at → ⊥) → sound_info file at ≡ at
info_kept file at good =
    kept at (is_sound_offset file at)
    (none_or at (is_sound_offset file at) (at == 0) refl (info_good file at good))

-- ---- an entry

record_not_bad : (file : List ℕ) (attributes at : ℕ) (a d z : Bool) → is_sound_offset file at ≡ a
    → is_deleted attributes ≡ d → (at == 0) ≡ z → (a || (d && z)) ≡ true
    → ((at ≢ 0) ⊎ (is_deleted attributes ≡ false)) × IsOutside file at → ⊥
record_not_bad file attributes at true d z sound deleted none e bad =
    sound_inside file at sound bad.1
record_not_bad file attributes at false true true sound deleted none e ((inl some), outside) =
    some (eqb-true at 0 none)
record_not_bad file attributes at false true true sound deleted none e ((inr live), outside) =
    absurd cc
record_not_bad file attributes at false true false sound deleted none e bad = absurd cc
record_not_bad file attributes at false false z sound deleted none e bad = absurd cc

pub entry_not_bad : (file : List ℕ) (entry : Entry ℕ) → is_sound_entry file entry ≡ true
    → HasBadOffset file entry → ⊥
entry_not_bad file (a_record attributes id at) sound bad =
    record_not_bad file attributes at (is_sound_offset file at) (is_deleted attributes)
    (at == 0) refl refl refl sound bad
entry_not_bad file (a_resource kind id at) sound bad = sound_inside file at sound bad

or_left : (a d z : Bool) → a ≡ true → (a || (d && z)) ≡ true
or_left true d z e = refl
or_left false d z e = absurd cc

or_both : (a d z : Bool) → d ≡ true → z ≡ true → (a || (d && z)) ≡ true
or_both true d z e f = refl
or_both false true true e f = refl
or_both false true false e f = absurd cc
or_both false false z e f = absurd cc

pub entry_good : (file : List ℕ) (entry : Entry ℕ) → (HasBadOffset file entry → ⊥)
    → is_sound_entry file entry ≡ true
entry_good file (a_record attributes id at) good = elim (outside_or_sound file at) [
  | inl sound ↦ or_left (is_sound_offset file at) (is_deleted attributes) (at == 0) sound
  | inr outside ↦ elim (cases_eq at 0) [
    | inr some ↦ absurd (good (inl some, outside))
    | inl none ↦ elim (true_or_false (is_deleted attributes)) [
      | inl deleted ↦
          or_both (is_sound_offset file at) (is_deleted attributes) (at == 0) deleted
          (ap (λ (n : ℕ). n == 0) none)
      | inr live ↦ absurd (good (inr live, outside))
    ]
  ]
]
entry_good file (a_resource kind id at) good = elim (outside_or_sound file at) [
  | inl sound ↦ sound
  | inr outside ↦ absurd (good outside)
]

-- ---- all entries

whole_count : (r : Bool) (count long : ℕ) → entry_offset r count ≤ long
    → min count ((long - 78) / entry_size r) ≡ count
whole_count false count long ends = omega arith
whole_count true count long ends = omega arith

pub all_whole : (file : List ℕ) → entries_end file ≤ length file
    → whole_entries file ≡ entry_count_in file
all_whole file ends = whole_count (resources_in file) (entry_count_in file) (length file) ends

all_pass : {X : Type 0} (test : X → Bool) (xs : List X) → All (λ x. test x ≡ true) xs
    → filter test xs ≡ xs
all_pass test [] all = refl
all_pass test (x ∷ xs) all =
    let rest = all_pass test xs (All-tail (λ x. test x ≡ true) x xs all) in
    ap (λ (b : Bool). if b then x ∷ filter test xs else filter test xs)
    (All-head (λ x. test x ≡ true) x xs all)
    ∙ ap (λ ys. x ∷ ys) rest

good_entries : (file : List ℕ) → HasNoFault file
    → All (λ entry. is_sound_entry file entry ≡ true) (numbered (entry_in file) (entry_count_in file))
good_entries file good = λ k d below.
    let long = length-map-range_with_len (entry_in file) 0 (entry_count_in file) in
    let inside : k < entry_count_in file = omega arith in
    subst (λ (entry : Entry ℕ). is_sound_entry file entry ≡ true)
    (sym (get_or-map-range_with_len (entry_in file) 0 (entry_count_in file) k k d inside (omega arith)))
    (entry_good file (entry_in file k) (good_offset file good k inside))

entries_kept : (file : List ℕ) → HasNoFault file
    → filter (is_sound_entry file) (numbered (entry_in file) (whole_entries file))
    ≡ numbered (entry_in file) (entry_count_in file)
entries_kept file good =
    ap (λ (n : ℕ). filter (is_sound_entry file) (numbered (entry_in file) n))
    (all_whole file (not_truncated file good).1)
    ∙ all_pass (is_sound_entry file) _ (good_entries file good)

-- ---- the sound parts of a file without fault

some_name : (name : List ℕ) → (name ≡ [] → ⊥) → sound_name name ≡ name
some_name [] some = absurd (some refl)
some_name (byte ∷ bytes) some = refl

pub good_header : (file : List ℕ) → HasNoFault file → sound_header file ≡ header_in file
unfolding header_in
good_header file good =
    ap (λ (name : List ℕ). record (header_in file) { name = name })
    (some_name (name_in file) (good 2 Truncated (omega arith)))

whole : DatabaseHeader → ℕ → ℕ → List (Entry ℕ) → Database ℕ
whole header app sort entries =
    record { header = header; app_info = app; sort_info = sort; entries = entries }

same_whole : (h g : DatabaseHeader) (a b c e : ℕ) (xs ys : List (Entry ℕ)) → h ≡ g → a ≡ b → c ≡ e
    → xs ≡ ys → whole h a c xs ≡ whole g b e ys
same_whole h g a b c e xs ys p q r s = cc

pub good_parts : (file : List ℕ) → HasNoFault file → sound_in file ≡ database_in file
unfolding sound_in database_in whole
good_parts file good =
    same_whole (sound_header file) (header_in file) (sound_info file (u32_at file 52))
    (u32_at file 52) (sound_info file (u32_at file 56)) (u32_at file 56)
    (filter (is_sound_entry file) (numbered (entry_in file) (whole_entries file)))
    (numbered (entry_in file) (entry_count_in file))
    (good_header file good) (info_kept file (u32_at file 52) (good 3 Truncated (omega arith)))
    (info_kept file (u32_at file 56) (good 4 Truncated (omega arith))) (entries_kept file good)

same_offsets : (file : List ℕ) → HasNoFault file → offsets_in file ≡ sound_offsets file
same_offsets file good = ap (λ (d : Database ℕ). data_in d) (sym (good_parts file good))

same_block : (file : List ℕ) (rank at : ℕ) → HasNoFault file
    → block_at file rank at ≡ sound_block file rank at
same_block file rank zero good = refl
same_block file rank (suc at) good =
    ap (λ (offsets : List ℕ).
    Some (slice_range file (suc at) (fold min (length file) (starts_behind offsets rank (suc at)))))
    (same_offsets file good)

pub good_blocks : (file : List ℕ) → HasNoFault file → blocks_in file ≡ sound_blocks file
good_blocks file good =
    ap (λ (xs : List ℕ). numbered (λ rank. block_at file rank (get_or xs rank 0)) (length xs))
    (same_offsets file good)
    ∙ same_numbered (λ rank. block_at file rank (get_or (sound_offsets file) rank 0))
    (λ rank. sound_block file rank (get_or (sound_offsets file) rank 0)) 0
    (length (sound_offsets file))
    (λ rank low below. same_block file rank (get_or (sound_offsets file) rank 0) good)
