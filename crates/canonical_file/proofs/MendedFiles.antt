-- The mended file of a damaged one has no fault, and its blocks are those of the sound parts.
use Rattle.std.proofs.Common.{◌≡◌, ℕ, zero, suc, ◌+◌, ◌-◌, ◌≤◌, Bool, true, false, Some, List, ◌++◌, length, take, drop, get_or, min, refl, sym, ap, subst, ◌∙◌, arith, length-append, length-drop, inl, inr}
use Rattle.std.specs.Prelude.{◌≢◌, ◌⊎◌, ◌==◌, ◌&&◌, ◌||◌, All, slice_range}
use Rattle.std.specs.List.{flat_map, fold}
use Rattle.std.proofs.lemmas.Bool.{eqb-true}
use Rattle.std.proofs.lemmas.List.Elements.{filter_passes}
use Rattle.std.proofs.lemmas.Slice.{drop-append-drop}
use Rattle.heap_model.specs.Bytes.{AreBytes, u32_at}
use Rattle.heap_model.specs.Lists.{numbered}
use Rattle.heap_model.specs.Database.{Database, Entry, a_record, a_resource, entry_bytes, header_bytes, spelled, data_in, has_resources, is_deleted, name_in, header_in, resources_in, entry_count_in, entry_offset, entry_in, database_in}
use Rattle.heap_model.specs.Files.{HasBadOffset, HasNoFault, IsBadInfo, IsOutside, block_at, block_end, blocks_in, entries_end, offsets_in, starts_behind}
use Rattle.laws_store.proofs.Spellings.{length-header_bytes, length-spelled}
use Rattle.pdb_format.proofs.FaultLaws.{HasGoodHead, no_fault}
use Rattle.pdb_format.proofs.WrittenHeads.{IsHeaded, same_numbered, spelled_heads}
use Rattle.canonical_file.specs.Mended.{mended}
use Rattle.canonical_file.specs.Salvage.{is_sound_entry, is_sound_offset, sound_block, sound_blocks, sound_end, sound_in, sound_name, sound_offsets, whole_entries}
use Rattle.canonical_file.proofs.WholeEntries.{offset_rises, whole_inside}
use Rattle.canonical_file.proofs.SoundParts.{IsNoneOrInside, inside, kept_info, kept_offsets, sound_few, sound_fits, sound_named}

-- ---- how long the entries are

pub front : List ℕ → List ℕ
front file = spelled (sound_in file)

pub resources_sound : (file : List ℕ)
    → has_resources (sound_in file).header.attributes ≡ resources_in file
unfolding sound_in header_in
resources_sound file = refl

pub front_long : (file : List ℕ) → AreBytes file
    → length (front file) ≡ entry_offset (resources_in file) (length (sound_in file).entries)
unfolding front
front_long file b =
    length-spelled _ (sound_fits file b)
    ∙ ap (λ (r : Bool). entry_offset r (length (sound_in file).entries)) (resources_sound file)

pub front_inside : (file : List ℕ) → AreBytes file → 78 ≤ length file
    → length (front file) ≤ length file
front_inside file b header =
    let long = front_long file b in
    let rises = offset_rises (resources_in file) (length (sound_in file).entries)
    (whole_entries file) (sound_few file) in
    let whole = whole_inside (resources_in file) (entry_count_in file) (length file) header in
    omega arith

pub front_before : (file : List ℕ) → AreBytes file → length (front file) ≤ entries_end file
front_before file b =
    let long = front_long file b in
    let few = sound_few file in
    let rises = offset_rises (resources_in file) (length (sound_in file).entries)
    (entry_count_in file) (omega arith) in
    omega arith

-- the header and the sound entries fit where the front does
pub entries_within : (file : List ℕ) (most : ℕ) → AreBytes file → length (front file) ≤ most
    → 78 + length (flat_map entry_bytes (sound_in file).entries) ≤ most
unfolding front spelled
entries_within file most b within =
    let head = length-header_bytes (sound_in file) (sound_fits file b).name in
    let both = length-append (header_bytes (sound_in file))
    (flat_map entry_bytes (sound_in file).entries) in
    omega arith

-- they are the front
pub front_parts : (file bytes : List ℕ)
    → bytes ≡ header_bytes (sound_in file) ++ flat_map entry_bytes (sound_in file).entries
    → bytes ≡ front file
unfolding front spelled
front_parts file bytes is = is

-- ---- the mended file

pub mended_is : (file : List ℕ) → mended file ≡ front file ++ drop (length (front file)) file
unfolding mended front
mended_is file = refl

pub mended_long : (file : List ℕ) → AreBytes file → 78 ≤ length file
    → length (mended file) ≡ length file
mended_long file b header =
    let both = length-append (front file) (drop (length (front file)) file) in
    let rest = length-drop (length (front file)) file in
    let inside = front_inside file b header in
    let is = ap length (mended_is file) in
    omega arith

pub mended_heads : (file : List ℕ) → AreBytes file → IsHeaded (mended file) (sound_in file)
unfolding mended
mended_heads file b =
    spelled_heads _ (drop (length (spelled (sound_in file))) file) (sound_fits file b)

pub mended_end : (file : List ℕ) → AreBytes file → entries_end (mended file) ≡ length (front file)
mended_end file b =
    let head = mended_heads file b in
    ap (λ (r : Bool). entry_offset r (entry_count_in (mended file)))
    (head.resources ∙ resources_sound file)
    ∙ ap (entry_offset (resources_in file)) head.count
    ∙ sym (front_long file b)

-- the bytes from a sound offset on are those of the file
pub same_bytes : (file : List ℕ) (at end : ℕ) → AreBytes file → entries_end file ≤ at
    → slice_range (mended file) at end ≡ slice_range file at end
same_bytes file at end b past =
    let before = front_before file b in
    ap (take (end - at))
    (ap (drop at) (mended_is file)
    ∙ drop-append-drop (length (front file)) file (front file) at (omega arith) refl)

-- ---- it has no fault

name_there : (file : List ℕ) (d : Database ℕ) → database_in file ≡ d → name_in file ≡ d.header.name
unfolding database_in header_in
name_there file d is = ap (λ (x : Database ℕ). x.header.name) is

pub app_there : (file : List ℕ) (d : Database ℕ) → database_in file ≡ d
    → u32_at file 52 ≡ d.app_info
unfolding database_in
app_there file d is = ap (λ (x : Database ℕ). x.app_info) is

sort_there : (file : List ℕ) (d : Database ℕ) → database_in file ≡ d → u32_at file 56 ≡ d.sort_info
unfolding database_in
sort_there file d is = ap (λ (x : Database ℕ). x.sort_info) is

at_least : (r : Bool) (n : ℕ) → 78 ≤ entry_offset r n
at_least false n = omega arith
at_least true n = omega arith

-- a block can begin at an offset in the mended file too
not_outside : (file : List ℕ) (at : ℕ) → AreBytes file → 78 ≤ length file
    → (entries_end file ≤ at) × (at ≤ length file) → IsOutside (mended file) at → ⊥
not_outside file at b header inside (inl before) =
    let end = mended_end file b in let first = front_before file b in omega arith
not_outside file at b header inside (inr past) = let long = mended_long file b header in omega arith

not_bad_info : (file : List ℕ) (at : ℕ) → AreBytes file → 78 ≤ length file → IsNoneOrInside file at
    → IsBadInfo (mended file) at → ⊥
not_bad_info file at b header (inl none) bad = bad.0 none
not_bad_info file at b header (inr inside) bad = not_outside file at b header inside bad.1

record_good : (file : List ℕ) (attributes at : ℕ) (a d z : Bool) → AreBytes file → 78 ≤ length file
    → is_sound_offset file at ≡ a → is_deleted attributes ≡ d → (at == 0) ≡ z
    → (a || (d && z)) ≡ true
    → ((at ≢ 0) ⊎ (is_deleted attributes ≡ false)) × IsOutside (mended file) at → ⊥
record_good file attributes at true d z b header sound deleted none e bad =
    not_outside file at b header (inside file at sound) bad.1
record_good file attributes at false true true b header sound deleted none e ((inl some), outside) =
    some (eqb-true at 0 none)
record_good file attributes at false true true b header sound deleted none e ((inr live), outside) =
    absurd cc
record_good file attributes at false true false b header sound deleted none e bad = absurd cc
record_good file attributes at false false z b header sound deleted none e bad = absurd cc

entry_good : (file : List ℕ) (entry : Entry ℕ) → AreBytes file → 78 ≤ length file
    → is_sound_entry file entry ≡ true → HasBadOffset (mended file) entry → ⊥
entry_good file (a_record attributes id at) b header sound bad =
    record_good file attributes at (is_sound_offset file at) (is_deleted attributes)
    (at == 0) b header refl refl refl sound bad
entry_good file (a_resource kind id at) b header sound bad =
    not_outside file at b header (inside file at sound) bad

pub sound_entries : (file : List ℕ)
    → All (λ entry. is_sound_entry file entry ≡ true) (sound_in file).entries
unfolding sound_in
sound_entries file =
    filter_passes (is_sound_entry file) (numbered (entry_in file) (whole_entries file))

pub sound_app : (file : List ℕ) → IsNoneOrInside file (sound_in file).app_info
unfolding sound_in
sound_app file = kept_info file (u32_at file 52)

sound_sort : (file : List ℕ) → IsNoneOrInside file (sound_in file).sort_info
unfolding sound_in
sound_sort file = kept_info file (u32_at file 56)

sound_name_there : (file : List ℕ) → (sound_in file).header.name ≡ sound_name (name_in file)
unfolding sound_in
sound_name_there file = refl

good_head : (file : List ℕ) → AreBytes file → 78 ≤ length file → HasGoodHead (mended file)
good_head file b header =
    let head = mended_heads file b in
    let long = mended_long file b header in
    let end = mended_end file b in
    let first = front_inside file b header in
    let name = name_there (mended file) (sound_in file) head.is ∙ sound_name_there file in
    record {
      whole = elim [ inl short ↦ absurd (omega arith) | inr cut ↦ absurd (omega arith) ];
      ends = λ chained. chained head.next_list;
      named = λ empty.
          (let none = ap length (sym name ∙ empty) in let some = (sound_named file).some in absurd (omega arith));
      app_info = λ bad. not_bad_info file _ b header
          (subst (IsNoneOrInside file) (sym (app_there (mended file) (sound_in file) head.is))
          (sound_app file)) bad;
      sort_info = λ bad. not_bad_info file _ b header
          (subst (IsNoneOrInside file) (sym (sort_there (mended file) (sound_in file) head.is))
          (sound_sort file)) bad;
    }

pub mended_good : (file : List ℕ) → AreBytes file → 78 ≤ length file → HasNoFault (mended file)
mended_good file b header =
    let head = mended_heads file b in
    no_fault (mended file) (good_head file b header) (λ index below bad.
    let entries = (sound_in file).entries in
    let count = head.count in
    let here = head.entry index (entry_in (mended file) index) (omega arith) in
    entry_good file (get_or entries index (entry_in (mended file) index)) b header
    (sound_entries file index (entry_in (mended file) index) (omega arith))
    (subst (HasBadOffset (mended file)) here bad.1))

-- ---- its blocks

pub offsets_there : (file : List ℕ) → AreBytes file → offsets_in (mended file) ≡ sound_offsets file
offsets_there file b = ap (λ (d : Database ℕ). data_in d) (mended_heads file b).is

ends_there : (file : List ℕ) (rank at : ℕ) → AreBytes file → 78 ≤ length file
    → block_end (mended file) rank at ≡ sound_end file rank at
ends_there file rank at b header =
    ap (λ (n : ℕ). fold min n (starts_behind (offsets_in (mended file)) rank at))
    (mended_long file b header)
    ∙ ap (λ (offsets : List ℕ). fold min (length file) (starts_behind offsets rank at))
    (offsets_there file b)

block_there : (file : List ℕ) (rank at : ℕ) → AreBytes file → 78 ≤ length file
    → IsNoneOrInside file at → block_at (mended file) rank at ≡ sound_block file rank at
block_there file rank zero b header within = refl
block_there file rank (suc at) b header (inl none) = absurd (omega arith)
block_there file rank (suc at) b header (inr inside) =
    ap (λ (end : ℕ). Some (slice_range (mended file) (suc at) end))
    (ends_there file rank (suc at) b header)
    ∙ ap (λ (bytes : List ℕ). Some bytes)
    (same_bytes file (suc at) (sound_end file rank (suc at)) b inside.0)

pub mended_blocks : (file : List ℕ) → AreBytes file → 78 ≤ length file
    → blocks_in (mended file) ≡ sound_blocks file
mended_blocks file b header =
    let offsets = offsets_there file b in
    ap (λ (xs : List ℕ).
    numbered (λ rank. block_at (mended file) rank (get_or xs rank 0)) (length xs)) offsets
    ∙ same_numbered (λ rank. block_at (mended file) rank (get_or (sound_offsets file) rank 0))
    (λ rank. sound_block file rank (get_or (sound_offsets file) rank 0)) 0
    (length (sound_offsets file))
    (λ rank low below.
    block_there file rank (get_or (sound_offsets file) rank 0) b header
    (kept_offsets file rank 0 (omega arith)))
