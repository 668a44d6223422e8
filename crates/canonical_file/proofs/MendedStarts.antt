-- Only the first bytes of the mended file are new: the others are those of the damaged file.
use Rattle.std.proofs.Common.{◌≡◌, ℕ, zero, suc, ◌+◌, ◌-◌, ◌<◌, ◌≤◌, ◌^◌, Bool, true, false, Some, List, [], ◌++◌, length, take, drop, get_or, min, refl, sym, ap, subst, ◌∙◌, arith, length-append, length-drop, append-nil, append_assoc, inl, inr}
use Rattle.std.specs.Prelude.{◌≢◌, ◌⊎◌, slice_range}
use Rattle.std.specs.List.{flat_map, range_with_len}
use Rattle.std.proofs.lemmas.Bool.{cases_lt}
use Rattle.std.proofs.lemmas.List.{drop_all, get_or-append_right, get_or-drop, get_or_append_left, length-take, take-append-le}
use Rattle.std.proofs.lemmas.List.Folds.{drop_split}
use Rattle.std.proofs.lemmas.Simd.{map-map}
use Rattle.heap_model.specs.Bytes.{AreBytes, u32_at}
use Rattle.heap_model.specs.DatabaseFields.{app_info_at}
use Rattle.heap_model.specs.Database.{entry_bytes, entry_offset, header_bytes, resources_in}
use Rattle.heap_model.specs.Files.{block_at, block_end, offsets_in}
use Rattle.pdb_format.specs.Blocks.{bytes_at, place_at}
use Rattle.pdb_format.specs.FileStarts.{app_start, most_app, most_start, IsFileStart}
use Rattle.pdb_format.proofs.StartLaws.{app_started}
use Rattle.pdb_format.proofs.WrittenHeads.{same_numbered}
use Rattle.canonical_file.specs.Canonical.{HasBlocksOf}
use Rattle.canonical_file.specs.Mended.{StartsMended, mended}
use Rattle.canonical_file.specs.Salvage.{sound_in}
use Rattle.canonical_file.proofs.MendedFiles.{app_there, front, front_long, front_parts, mended_heads, mended_is, mended_long, offsets_there, same_bytes, sound_app}
use Rattle.canonical_file.proofs.SoundParts.{IsNoneOrInside, few, kept_offsets, sound_few, whole_most}

-- ---- the bytes of its blocks

block_from : (file : List ℕ) (rank at : ℕ) → AreBytes file → IsNoneOrInside file at
    → bytes_at file (place_at (mended file) rank at) ≡ block_at (mended file) rank at
block_from file rank zero b within = refl
block_from file rank (suc at) b (inl none) = absurd (omega arith)
block_from file rank (suc at) b (inr inside) =
    ap (λ (bytes : List ℕ). Some bytes)
    (sym (same_bytes file (suc at) (block_end (mended file) rank (suc at)) b inside.0))

inside_there : (file : List ℕ) (rank : ℕ) → AreBytes file → rank < length (offsets_in (mended file))
    → IsNoneOrInside file (get_or (offsets_in (mended file)) rank 0)
inside_there file rank b below =
    let same = offsets_there file b in
    let count = ap length same in
    subst (λ (offsets : List ℕ). IsNoneOrInside file (get_or offsets rank 0)) (sym same)
    (kept_offsets file rank 0 (omega arith))

pub mended_source : (file : List ℕ) → AreBytes file → 78 ≤ length file
    → HasBlocksOf (mended file) file
mended_source file b header =
    let offsets = offsets_in (mended file) in
    let place = λ (rank : ℕ). place_at (mended file) rank (get_or offsets rank 0) in
    record {
      size = sym (mended_long file b header);
      are = map-map (bytes_at file) place (range_with_len 0 (length offsets))
          ∙ same_numbered (λ rank. bytes_at file (place rank))
          (λ rank. block_at (mended file) rank (get_or offsets rank 0)) 0 (length offsets)
          (λ rank low below.
          block_from file rank (get_or offsets rank 0) b (inside_there file rank b (omega arith)));
    }

-- ---- its first bytes

at_most : (resources : Bool) (count : ℕ) → count < 2 ^ 16
    → entry_offset resources count ≤ most_start
at_most false count less = omega arith
at_most true count less = omega arith

-- the header and the sound entries are among them
pub front_most : (file : List ℕ) → AreBytes file → length (front file) ≤ most_start
front_most file b =
    let long = front_long file b in
    let sound = sound_few file in
    let whole = whole_most file in
    let all = few file b in
    let most = at_most (resources_in file) (length (sound_in file).entries) (omega arith) in
    omega arith

-- the header, the sound entries, and the bytes of the file up to a size
pub start_parts : (file b0 b1 b2 b3 head rest : List ℕ) (at size : ℕ) → b0 ≡ [] → b1 ≡ b0 ++ head
    → head ≡ header_bytes (sound_in file) → b2 ≡ b1 ++ flat_map entry_bytes (sound_in file).entries
    → b3 ≡ b2 ++ rest → at ≡ length b2 → rest ≡ slice_range file at size → at ≤ size
    → size ≡ min (length file) most_start → StartsMended file b3
start_parts file b0 b1 b2 b3 head rest at size none first is second third long within less most =
    let one : b1 ≡ header_bytes (sound_in file) =
    first ∙ ap (λ (xs : List ℕ). xs ++ head) none ∙ is in
    let two : b2 ≡ front file = front_parts file b2
    (second ∙ ap (λ (xs : List ℕ). xs ++ flat_map entry_bytes (sound_in file).entries) one) in
    let place : length (front file) ≡ at = sym (long ∙ ap length two) in
    let left = length-drop at file in
    let part = length-take (size - at) (drop at file) in
    let both = ap length (third ∙ ap (λ (xs : List ℕ). b2 ++ xs) within)
    ∙ length-append b2 (slice_range file at size) in
    let count : length b3 ≡ size = omega (arith, left, part, both, long, less, most) in
    record {
      size = count ∙ most;
      is = mended_is file
          ∙ ap (λ (xs : List ℕ). xs ++ drop (length (front file)) file) (sym two)
          ∙ ap (λ (n : ℕ). b2 ++ drop n file) place
          ∙ ap (λ (xs : List ℕ). b2 ++ xs) (drop_split file at size less)
          ∙ sym (append_assoc b2 (slice_range file at size) (drop size file))
          ∙ ap (λ (xs : List ℕ). xs ++ drop size file)
          (sym (third ∙ ap (λ (xs : List ℕ). b2 ++ xs) within))
          ∙ ap (λ (n : ℕ). b3 ++ drop n file) (sym count);
    }

-- ---- as the start of a file

both_bytes : (xs ys : List ℕ) → AreBytes xs → AreBytes ys → AreBytes (xs ++ ys)
both_bytes xs ys first second k = elim (cases_lt k (length xs)) [
  | inl inside ↦ subst (λ (x : ℕ). x < 256) (sym (get_or_append_left xs ys 0 k inside)) (first k)
  | inr past ↦
      rw (← (get_or-append_right xs ys (length xs) k 0 refl past)) at (second (k - length xs))
]

left_bytes : (file : List ℕ) (n : ℕ) → AreBytes file → AreBytes (drop n file)
left_bytes file n b k = subst (λ (x : ℕ). x < 256) (sym (get_or-drop n file k 0)) (b (n + k))

pub start_bytes : (file start : List ℕ) → AreBytes file → AreBytes start
    → AreBytes (start ++ drop (length start) file)
start_bytes file start b numbers = both_bytes start _ numbers (left_bytes file (length start) b)

pub start_long : (file start : List ℕ) → StartsMended file start
    → (drop (length start) file ≡ []) ⊎ (most_start ≤ length start)
start_long file start starts = elim (cases_lt (length file) most_start) [
  | inl short ↦ inl (let size = starts.size in drop_all (length start) file (omega arith))
  | inr long ↦ inr (let size = starts.size in omega arith)
]

pub start_size : (file start : List ℕ) → AreBytes file → 78 ≤ length file → StartsMended file start
    → length file ≡ length (start ++ drop (length start) file)
start_size file start b header starts = sym (mended_long file b header) ∙ ap length starts.is

starts_file : (file start : List ℕ) → AreBytes file → AreBytes start → StartsMended file start
    → IsFileStart (mended file) start
starts_file file start b numbers starts = record {
  rest = drop (length start) file;
  is = starts.is;
  long = start_long file start starts;
  numbers = subst AreBytes (sym starts.is) (start_bytes file start b numbers);
}

-- ---- its AppInfo

app_same : (file start : List ℕ) → AreBytes file → AreBytes start → 78 ≤ length file
    → StartsMended file start → u32_at start app_info_at ≡ u32_at (mended file) app_info_at
app_same file start b numbers header starts =
    let long = mended_long file b header in
    app_started (mended file) start (starts_file file start b numbers starts) (omega arith)

pub no_app : (file start : List ℕ) → AreBytes file → AreBytes start → 78 ≤ length file
    → StartsMended file start → u32_at start app_info_at ≡ 0
    → take most_app (drop 0 start) ≡ app_start (mended file)
no_app file start b numbers header starts none =
    let at : 0 ≡ u32_at (mended file) app_info_at =
    sym none ∙ app_same file start b numbers header starts in
    first ∙ ap (take most_app) (sym starts.is)
    ∙ ap (λ (n : ℕ). take most_app (drop n (mended file))) at where
      first : take most_app start ≡ take most_app (start ++ drop (length start) file)
      first = elim (start_long file start starts) [
        | inl end ↦
            ap (take most_app) (sym (ap (λ (xs : List ℕ). start ++ xs) end ∙ append-nil start))
        | inr long ↦ sym (take-append-le most_app start (drop (length start) file) (omega arith))
      ]

pub same_app : (file start : List ℕ) → AreBytes file → AreBytes start → 78 ≤ length file
    → StartsMended file start → u32_at start app_info_at ≢ 0
    → take most_app (drop (u32_at start app_info_at) file) ≡ app_start (mended file)
same_app file start b numbers header starts some =
    let at = u32_at start app_info_at in
    let same = app_same file start b numbers header starts in
    let there : IsNoneOrInside file at = subst (IsNoneOrInside file)
    (sym (same ∙ app_there (mended file) (sound_in file) (mended_heads file b).is)) (sound_app file) in
    elim there [
      | inl none ↦ absurd (some none)
      | inr inside ↦
          let count : at + most_app - at ≡ most_app = omega arith in
          let bytes = same_bytes file at (at + most_app) b inside.0 in
          ap (λ (n : ℕ). take n (drop at file)) (sym count)
          ∙ sym bytes
          ∙ ap (λ (n : ℕ). take n (drop at (mended file))) count
          ∙ ap (λ (n : ℕ). take most_app (drop n (mended file))) same
    ]
