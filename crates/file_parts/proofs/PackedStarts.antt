-- The first bytes of a file that is put together, and the file that is opened by them.
use Rattle.file_parts.proofs.AllWords.{◌≡◌, ℕ, zero, suc, ◌+◌, ◌-◌, ◌<◌, ◌≤◌, Bool, true, false, Option, Some, None, List, [], ◌∷◌, ◌++◌, inl, inr, length, take, drop, map, refl, sym, ap, subst, ◌∙◌, arith, length-append, ◌⊎◌, All, Err, Ok, OnOk, Result, min, take-append-add, cases_lt, drop_all, drop-take, get_or_append_left, get_or-append_right, get_or_past, length-take-le, take_min, take-append-drop, take-take, AreBytes, u32_at, app_info_at, Database, Entry, a_record, a_resource, entry_data, entry_offset, has_resources, blocks_in, block_bytes, file_of, first_block, IsFileStart, most_app, most_start, blocks_text, file_size, length-of_file, read_back, u32_front, all_bytes, IsCanonical, most_bytes, Listed, IsListed, entries_listed, database_of_parts, filled, filled_entries, part_at}
use Rattle.pdb_format.proofs.StartLaws.{app_started, header_started}
use Rattle.file_parts.specs.PackedStarts.{StartsFile}
use Rattle.file_parts.proofs.PackedEntries.{length-packed, packed_has_file}

-- ---- bytes up to a number

-- a part of the bytes is appended
pub within_is : (most left : ℕ) (old more : List ℕ) → length old ≤ most → left ≡ most - length old
    → old ++ take (min (length more) left) more ≡ take most (old ++ more)
within_is most left old more room is =
    let whole : length old + left ≡ most = omega (arith, room, is) in
    let least : min (length more) left ≡ min left (length more) = omega arith in
    ap (λ (n : ℕ). old ++ take n more) least
    ∙ ap (λ (xs : List ℕ). old ++ xs) (take_min left more)
    ∙ sym (take-append-add old more left)
    ∙ ap (λ (n : ℕ). take n (old ++ more)) whole

-- what was appended is the same as other bytes
pub onto : {T E : Type 0} (r : Result T E) (new old whole : List ℕ) → old ≡ whole
    → OnOk r (new ≡ old) → OnOk r (new ≡ whole)
onto (Ok x) new old whole same is = is ∙ same
onto (Err e) new old whole same is = is

-- more bytes after a prefix
pub take_front : (n : ℕ) (xs ys : List ℕ) → take n (take n xs ++ ys) ≡ take n (xs ++ ys)
take_front zero xs ys = refl
take_front (suc n) [] ys = refl
take_front (suc n) (x ∷ xs) ys = ap (λ (zs : List ℕ). x ∷ zs) (take_front n xs ys)

pub length-take_most : (n : ℕ) (xs : List ℕ) → length (take n xs) ≤ n
length-take_most zero xs = omega arith
length-take_most (suc n) [] = omega arith
length-take_most (suc n) (x ∷ xs) = let rest = length-take_most n xs in omega (arith, rest)

-- ---- numbers that are bytes

both_bytes : (xs ys : List ℕ) → AreBytes xs → AreBytes ys → AreBytes (xs ++ ys)
both_bytes xs ys first second k = elim (cases_lt k (length xs)) [
  | inl inside ↦ subst (λ (x : ℕ). x < 256) (sym (get_or_append_left xs ys 0 k inside)) (first k)
  | inr past ↦ rw (get_or-append_right xs ys (length xs) k 0 refl past) (second (k - length xs))
]

no_bytes : AreBytes []
no_bytes k = omega arith

part_bytes : (parts : List (List ℕ)) (rank : ℕ) → All AreBytes parts → AreBytes (part_at parts rank)
part_bytes parts rank all = elim (cases_lt rank (length parts)) [
  | inl inside ↦ all rank [] inside
  | inr past ↦ subst AreBytes (sym (get_or_past parts rank [] past)) no_bytes
]

block_are : (bytes : List ℕ) (block : Option (List ℕ)) → AreBytes bytes
    → AreBytes (block_bytes (filled bytes block))
block_are bytes None are = no_bytes
block_are bytes (Some name) are = are

entries_are : (parts : List (List ℕ)) (rank : ℕ) (es : List (Entry (Option (List ℕ))))
    → All AreBytes parts → AreBytes (all_bytes (map entry_data (filled_entries parts rank es)))
entries_are parts rank [] all = no_bytes
entries_are parts rank (a_record attributes id block ∷ es) all =
    both_bytes (block_bytes (filled (part_at parts rank) block))
    (all_bytes (map entry_data (filled_entries parts (rank + 1) es)))
    (block_are (part_at parts rank) block (part_bytes parts rank all))
    (entries_are parts (rank + 1) es all)
entries_are parts rank (a_resource kind id block ∷ es) all =
    both_bytes (block_bytes (filled (part_at parts rank) block))
    (all_bytes (map entry_data (filled_entries parts (rank + 1) es)))
    (block_are (part_at parts rank) block (part_bytes parts rank all))
    (entries_are parts (rank + 1) es all)

-- the blocks of the file
blocks_are : (listed : Listed) (parts : List (List ℕ)) → All AreBytes parts
    → AreBytes (blocks_text (database_of_parts listed parts))
blocks_are listed parts all =
    let entries : List ℕ =
    all_bytes (map entry_data (filled_entries parts 2 (entries_listed listed.entries.items))) in
    let app : List ℕ = block_bytes (filled (part_at parts 0) listed.infos.app) in
    let sort : List ℕ = block_bytes (filled (part_at parts 1) listed.infos.sort) in
    both_bytes app (sort ++ entries)
    (block_are (part_at parts 0) listed.infos.app (part_bytes parts 0 all)) (both_bytes sort entries
    (block_are (part_at parts 1) listed.infos.sort (part_bytes parts 1 all))
    (entries_are parts 2 (entries_listed listed.entries.items) all))

-- ---- the bytes before the blocks

least_end : (resources : Bool) (n : ℕ) → 78 ≤ entry_offset resources n
least_end false n = omega arith
least_end true n = omega arith

most_end : (resources : Bool) (n : ℕ) → n ≤ 65535 → entry_offset resources n + 2 ≤ most_start
most_end false n few = omega arith
most_end true n few = omega arith

-- they have their size
module _ (listed : Listed) (parts : List (List ℕ)) (head : List ℕ) (is : IsListed listed)
    (most : file_size (database_of_parts listed parts) ≤ most_bytes)
    (whole : file_of (database_of_parts listed parts)
    ≡ head ++ blocks_text (database_of_parts listed parts)) where
  head_long : length head ≡ first_block (database_of_parts listed parts)
  head_long =
      let d : Database (Option (List ℕ)) = database_of_parts listed parts in
      let size = length-of_file d (packed_has_file listed parts is most) in
      let both = ap length whole ∙ length-append head (blocks_text d) in
      omega (arith, size, both)

  pub head_least : 78 ≤ length head
  head_least =
      let d : Database (Option (List ℕ)) = database_of_parts listed parts in
      let long = head_long in
      let least = least_end (has_resources d.header.attributes) (length d.entries) in
      omega (arith, long, least)

  pub head_most : length head ≤ most_start
  head_most =
      let d : Database (Option (List ℕ)) = database_of_parts listed parts in
      let long = head_long in
      let few = is.few in
      let count = length-packed listed.entries.items parts in
      let end =
      most_end (has_resources d.header.attributes) (length d.entries) (omega (arith, few, count)) in
      omega (arith, long, end)

  -- how long the file is: its head and its blocks
  pub size_of : file_size (database_of_parts listed parts)
      ≡ length head + length (blocks_text (database_of_parts listed parts))
  size_of =
      let d : Database (Option (List ℕ)) = database_of_parts listed parts in
      sym (length-of_file d (packed_has_file _ parts is most)) ∙ ap length whole
      ∙ length-append head (blocks_text d)

-- ---- the first bytes

-- the first bytes of AppInfo are among them
app_kept : (at most : ℕ) (file : List ℕ) → at + most_app ≤ most
    → take most_app (drop at (take most file)) ≡ take most_app (drop at file)
app_kept at most file inside =
    let left : ℕ = most - at in
    let whole : most ≡ at + left = omega (arith, inside) in
    ap (λ (n : ℕ). take most_app (drop at (take n file))) whole
    ∙ ap (take most_app) (drop-take at left file)
    ∙ take-take most_app left (drop at file) (omega (arith, inside))

rest_none : (most : ℕ) (file : List ℕ) → most_start ≤ most
    → (drop most file ≡ []) ⊎ (most_start ≤ length (take most file))
rest_none most file least = elim (cases_lt (length file) most) [
  | inl short ↦ inl (drop_all most file (omega (arith, short)))
  | inr long ↦ (let count = length-take-le most file long in inr (omega (arith, count, least)))
]

is_start : (most : ℕ) (file : List ℕ) → most_start ≤ most → AreBytes file
    → IsFileStart file (take most file)
is_start most file least numbers = record {
  rest = drop most file;
  is = sym (take-append-drop most file);
  long = rest_none most file least;
  numbers = numbers;
}

pub starts : (listed : Listed) (parts : List (List ℕ)) (head start : List ℕ) (most size : ℕ)
    → IsListed listed → All AreBytes parts → AreBytes head → file_of (database_of_parts listed
    parts) ≡ head ++ blocks_text (database_of_parts listed parts)
    → size ≡ file_size (database_of_parts listed parts)
    → file_size (database_of_parts listed parts) ≤ most_bytes → most_start ≤ most
    → u32_at head app_info_at + most_app ≤ most
    → start ≡ take most (head ++ blocks_text (database_of_parts listed parts))
    → StartsFile (file_of (database_of_parts listed parts)) start size
starts listed parts head start most size is all numbers whole size_is fits least app cut =
    let d : Database (Option (List ℕ)) = database_of_parts listed parts in
    let file : List ℕ = file_of d in
    let long = length-of_file d (packed_has_file listed parts is fits) in
    let header = head_least listed parts head is fits whole in
    let both = ap length whole ∙ length-append head (blocks_text d) in
    let are : AreBytes file =
    rw whole (both_bytes head (blocks_text d) numbers (blocks_are listed parts all)) in
    let taken : start ≡ take most file = cut ∙ ap (take most) (sym whole) in
    let begins : IsFileStart file start = rw taken (is_start most file least are) in
    let at : u32_at file app_info_at ≡ u32_at head app_info_at =
    ap (λ (bytes : List ℕ). u32_at bytes app_info_at) whole
    ∙ u32_front app_info_at head (blocks_text d) (omega (arith, header)) in
    let first = app_started file start begins (omega (arith, both, header)) in
    record {
      starts = begins;
      size_is = size_is ∙ sym long;
      short = omega (arith, size_is, fits);
      header = header_started file start begins (omega (arith, both, header));
      app_is = ap (λ (n : ℕ). take most_app (drop n start)) first
          ∙ ap (λ (bytes : List ℕ). take most_app (drop (u32_at file app_info_at) bytes)) taken
          ∙ app_kept (u32_at file app_info_at) most file (omega (arith, at, app));
    }

-- ---- the file

-- its blocks are those of the database
pub same_blocks : (listed : Listed) (parts : List (List ℕ)) (form : List ℕ) → IsListed listed
    → file_size (database_of_parts listed parts) ≤ most_bytes
    → IsCanonical (file_of (database_of_parts listed parts)) form
    → all_bytes (blocks_in (file_of (database_of_parts listed parts)))
    ≡ blocks_text (database_of_parts listed parts)
same_blocks listed parts form is fits canonical =
    let d : Database (Option (List ℕ)) = database_of_parts listed parts in
    ap all_bytes (sym canonical.reads.blocks
    ∙ (read_back d _ (packed_has_file _ parts is fits) canonical.reads).blocks)

-- the canonical form, with the blocks of the database
pub form_is : (listed : Listed) (parts : List (List ℕ)) (head : List ℕ) → IsListed listed
    → file_size (database_of_parts listed parts) ≤ most_bytes
    → IsCanonical (file_of (database_of_parts listed parts)) (head
    ++ all_bytes (blocks_in (file_of (database_of_parts listed parts))))
    → IsCanonical (file_of (database_of_parts listed parts)) (head
    ++ blocks_text (database_of_parts listed parts))
form_is listed parts head is fits canonical = rw (same_blocks listed parts
    (head ++ all_bytes (blocks_in (file_of (database_of_parts listed parts)))) is fits canonical) at
    canonical
