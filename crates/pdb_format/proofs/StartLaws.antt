-- The first bytes of a file give the header fields, the name and the entries that the file has.
use Rattle.std.proofs.Common.{◌≡◌, ◌<◌, ◌≤◌, ℕ, Bool, true, false, List, [], ◌++◌, ◌⊎◌, inl, inr, length, take, drop, ◌+◌, ◌-◌, ◌^◌, sym, ap, subst, ◌∙◌, arith, append-nil}
use Rattle.std.specs.Prelude.{min, slice_range}
use Rattle.std.proofs.lemmas.List.{take_all, take_min, drop_all, length-drop, length-take, drop-append-le, take-append-le, take-take}
use Rattle.std.proofs.lemmas.Bool.{cases_lt}
use Rattle.byteorder.specs.Numbers.{big_from-lt}
use Rattle.heap_model.specs.Bytes.{AreBytes, u16_at, u32_at}
use Rattle.heap_model.specs.DatabaseFields.{app_info_at, sort_info_at, next_list_at, seed_at}
use Rattle.heap_model.specs.Database.{HasName, IsDatabaseName, name_field, name_in, resources_in, entry_count_in, entry_offset, entry_in, database_in}
use Rattle.heap_model.specs.Files.{entries_end}
use Rattle.pdb_format.specs.FileStarts.{IsFileStart, app_start, most_app, most_start}
use Rattle.pdb_format.proofs.WrittenHeads.{u32_front, name_front, resources_front, count_front, entry_in_front, database_front}

-- ---- the header

pub header_started : (file start : List ℕ) → IsFileStart file start → 78 ≤ length file
    → 78 ≤ length start
header_started file start s long = from s.rest s.long s.is where
  from : (rest : List ℕ) → (rest ≡ []) ⊎ (most_start ≤ length start) → file ≡ start ++ rest
      → 78 ≤ length start
  from rest (inl none) is =
      let same : file ≡ start = is ∙ ap (λ (r : List ℕ). start ++ r) none ∙ append-nil start in
      let count = ap length same in
      omega (arith, count)
  from rest (inr more) is = omega arith

-- a number of four bytes in them
pub number_started : (at : ℕ) (file start : List ℕ) → IsFileStart file start → at + 4 ≤ length start
    → u32_at start at ≡ u32_at file at
number_started at file start s inside =
    sym (ap (λ (bytes : List ℕ). u32_at bytes at) s.is ∙ u32_front at start s.rest inside)

-- one in the header
word_started : (at : ℕ) (file start : List ℕ) → IsFileStart file start → 78 ≤ length file
    → at + 4 ≤ 78 → u32_at start at ≡ u32_at file at
word_started at file start s long inside =
    let header = header_started file start s long in
    number_started at file start s (omega (arith, header, inside))

pub app_started : (file start : List ℕ) → IsFileStart file start → 78 ≤ length file
    → u32_at start app_info_at ≡ u32_at file app_info_at
app_started file start s long = word_started app_info_at file start s long (omega arith)

pub sort_started : (file start : List ℕ) → IsFileStart file start → 78 ≤ length file
    → u32_at start sort_info_at ≡ u32_at file sort_info_at
sort_started file start s long = word_started sort_info_at file start s long (omega arith)

pub next_list_started : (file start : List ℕ) → IsFileStart file start → 78 ≤ length file
    → u32_at start next_list_at ≡ u32_at file next_list_at
next_list_started file start s long = word_started next_list_at file start s long (omega arith)

pub seed_started : (file start : List ℕ) → IsFileStart file start → 78 ≤ length file
    → u32_at start seed_at ≡ u32_at file seed_at
seed_started file start s long = word_started seed_at file start s long (omega arith)

pub resources_started : (file start : List ℕ) → IsFileStart file start → 78 ≤ length file
    → resources_in start ≡ resources_in file
resources_started file start s long =
    sym (ap resources_in s.is ∙ resources_front start s.rest (header_started file start s long))

pub count_started : (file start : List ℕ) → IsFileStart file start → 78 ≤ length file
    → entry_count_in start ≡ entry_count_in file
count_started file start s long =
    sym (ap entry_count_in s.is ∙ count_front start s.rest (header_started file start s long))

pub end_started : (file start : List ℕ) → IsFileStart file start → 78 ≤ length file
    → entries_end start ≡ entries_end file
end_started file start s long =
    ap (λ (resources : Bool). entry_offset resources (entry_count_in start))
    (resources_started file start s long)
    ∙ ap (entry_offset (resources_in file)) (count_started file start s long)

pub name_started : (file start : List ℕ) → IsFileStart file start → 78 ≤ length file
    → name_in start ≡ name_in file
name_started file start s long =
    sym (ap name_in s.is ∙ name_front start s.rest (header_started file start s long))

field_started : (file start : List ℕ) → IsFileStart file start → 78 ≤ length file
    → take 32 start ≡ take 32 file
field_started file start s long =
    let header = header_started file start s long in
    sym (ap (take 32) s.is ∙ take-append-le 32 start s.rest (omega (arith, header)))

same_name : (one other : List ℕ) → name_in one ≡ name_in other → take 32 one ≡ take 32 other
    → HasName one → HasName other
same_name one other name field has = record {
  name = subst IsDatabaseName name has.name;
  field = sym field ∙ has.field ∙ ap name_field name;
}

pub named_by_start : (file start : List ℕ) → IsFileStart file start → 78 ≤ length file
    → HasName start → HasName file
named_by_start file start s long =
    same_name start file (name_started file start s long) (field_started file start s long)

pub start_named : (file start : List ℕ) → IsFileStart file start → 78 ≤ length file → HasName file
    → HasName start
start_named file start s long =
    same_name file start (sym (name_started file start s long))
    (sym (field_started file start s long))

-- ---- the entries

few_entries : (file : List ℕ) → AreBytes file → entry_count_in file < 2 ^ 16
unfolding u16_at
few_entries file numbers = big_from-lt 76 2 file numbers

most_end : (resources : Bool) (count : ℕ) → count < 2 ^ 16
    → entry_offset resources count + 2 ≤ most_start
most_end false count few = omega arith
most_end true count few = omega arith

-- the header, the entries and two bytes more, as far as the file has them
pub ends_within : (file start : List ℕ) → IsFileStart file start → (at : ℕ)
    → at ≤ entries_end file + 2 → at ≤ length file → at ≤ length start
ends_within file start s at most inside = from s.rest s.long s.is where
  from : (rest : List ℕ) → (rest ≡ []) ⊎ (most_start ≤ length start) → file ≡ start ++ rest
      → at ≤ length start
  from rest (inl none) is =
      let same : file ≡ start = is ∙ ap (λ (r : List ℕ). start ++ r) none ∙ append-nil start in
      let count = ap length same in
      omega (arith, count, inside)
  from rest (inr more) is =
      let end = most_end (resources_in file) (entry_count_in file) (few_entries file s.numbers) in
      omega (arith, end, most, more)

end_header : (file : List ℕ) → entries_end file ≤ length file → 78 ≤ length file
end_header file whole = by (resources_in file) whole where
  by : (resources : Bool) → entry_offset resources (entry_count_in file) ≤ length file
      → 78 ≤ length file
  by false ends = omega (arith, ends)
  by true ends = omega (arith, ends)

pub entries_started : (file start : List ℕ) → IsFileStart file start
    → entries_end file ≤ length file → entries_end start ≤ length start
entries_started file start s whole =
    let same = end_started file start s (end_header file whole) in
    let within = ends_within file start s (entries_end file) (omega arith) whole in
    omega (arith, same, within)

pub header_by_entries : (file start : List ℕ) → IsFileStart file start
    → entries_end file ≤ length file → 78 ≤ length start
header_by_entries file start s whole = header_started file start s (end_header file whole)

offset_grows : (resources : Bool) (index count : ℕ) → index ≤ count
    → entry_offset resources index ≤ entry_offset resources count
offset_grows true index count less = omega arith
offset_grows false index count less = omega arith

-- an entry is among them
pub entry_within_start : (file start : List ℕ) → IsFileStart file start
    → entries_end file ≤ length file → (index : ℕ) → index < entry_count_in file
    → entry_offset (resources_in start) (index + 1) ≤ length start
entry_within_start file start s whole index inside =
    let ends = entries_started file start s whole in
    let count = count_started file start s (end_header file whole) in
    let grows = offset_grows (resources_in start) (index + 1) (entry_count_in start)
    (omega (arith, count, inside)) in
    omega (arith, ends, grows)

pub entry_started : (file start : List ℕ) → IsFileStart file start → entries_end file ≤ length file
    → (index : ℕ) → index < entry_count_in file → entry_in start index ≡ entry_in file index
entry_started file start s whole index inside =
    let count = count_started file start s (end_header file whole) in
    sym (ap (λ (bytes : List ℕ). entry_in bytes index) s.is
    ∙ entry_in_front start s.rest index (header_by_entries file start s whole)
    (entries_started file start s whole) (omega (arith, count, inside)))

pub database_started : (file start : List ℕ) → IsFileStart file start
    → entries_end file ≤ length file → database_in start ≡ database_in file
database_started file start s whole =
    sym (ap database_in s.is
    ∙ database_front start s.rest (header_by_entries file start s whole)
    (entries_started file start s whole))

-- ---- bytes from an offset on

pub part_taken : (all : List ℕ) (at most count : ℕ)
    → count ≡ min (length (take (length all - at) (drop at all))) most
    → take count (take (length all - at) (drop at all)) ≡ take most (drop at all)
part_taken all at most count is =
    let rest : List ℕ = drop at all in
    let long = length-drop at all in
    let same : take (length all - at) rest ≡ rest = take_all (length all - at) rest
    (omega (arith, long)) in
    let size = ap length same in
    let turned : count ≡ min most (length rest) = omega (arith, is, size) in
    ap (take count) same ∙ ap (λ (n : ℕ). take n rest) turned ∙ take_min most rest

pub no_part : (all : List ℕ) (most at : ℕ) → length all ≤ at → [] ≡ take most (drop at all)
no_part all most at past =
    let long = length-drop at all in
    let none : drop at all ≡ [] = drop_all at all past in
    sym none ∙ sym (take_all most (drop at all) (omega (arith, long, past)))

-- the same bytes, taken in the other order
take_turned : (n m : ℕ) (xs : List ℕ) → take n (take m xs) ≡ take m (take n xs)
take_turned n m xs = elim (cases_lt n m) [
  | inl less ↦
      let long = length-take n xs in
      take-take n m xs (omega arith) ∙ sym (take_all m (take n xs) (omega arith))
  | inr most ↦
      let long = length-take m xs in
      take_all n (take m xs) (omega arith) ∙ sym (take-take m n xs (omega arith))
]

pub app_part : (file : List ℕ) (start end : ℕ) → start ≡ u32_at file app_info_at
    → take (end - start) (app_start file) ≡ take most_app (slice_range file start end)
app_part file start end is =
    take_turned (end - start) most_app (drop (u32_at file app_info_at) file)
    ∙ ap (λ (at : ℕ). take most_app (take (end - start) (drop at file))) (sym is)

-- bytes among them
pub range_started : (file start : List ℕ) → IsFileStart file start → (from to : ℕ) → from ≤ to
    → to ≤ length start → slice_range start from to ≡ slice_range file from to
range_started file start s from to less inside =
    let long = length-drop from start in
    sym (ap (λ (bytes : List ℕ). take (to - from) (drop from bytes)) s.is
    ∙ ap (take (to - from)) (drop-append-le from start s.rest (omega (arith, less, inside)))
    ∙ take-append-le (to - from) (drop from start) s.rest (omega (arith, long, less, inside)))
