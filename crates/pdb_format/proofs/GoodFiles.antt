-- A file without fault has its header and its entries, and its blocks begin within it.
use Rattle.std.proofs.Common.{◌≡◌, ℕ, zero, suc, ◌+◌, ◌<◌, ◌≤◌, Bool, true, false, List, length, get_or, refl, ap, subst, ◌∙◌, arith, inl, inr}
use Rattle.std.proofs.lemmas.Bool.{cases_eq, cases_lt}
use Rattle.std.proofs.lemmas.List.{length-map, get_or-map, get_or_past}
use Rattle.std.proofs.lemmas.List.FromFn.{length-map-range_with_len, get_or-map-range_with_len}
use Rattle.heap_model.specs.Bytes.{u32_at}
use Rattle.heap_model.specs.Lists.{numbered}
use Rattle.heap_model.specs.DatabaseFields.{header_size, app_info_at, sort_info_at}
use Rattle.heap_model.specs.Database.{Entry, a_record, a_resource, entry_data, resources_in, entry_count_in, entry_offset, entry_in, database_in}
use Rattle.heap_model.specs.Files.{entries_end, IsOutside, IsBadInfo, HasBadOffset, HasFault, HasNoFault, offsets_in}
use Rattle.heap_model.specs.declared.file_fault.FileFault.TheVariants.{Truncated, BadOffset}

-- a file that isn't truncated has its header and its entries
pub whole_file : (file : List ℕ) → (HasFault file Truncated → ⊥)
    → (header_size ≤ length file) × (entries_end file ≤ length file)
whole_file file none =
    let header : header_size ≤ length file = elim (cases_lt (length file) header_size) [
      | inl less ↦ absurd (none (inl less))
      | inr enough ↦ omega arith
    ] in
    let entries : entries_end file ≤ length file =
    elim (cases_lt (length file) (entries_end file)) [
      | inl less ↦ absurd (none (inr less))
      | inr enough ↦ omega arith
    ] in
    (header, entries)

pub not_truncated : (file : List ℕ) → HasNoFault file
    → (header_size ≤ length file) × (entries_end file ≤ length file)
not_truncated file good = whole_file file (good 0 Truncated (omega arith))

offset_grows : (resources : Bool) (index count : ℕ) → index ≤ count
    → entry_offset resources index ≤ entry_offset resources count
offset_grows true index count less = omega arith
offset_grows false index count less = omega arith

-- an entry stands within it
pub entry_inside : (file : List ℕ) → HasNoFault file → (index : ℕ) → index < entry_count_in file
    → entry_offset (resources_in file) (index + 1) ≤ length file
entry_inside file good index inside =
    let end = (not_truncated file good).1 in
    let grows = offset_grows (resources_in file) (index + 1) (entry_count_in file) (omega arith) in
    omega arith

-- ---- the offsets of its blocks

pub offset_count : (file : List ℕ) → length (offsets_in file) ≡ 2 + entry_count_in file
unfolding database_in
offset_count file =
    let data_long = length-map (numbered (entry_in file) (entry_count_in file))
    (entry_data {Data = ℕ}) in
    let long = length-map-range_with_len (entry_in file) 0 (entry_count_in file) in
    omega arith

pub app_offset : (file : List ℕ) → get_or (offsets_in file) 0 0 ≡ u32_at file app_info_at
unfolding database_in
app_offset file = refl

pub sort_offset : (file : List ℕ) → get_or (offsets_in file) 1 0 ≡ u32_at file sort_info_at
unfolding database_in
sort_offset file = refl

pub entry_offset_is : (file : List ℕ) (index : ℕ) → index < entry_count_in file
    → get_or (offsets_in file) (suc (suc index)) 0 ≡ entry_data (entry_in file index)
unfolding database_in
entry_offset_is file index inside =
    let long = length-map-range_with_len (entry_in file) 0 (entry_count_in file) in
    get_or-map (entry_data {Data = ℕ}) (numbered (entry_in file) (entry_count_in file)) index
    (a_record 0 0 0) 0 (omega arith)
    ∙ ap (entry_data {Data = ℕ})
    (get_or-map-range_with_len (entry_in file) 0 (entry_count_in file) index index
    (a_record 0 0 0) inside (omega arith))

-- ---- they lie within it

not_outside : (file : List ℕ) (at : ℕ) → (IsOutside file at → ⊥) → at ≤ length file
not_outside file at good = elim (cases_lt (length file) at) [
  | inl less ↦ absurd (good (inr less))
  | inr inside ↦ omega arith
]

info_inside : (file : List ℕ) (at : ℕ) → (IsBadInfo file at → ⊥) → at ≤ length file
info_inside file at good = elim (cases_eq at 0) [
  | inl is ↦ omega arith
  | inr some ↦ not_outside file at (λ outside. good (some, outside))
]

data_inside : (file : List ℕ) (entry : Entry ℕ) → (HasBadOffset file entry → ⊥)
    → entry_data entry ≤ length file
data_inside file (a_record attributes id at) good = elim (cases_eq at 0) [
  | inl is ↦ omega arith
  | inr some ↦ not_outside file at (λ outside. good (inl some, outside))
]
data_inside file (a_resource kind id at) good = not_outside file at good

-- the offset of an entry isn't bad
pub good_offset : (file : List ℕ) → HasNoFault file → (index : ℕ) → index < entry_count_in file
    → HasBadOffset file (entry_in file index) → ⊥
good_offset file good index inside bad =
    let long = length-map-range_with_len BadOffset 0 (entry_count_in file) in
    let fault = get_or-map-range_with_len BadOffset 0
    (entry_count_in file) index index Truncated inside (omega arith) in
    subst (λ f. HasFault file f → ⊥) fault
    (good (suc (suc (suc (suc (suc index))))) Truncated (omega arith)) (inside, bad)

pub offset_inside_file : (file : List ℕ) → HasNoFault file → (rank : ℕ)
    → rank < length (offsets_in file) → get_or (offsets_in file) rank 0 ≤ length file
offset_inside_file file good zero inside =
    let e = app_offset file in
    let most = info_inside file (u32_at file app_info_at) (good 3 Truncated (omega arith)) in
    omega arith
offset_inside_file file good (suc zero) inside =
    let e = sort_offset file in
    let most = info_inside file (u32_at file sort_info_at) (good 4 Truncated (omega arith)) in
    omega arith
offset_inside_file file good (suc (suc index)) inside =
    let count = offset_count file in
    let less : index < entry_count_in file = omega arith in
    let e = entry_offset_is file index less in
    let most = data_inside file (entry_in file index) (good_offset file good index less) in
    omega arith

-- ---- they come after the entries

not_before : (file : List ℕ) (at : ℕ) → (IsOutside file at → ⊥) → entries_end file ≤ at
not_before file at good = elim (cases_lt at (entries_end file)) [
  | inl less ↦ absurd (good (inl less))
  | inr enough ↦ omega arith
]

data_after : (file : List ℕ) (entry : Entry ℕ) → (HasBadOffset file entry → ⊥)
    → 0 < entry_data entry → entries_end file ≤ entry_data entry
data_after file (a_record attributes id at) good some =
    not_before file at (λ outside. good (inl (λ none. absurd (omega arith)), outside))
data_after file (a_resource kind id at) good some = not_before file at good

info_after : (file : List ℕ) (at : ℕ) → (IsBadInfo file at → ⊥) → 0 < at → entries_end file ≤ at
info_after file at good some =
    not_before file at (λ outside. good ((λ none. absurd (omega arith)), outside))

pub offset_after : (file : List ℕ) → HasNoFault file → (rank : ℕ)
    → 0 < get_or (offsets_in file) rank 0 → entries_end file ≤ get_or (offsets_in file) rank 0
offset_after file good zero some =
    let e = app_offset file in
    let after = info_after file (u32_at file app_info_at) (good 3 Truncated (omega arith))
    (omega arith) in
    omega arith
offset_after file good (suc zero) some =
    let e = sort_offset file in
    let after = info_after file (u32_at file sort_info_at) (good 4 Truncated (omega arith))
    (omega arith) in
    omega arith
offset_after file good (suc (suc index)) some = elim (cases_lt index (entry_count_in file)) [
  | inl less ↦
      let e = entry_offset_is file index less in
      let absent = good_offset file good index less in
      let after = data_after file (entry_in file index) absent (omega arith) in
      omega arith
  | inr past ↦
      let count = offset_count file in
      let none = get_or_past (offsets_in file) (suc (suc index)) 0 (omega arith) in
      absurd (omega arith)
]
