-- The numbers that are allowed at the place of a fault.
use Rattle.std.proofs.Common.{◌≡◌, ◌≢◌, ℕ, zero, suc, ◌+◌, ◌<◌, ◌≤◌, Bool, true, false, List, [], ◌∷◌, length, take, cond, not, ◌==◌, refl, sym, ap, ◌∙◌, arith, inl, inr}
use Rattle.std.specs.Prelude.{◌↔◌, ◌⊎◌, nat_lt, slice_index, if◌then◌else◌}
use Rattle.std.specs.List.{take_while}
use Rattle.std.proofs.lemmas.Bool.{cases_lt, le-ltb, lt-ltb, ne_eqb}
use Rattle.std.proofs.lemmas.List.Sums.{take_while-cons}
use Rattle.heap_model.specs.Bytes.{AreBytes, u24_at, u32_at}
use Rattle.heap_model.specs.DatabaseFields.{header_size, app_info_at, sort_info_at, record_attributes_at, record_id_at}
use Rattle.heap_model.specs.Database.{a_record, is_deleted, name_in, resources_in, entry_count_in, entry_offset, entry_at}
use Rattle.heap_model.specs.Files.{HasBadOffset, IsBadInfo, IsOutside, entries_end}
use Rattle.heap_model.specs.declared.names.Which.TheVariants.{App, Sort}
use Rattle.heap_model.specs.declared.file_fault.FileFault.TheVariants.{Truncated, ChainedList, EmptyName, BadInfo, BadOffset}
use Rattle.file_listing.specs.Damage.{data_field}
use Rattle.file_listing.specs.Damage.{IsBetween, Allows, IsExact, DamagesAreExact, found_at, found_in, is_deleted_record}
use Rattle.file_listing.specs.declared.damage.Damage.{Damage}
use Rattle.file_listing.specs.declared.damage.Damage.TheVariants.{ResourceOutside, RecordOutside}

-- ---- a truncated file

abbrev least : ℕ → ℕ → ℕ
least size end = if nat_lt size header_size then header_size else end

least_is : (size end : ℕ) → ((size < header_size) ⊎ (size < end) → least size end ≤ size → ⊥) × ((least size end ≤ size → ⊥) → (size < header_size) ⊎ (size < end))
least_is size end = elim (cases_lt size header_size) [
  | inl less ↦
      let is : least size end ≡ header_size = rw (lt-ltb size header_size less) refl in
      (λ _ most. omega (arith, is, most, less), λ _. inl less)
  | inr enough ↦
      let is : least size end ≡ end = rw (le-ltb size header_size enough) refl in (
        λ fault most. not_short size end enough fault (omega (arith, is, most)),
        λ not. elim (cases_lt size end) [
          | inl less ↦ inr less
          | inr within ↦ absurd (not (omega (arith, is, within)))
        ],
      )
] where
  not_short : (size end : ℕ) → header_size ≤ size → (size < header_size) ⊎ (size < end) → end ≤ size → ⊥
  not_short size end enough (inl less) within = omega (arith, enough, less)
  not_short size end enough (inr less) within = omega (arith, less, within)

truncated : (file : List ℕ) → IsExact file Truncated
truncated file = record { exact = least_is (length file) (entries_end file); found = λ _. refl }

-- ---- a further list

chained : (file : List ℕ) → IsExact file ChainedList
chained file = record { exact = (λ some none. some none, λ not none. not none); found = λ _. refl }

-- ---- the name

abbrev no_zero : ℕ → Bool
no_zero byte = not (byte == 0)

some_name : (byte : ℕ) (file : List ℕ) → name_in (suc byte ∷ file) ≡ suc byte ∷ take_while no_zero (take 30 file)
unfolding name_in
some_name byte file =
    take_while-cons no_zero (suc byte) (take 30 file)
    ∙ ap (λ (b : Bool). cond (not b) (suc byte ∷ take_while no_zero (take 30 file)) []) (ne_eqb (suc byte) 0 (λ e. cc))

not_empty : (x : ℕ) (xs : List ℕ) → x ∷ xs ≡ [] → ⊥
not_empty x xs e = cc

first_byte : (file : List ℕ) → AreBytes file → (name_in file ≡ [] → IsBetween 1 255 (slice_index file 0) → ⊥) × ((IsBetween 1 255 (slice_index file 0) → ⊥) → name_in file ≡ []) × (name_in file ≡ [] → 0 ≡ slice_index file 0)
unfolding name_in
first_byte [] bytes = (λ _ between. omega (arith, between.0), λ _. refl, λ _. refl)
first_byte (zero ∷ file) bytes = (λ _ between. omega (arith, between.0), λ _. refl, λ _. refl)
first_byte (suc byte ∷ file) bytes =
    let low = bytes 0 in
    let rest = take_while no_zero (take 30 file) in
    let some = λ (none : name_in (suc byte ∷ file) ≡ []). not_empty (suc byte) rest (sym (some_name byte file) ∙ none) in
    (λ none. absurd (some none), λ not. absurd (not (omega arith, omega (arith, low))), λ none. absurd (some none))

unnamed : (file : List ℕ) → AreBytes file → IsExact file EmptyName
unnamed file bytes =
    let is = first_byte file bytes in
    record { exact = (is.0, is.1); found = is.2 }

-- ---- offsets

-- an offset is outside exactly if it isn't between the ends
outside_or_between : (file : List ℕ) (at : ℕ) → IsOutside file at ⊎ IsBetween (entries_end file) (length file) at
outside_or_between file at = elim (cases_lt at (entries_end file)) [
  | inl less ↦ inl (inl less)
  | inr enough ↦ elim (cases_lt (length file) at) [
    | inl more ↦ inl (inr more)
    | inr within ↦ inr (enough, within)
  ]
]

not_both : (file : List ℕ) (at : ℕ) → IsOutside file at → IsBetween (entries_end file) (length file) at → ⊥
not_both file at (inl less) between = omega (arith, less, between.0)
not_both file at (inr more) between = omega (arith, more, between.1)

outside_if_not : (file : List ℕ) (at : ℕ) → (IsBetween (entries_end file) (length file) at → ⊥) → IsOutside file at
outside_if_not file at not = elim (outside_or_between file at) [
  | inl outside ↦ outside
  | inr between ↦ absurd (not between)
]

info_is : (file : List ℕ) (at : ℕ) → IsBadInfo file at ↔ ((at ≡ 0) ⊎ IsBetween (entries_end file) (length file) at → ⊥)
info_is file at = (bad file at, λ not. (λ none. not (inl none), outside_if_not file at (λ between. not (inr between)))) where
  bad : (file : List ℕ) (at : ℕ) → IsBadInfo file at → (at ≡ 0) ⊎ IsBetween (entries_end file) (length file) at → ⊥
  bad file at (some, out) (inl none) = some none
  bad file at (some, out) (inr between) = not_both file at out between

app_info : (file : List ℕ) → IsExact file (BadInfo App)
app_info file = record { exact = info_is file (u32_at file app_info_at); found = λ _. refl }

sort_info : (file : List ℕ) → IsExact file (BadInfo Sort)
sort_info file = record { exact = info_is file (u32_at file sort_info_at); found = λ _. refl }

-- ---- entries

abbrev told : Bool → List ℕ → ℕ → Damage
told resources file at = if resources then ResourceOutside at (entries_end file) (length file) else RecordOutside at (entries_end file) (length file)

record_is : (file : List ℕ) (attributes id at : ℕ) → HasBadOffset file (a_record attributes id at) ↔ (Allows (RecordOutside at (entries_end file) (length file)) (is_deleted attributes) at → ⊥)
record_is file attributes id at = (bad, good) where
  bad : HasBadOffset file (a_record attributes id at) → Allows (RecordOutside at (entries_end file) (length file)) (is_deleted attributes) at → ⊥
  bad (some, out) (inl between) = not_both file at out between
  bad (inl some, out) (inr both) = some both.0
  bad (inr live, out) (inr both) = absurd cc

  needed : (deleted : Bool) → (IsBetween (entries_end file) (length file) at ⊎ ((at ≡ 0) × (deleted ≡ true)) → ⊥) → (at ≢ 0) ⊎ (deleted ≡ false)
  needed false not = inr refl
  needed true not = inl (λ none. not (inr (none, refl)))

  good : (Allows (RecordOutside at (entries_end file) (length file)) (is_deleted attributes) at → ⊥) → HasBadOffset file (a_record attributes id at)
  good not = (needed (is_deleted attributes) not, outside_if_not file at (λ between. not (inl between)))

resource_is : (file : List ℕ) (at : ℕ) → IsOutside file at ↔ (IsBetween (entries_end file) (length file) at → ⊥)
resource_is file at = (not_both file at, outside_if_not file at)

entry_is : (resources : Bool) (file : List ℕ) (offset : ℕ) → HasBadOffset file (entry_at resources file offset)
    ↔ (Allows (told resources file (u32_at file (offset + data_field resources))) (is_deleted_record (entry_at resources file offset)) (u32_at file (offset + data_field resources)) → ⊥)
entry_is true file offset = resource_is file (u32_at file (offset + data_field true))
entry_is false file offset =
    let e : offset + 0 ≡ offset = omega arith in
    rw e (record_is file (slice_index file (offset + record_attributes_at)) (u24_at file (offset + record_id_at)) (u32_at file offset))

found_told : (resources : Bool) (file : List ℕ) (at : ℕ) → found_in (told resources file at) ≡ at
found_told true file at = refl
found_told false file at = refl

entry_exact : (file : List ℕ) (index : ℕ) → index < entry_count_in file → IsExact file (BadOffset index)
entry_exact file index inside =
    let is = entry_is (resources_in file) file (entry_offset (resources_in file) index) in
    record {
      exact = (λ fault. is.0 fault.1, λ not. (inside, is.1 not));
      found = λ _. found_told (resources_in file) file (found_at file (BadOffset index));
    }

pub damages_are_exact : DamagesAreExact
damages_are_exact file Truncated bytes of = truncated file
damages_are_exact file ChainedList bytes of = chained file
damages_are_exact file EmptyName bytes of = unnamed file bytes
damages_are_exact file (BadInfo App) bytes of = app_info file
damages_are_exact file (BadInfo Sort) bytes of = sort_info file
damages_are_exact file (BadOffset index) bytes of = entry_exact file index of
