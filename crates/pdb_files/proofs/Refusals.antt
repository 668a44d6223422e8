-- The refusals of the call: a fault of the file, a name that is taken, and too many databases.
use Rattle.pdb_files.proofs.Words.{◌≡◌, ◌≢◌, ℕ, ◌≤◌, ◌++◌, true, false, Result, Ok, Err, Option, Some, None, List, [], ◌∷◌, length, refl, sym, ap, subst, ◌∙◌, arith, inl, inr, All, is_ok, is_some, slice_get_within, get_or_from_slice_get, All-head, All-tail, Memory, Check, ◌brings◌, NoneHolds, FirstBrings, reply_of, name_in, StoredDatabase, most_databases, store_of, OfDatabase, with_number, may_run_out, IsTaken, taken, entries_end, HasFault, file_faults, HasNoFault, IsFirstFault, whole_parts, whole_slots, fault_checks, block_sizes, no_memory, DoesInStore, row_of, Db, DbInfo, Import, Refusal, BadFile, TooManyEntries, OutOfMemory, number_some, map-All, found_stands, BlockSizes, WholeEntry, checks_of_whole, checks_in_front}
use Rattle.heap_model.specs.declared.file_fault.FileFault.{FileFault}
use Rattle.heap_model.specs.declared.call.DatabaseCall.TheVariants.{Find, Count}
use Rattle.heap_model.specs.declared.call.Call.TheVariants as calls
use Rattle.heap_model.specs.declared.call.Reply.TheVariants as replies

-- ---- faults

-- the first fault refuses the file
first_brings : (file : List ℕ) (before : List FileFault) (fault : FileFault)
    (after : List FileFault) (behind : List Check) → All (λ other. HasFault file other → ⊥) before
    → HasFault file fault
    → FirstBrings (fault_checks file (before ++ fault ∷ after) behind) (BadFile fault)
first_brings file [] fault after behind earlier here = inl (here, refl)
first_brings file (one ∷ before) fault after behind earlier here = inr (
  All-head (λ other. HasFault file other → ⊥) one before earlier,
  first_brings file before fault after behind
      (All-tail (λ other. HasFault file other → ⊥) one before earlier) here,
)

pub fault_brings : (file : List ℕ) (fault : FileFault) (behind : List Check)
    → IsFirstFault file fault
    → FirstBrings (fault_checks file (file_faults file) behind) (BadFile fault)
fault_brings file fault behind first = subst (λ (faults : List FileFault).
    FirstBrings (fault_checks file faults behind) (BadFile fault)) (sym first.order)
    (first_brings file first.before fault first.after behind first.earlier first.here)

-- if there is none, the other checks come
passed_brings : (file : List ℕ) (faults : List FileFault) (behind : List Check) (refusal : Refusal)
    → All (λ other. HasFault file other → ⊥) faults → FirstBrings behind refusal
    → FirstBrings (fault_checks file faults behind) refusal
passed_brings file [] behind refusal good brought = brought
passed_brings file (one ∷ faults) behind refusal good brought = inr (
  All-head (λ other. HasFault file other → ⊥) one faults good,
  passed_brings file faults behind refusal
      (All-tail (λ other. HasFault file other → ⊥) one faults good) brought,
)

pub good_brings : (file : List ℕ) (behind : List Check) (refusal : Refusal) → HasNoFault file
    → FirstBrings behind refusal → FirstBrings (fault_checks file (file_faults file) behind) refusal
good_brings file behind refusal good brought =
    passed_brings file (file_faults file) behind refusal good brought

passed_none : (file : List ℕ) (faults : List FileFault) (behind : List Check)
    → All (λ other. HasFault file other → ⊥) faults → NoneHolds behind
    → NoneHolds (fault_checks file faults behind)
passed_none file [] behind good none = none
passed_none file (one ∷ faults) behind good none = (
  All-head (λ other. HasFault file other → ⊥) one faults good,
  passed_none file faults behind
      (All-tail (λ other. HasFault file other → ⊥) one faults good) none,
)

pub good_none : (file : List ℕ) (behind : List Check) → HasNoFault file → NoneHolds behind
    → NoneHolds (fault_checks file (file_faults file) behind)
good_none file behind good none = passed_none file (file_faults file) behind good none

-- the refusals that some checks bring, they also bring before other checks
then_brings : (file : List ℕ) (faults : List FileFault) (behind more : List Check)
    (refusal : Refusal) → (FirstBrings behind refusal → FirstBrings more refusal)
    → FirstBrings (fault_checks file faults behind) refusal
    → FirstBrings (fault_checks file faults more) refusal
then_brings file [] behind more refusal onto brought = onto brought
then_brings file (one ∷ faults) behind more refusal onto (inl here) = inl here
then_brings file (one ∷ faults) behind more refusal onto (inr (passed, brought)) =
    inr (passed, then_brings file faults behind more refusal onto brought)

abbrev front : Memory → List ℕ → List Check
front old file = taken (store_of old.bytes) 0 (name_in file)
    ∷ ((most_databases ≤ length (store_of old.bytes).databases) brings TooManyEntries) ∷ []

abbrev pub behind_front : Memory → List ℕ → List Check
behind_front old file = taken (store_of old.bytes) 0 (name_in file)
    ∷ ((most_databases ≤ length (store_of old.bytes).databases) brings TooManyEntries) ∷ no_memory
    ∷ may_run_out old.bytes (whole_slots old.bytes (block_sizes file))
    (whole_parts old.bytes (entries_end file) (block_sizes file)) ∷ []

pub front_brings : (old : Memory) (file : List ℕ) (refusal : Refusal)
    → FirstBrings (checks_in_front old.bytes file) refusal
    → FirstBrings (row_of old (calls.File (Import file))).refusals refusal
front_brings old file refusal brought = then_brings file (file_faults file) (front old file)
    (behind_front old file) refusal onto brought where
      onto : FirstBrings (front old file) refusal → FirstBrings (behind_front old file) refusal
      onto (inl taken) = inl taken
      onto (inr (free, inl many)) = inr (free, inl many)
      onto (inr (free, inr (few, none))) = absurd none

-- ---- a database that is made whole is never refused with out of memory

pub whole_not_memory : (image : List ℕ) (info : DbInfo) (blocks : BlockSizes)
    (entries : List WholeEntry) (refusal : Refusal)
    → FirstBrings (checks_of_whole image info blocks entries) refusal → refusal ≢ OutOfMemory
whole_not_memory image info blocks entries refusal (inl taken) e = (let is = taken.1 in absurd cc)
whole_not_memory image info blocks entries refusal (inr (free, inl many)) e =
    (let is = many.1 in absurd cc)
whole_not_memory image info blocks entries refusal (inr (free, inr (few, inl full))) e =
    (let is = full.1 in absurd cc)
whole_not_memory image info blocks entries refusal (inr (free, inr (few, inr (roomy, none)))) e =
    absurd none

-- ---- names that are taken

pub taken_found : (region : Memory) (name : List ℕ) (result : Result Db Refusal)
    → DoesInStore region (calls.Database (Find name)) (reply_of (λ db. replies.Database db)
    result) region → is_ok result ≡ true → IsTaken (store_of region.bytes) 0 name
taken_found region name (Err refusal) does is = absurd cc
taken_found region name (Ok db) does is =
    by (with_number (store_of region.bytes) db.0) refl does.step.1.0 where
      by : (o : Option StoredDatabase) → with_number (store_of region.bytes) db.0 ≡ o
          → OfDatabase o (λ database. database.header.name ≡ name)
          → IsTaken (store_of region.bytes) 0 name
      by None e named = absurd named
      by (Some one) e named =
          let stands = found_stands db.0 (store_of region.bytes).databases one e in
          let some = number_some region.bytes db.0 does.before (ap is_some e) in
          let number = stands.0 in
          let at = stands.1 in (
            at.0,
            one,
            slice_get_within (store_of region.bytes).databases at.0 one at.1,
            get_or_from_slice_get (store_of region.bytes).databases at.0 one one at.1,
            ((λ zero_is. omega arith), named),
          )

pub free_found : (region : Memory) (name : List ℕ) (result : Result Db Refusal) → DoesInStore region
    (calls.Database (Find name)) (reply_of (λ db. replies.Database db) result) region
    → is_ok result ≡ false → IsTaken (store_of region.bytes) 0 name → ⊥
free_found region name (Ok db) does is taken = absurd cc
free_found region name (Err refusal) does is taken = elim does.step.0 [
  | inl none ↦
      let all = map-All (λ other. other ≢ name) (λ (one : StoredDatabase). one.database.header.name)
      (store_of region.bytes).databases none.0 in
      all taken.0 taken.1 taken.2
      (ap (λ (one : StoredDatabase). one.database.header.name) taken.3 ∙ taken.4.1)
  | inr other ↦ other.1
]

pub count_is : (region : Memory) (count : ℕ)
    → DoesInStore region (calls.Database Count) (replies.Number count) region
    → count ≡ length (store_of region.bytes).databases
count_is region count does = does.step.1.0
