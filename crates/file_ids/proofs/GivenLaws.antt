-- The IDs that records are given: those that are kept, with the fresh ones between them, and their
-- properties.
use Rattle.std.proofs.Common.{◌≡◌, ℕ, ◌<◌, ◌≤◌, Bool, true, false, cond, List, [], ◌∷◌, length, map, get_or, Option, Some, None, refl, sym, ap, subst, ◌∙◌, arith, inl, inr}
use Rattle.std.specs.Prelude.{All, unwrap_or}
use Rattle.std.specs.List.{cons_option, filter_map, range_with_len}
use Rattle.std.proofs.lemmas.Bool.{cases_eq, cases_lt}
use Rattle.std.proofs.lemmas.List.Elements.{All-nil, All-cons, All-head, All-tail}
use Rattle.std.proofs.lemmas.List.FromFn.{length-map-range_with_len, get_or-map-range_with_len}
use Rattle.heap_model.specs.Lists.{times, Distinct, numbered}
use Rattle.heap_model.specs.Database.{resources_in, entry_count_in, entry_offset, entry_at, entry_in, database_in}
use Rattle.heap_model.specs.Store.{unique_id, unique_ids}
use Rattle.heap_model.specs.UniqueIds.{greatest_id}
use Rattle.heap_model.specs.Files.{keeps_id, kept_ids, AreGiven, HaveIds}
use Rattle.laws_heap.proofs.Tests.{cond-true, cond-false, true_or_false}
use Rattle.laws_store.proofs.Times.{same-yes, same-no, times-cons, times-distinct}
use Rattle.laws_store.proofs.Fresh.{fresh_fits}
use Rattle.file_ids.specs.Passes.{kept_or_none, ZerosGetFresh}
use Rattle.file_ids.proofs.KeptLaws.{kept_is_new, times-kept_yes, times-kept_no, kept_once}

-- ---- the IDs in a file

-- the ID of the record of an index
abbrev id_of : List ℕ → ℕ → ℕ
id_of file index = unwrap_or (unique_id (entry_in file index)) 0

record_has : (kind : Bool) (file : List ℕ) (at : ℕ) → kind ≡ false → unique_id (entry_at kind file at) ≡ Some (unwrap_or (unique_id (entry_at kind file at)) 0)
record_has true file at records = absurd cc
record_has false file at records = refl

resource_has : (kind : Bool) (file : List ℕ) (at : ℕ) → kind ≡ true → unique_id (entry_at kind file at) ≡ None
resource_has true file at resources = refl
resource_has false file at resources = absurd cc

ids_of_records : (file indexes : List ℕ) → resources_in file ≡ false → filter_map unique_id (map (entry_in file) indexes) ≡ map (id_of file) indexes
ids_of_records file [] records = refl
ids_of_records file (index ∷ indexes) records =
    ap (λ (o : Option ℕ). cons_option o (filter_map unique_id (map (entry_in file) indexes))) (record_has (resources_in file) file (entry_offset (resources_in file) index) records)
    ∙ ap (λ (xs : List ℕ). id_of file index ∷ xs) (ids_of_records file indexes records)

ids_of_resources : (file indexes : List ℕ) → resources_in file ≡ true → filter_map unique_id (map (entry_in file) indexes) ≡ []
ids_of_resources file [] resources = refl
ids_of_resources file (index ∷ indexes) resources =
    ap (λ (o : Option ℕ). cons_option o (filter_map unique_id (map (entry_in file) indexes))) (resource_has (resources_in file) file (entry_offset (resources_in file) index) resources)
    ∙ ids_of_resources file indexes resources

pub no_ids : (file : List ℕ) → resources_in file ≡ true → unique_ids (database_in file) ≡ []
unfolding database_in
no_ids file resources = ids_of_resources file (range_with_len 0 (entry_count_in file)) resources

unique_ids_are : (file : List ℕ) → resources_in file ≡ false → unique_ids (database_in file) ≡ numbered (id_of file) (entry_count_in file)
unfolding database_in
unique_ids_are file records = ids_of_records file (range_with_len 0 (entry_count_in file)) records

pub id_count : (file : List ℕ) → resources_in file ≡ false → length (unique_ids (database_in file)) ≡ entry_count_in file
id_count file records = ap (length {A = ℕ}) (unique_ids_are file records) ∙ length-map-range_with_len (id_of file) 0 (entry_count_in file)

pub id_there : (file : List ℕ) (index id : ℕ) → resources_in file ≡ false → index < entry_count_in file → Some id ≡ unique_id (entry_in file index) → get_or (unique_ids (database_in file)) index 0 ≡ id
id_there file index id records inside is =
    ap (λ (xs : List ℕ). get_or xs index 0) (unique_ids_are file records)
    ∙ get_or-map-range_with_len (id_of file) 0 (entry_count_in file) index index 0 inside (omega arith)
    ∙ ap (λ (o : Option ℕ). unwrap_or o 0) (sym is)

-- ---- the two passes together

pub filled_given : (taken earlier : List ℕ) (seed : ℕ) (ids given : List ℕ) (last_seed : ℕ) → ZerosGetFresh taken seed (kept_or_none earlier ids) given last_seed → AreGiven taken earlier seed ids given last_seed
filled_given taken earlier seed [] [] last_seed filled = filled
filled_given taken earlier seed [] (one ∷ given) last_seed filled = filled
filled_given taken earlier seed (id ∷ ids) [] last_seed filled = filled
filled_given taken earlier seed (id ∷ ids) (one ∷ given) last_seed filled = elim (true_or_false (keeps_id earlier id)) [
  | inl keeps ↦
      let here : cond (keeps_id earlier id) id 0 ≡ id = cond-true (keeps_id earlier id) id 0 keeps in
      elim filled [
        | inl stays ↦ inl (keeps, stays.1 ∙ here, filled_given taken (id ∷ earlier) seed ids given last_seed stays.2)
        | inr fresh ↦ absurd ((kept_is_new earlier id keeps).0 (sym here ∙ fresh.0))
      ]
  | inr passes ↦ elim filled [
    | inl stays ↦ absurd (stays.0 (cond-false (keeps_id earlier id) id 0 passes))
    | inr fresh ↦ inr (passes, fresh.1, filled_given (one ∷ taken) (id ∷ earlier) one ids given last_seed fresh.2)
  ]
]

-- ---- what holds of them

pub given_fit : (taken : List ℕ) (seed : ℕ) (ids given : List ℕ) (last_seed : ℕ) → seed ≤ greatest_id → All (λ id. id ≤ greatest_id) ids → ZerosGetFresh taken seed ids given last_seed → All (λ id. (0 < id) × (id ≤ greatest_id)) given
given_fit taken seed [] [] last_seed least most filled = All-nil (λ id. (0 < id) × (id ≤ greatest_id))
given_fit taken seed [] (one ∷ given) last_seed least most filled = absurd filled
given_fit taken seed (id ∷ ids) [] last_seed least most filled = absurd filled
given_fit taken seed (id ∷ ids) (one ∷ given) last_seed least most filled =
    let here = All-head (λ q. q ≤ greatest_id) id ids most in
    let rest = All-tail (λ q. q ≤ greatest_id) id ids most in
    elim filled [
      | inl stays ↦
          let some = stays.0 in
          let is = stays.1 in
          All-cons (λ q. (0 < q) × (q ≤ greatest_id)) one given (omega arith, omega arith) (given_fit taken seed ids given last_seed least rest stays.2)
      | inr fresh ↦
          let fits = fresh_fits taken seed one least fresh.1 in
          All-cons (λ q. (0 < q) × (q ≤ greatest_id)) one given (fits.0, fits.1) (given_fit (one ∷ taken) one ids given last_seed fits.1 rest fresh.2)
    ]

-- Each is given once at most, and one that is taken is given only if it is kept.
given_once : (q : ℕ) (taken earlier : List ℕ) (seed : ℕ) (ids given : List ℕ) (last_seed : ℕ) → ((kept : ℕ) → 0 < times kept (kept_ids earlier ids) → 0 < times kept taken) → AreGiven taken earlier seed ids given last_seed
    → (times q given ≤ 1) × (0 < times q taken → times q given ≤ times q (kept_ids earlier ids))
given_once q taken earlier seed [] [] last_seed known g = (omega arith, λ here. omega arith)
given_once q taken earlier seed [] (one ∷ given) last_seed known g = absurd g
given_once q taken earlier seed (id ∷ ids) [] last_seed known g = absurd g
given_once q taken earlier seed (id ∷ ids) (one ∷ given) last_seed known g =
    let cons = times-cons q one given in
    elim g [
      | inl keeps ↦
          let count = times-kept_yes q earlier ids id keeps.0 in
          let ih = given_once q taken (id ∷ earlier) seed ids given last_seed (λ kept some. (let more = times-kept_yes kept earlier ids id keeps.0 in known kept (omega arith))) keeps.2 in
          let few = ih.0 in
          let head = times-cons q id [] in
          elim (cases_eq id q) [
            | inl e ↦
                let here = same-yes id q e in
                let also = same-yes one q (keeps.1 ∙ e) in
                let before = times-cons q id earlier in
                let none = (kept_once q (id ∷ earlier) ids).1 (omega arith) in
                let rest = ih.1 (known q (omega arith)) in
                (omega arith, λ is_taken. omega arith)
            | inr ne ↦
                let other = same-no id q ne in
                let also = same-no one q (λ e. ne (sym keeps.1 ∙ e)) in
                (omega arith, λ is_taken. (let rest = ih.1 is_taken in omega arith))
          ]
      | inr fresh ↦
          let count = times-kept_no q earlier ids id fresh.0 in
          let more = times-cons q one taken in
          let ih = given_once q (one ∷ taken) (id ∷ earlier) one ids given last_seed (λ kept some. (
          let same_count = times-kept_no kept earlier ids id fresh.0 in
          let was = known kept (omega arith) in
          let one_more = times-cons kept one taken in
          omega arith)) fresh.2 in
          let few = ih.0 in
          elim (cases_eq one q) [
            | inl e ↦
                let here = same-yes one q e in
                let new : times q taken ≡ 0 = ap (λ (n : ℕ). times n taken) (sym e ∙ fresh.1.is) ∙ fresh.1.first.here in
                let rest = ih.1 (omega arith) in
                let none : times q (kept_ids earlier (id ∷ ids)) ≡ 0 = elim (cases_lt 0 (times q (kept_ids earlier (id ∷ ids)))) [
                  | inl kept ↦ let was = known q kept in absurd (omega arith)
                  | inr past ↦ omega arith
                ] in
                (omega arith, λ is_taken. absurd (omega arith))
            | inr ne ↦
                let other = same-no one q ne in
                (omega arith, λ is_taken. (let rest = ih.1 (omega arith) in omega arith))
          ]
    ]

pub given_distinct : (seed : ℕ) (ids given : List ℕ) (last_seed : ℕ) → AreGiven (kept_ids [] ids) [] seed ids given last_seed → Distinct given
given_distinct seed ids given last_seed g = times-distinct given (λ q. (given_once q (kept_ids [] ids) [] seed ids given last_seed (λ kept some. some) g).0)

-- what both passes give
pub both_passes : (seed : ℕ) (ids kept given : List ℕ) (last_seed : ℕ) → kept ≡ kept_or_none [] ids → ZerosGetFresh (kept_ids [] ids) seed kept given last_seed → HaveIds seed ids given last_seed
both_passes seed ids kept given last_seed is filled = filled_given (kept_ids [] ids) [] seed ids given last_seed (subst (λ (xs : List ℕ). ZerosGetFresh (kept_ids [] ids) seed xs given last_seed) is filled)
