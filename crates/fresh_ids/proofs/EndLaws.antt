-- How far the IDs are free from one on, and the ID next to the seed if it is free.
use Rattle.std.proofs.Common.{◌≡◌, ℕ, ◌<◌, List, sym, ap, ◌∙◌, arith, inl, inr}
use Rattle.std.proofs.lemmas.Bool.{cases_lt}
use Rattle.heap_model.specs.Bytes.{u32_at}
use Rattle.heap_model.specs.DatabaseFields.{seed_at}
use Rattle.heap_model.specs.Lists.{times}
use Rattle.heap_model.specs.Database.{entry_in, entry_count_in, database_in}
use Rattle.heap_model.specs.Store.{unique_ids}
use Rattle.heap_model.specs.UniqueIds.{id_behind, IsFresh, seed_in}
use Rattle.laws_store.proofs.RecordIds.{ids_upto, ids_index, index_ids}
use Rattle.laws_store.proofs.Entries.{fresh_new}
use Rattle.fresh_ids.specs.Steps.{IsEndBefore, IsFirstFree}
use Rattle.fresh_ids.specs.FreeIds.{IsEndOfFree}
use Rattle.fresh_ids.proofs.StepLaws.{fresh_here}

-- ---- the pass over the records

pub end_of_all : (body : List ℕ) (first end : ℕ) → IsEndBefore body first (entry_count_in body) end → IsEndOfFree (unique_ids (database_in body)) first end
unfolding database_in
end_of_all body first end h = record {
  from = h.from;
  free = λ id among. elim (cases_lt 0 (times id (ids_upto (entry_in body) (entry_count_in body)))) [
    | inl some ↦ let t = ids_index (entry_in body) id (entry_count_in body) some in absurd (h.free id t.0 among.0 among.1 t.1 t.2)
    | inr none ↦ omega arith
  ];
  ends = elim h.ends [ inl t ↦ inl (index_ids (entry_in body) end (entry_count_in body) t.0 t.1 t.2) | inr z ↦ inr z ];
}

-- ---- the ID for a new record

-- it is next to the seed, if that ID is free
pub next_fresh : (body : List ℕ) (field seed id : ℕ) → field ≡ u32_at body seed_at → seed ≡ seed_in field → id ≡ id_behind seed 0 → times id (unique_ids (database_in body)) ≡ 0
    → IsFresh (unique_ids (database_in body)) (seed_in (database_in body).header.seed) id
next_fresh body field seed id read low is free =
    let first : IsFirstFree body seed 0 = record { here = ap (λ (n : ℕ). times n (unique_ids (database_in body))) (sym is) ∙ free; none_below = λ other less also. absurd (omega arith) } in
    fresh_here body field seed 0 id read low first is

-- it is before the end that is found after it
pub fresh_more : (ids : List ℕ) (field id end : ℕ) → IsFresh ids (seed_in field) id → IsEndOfFree ids id end → id < end
fresh_more ids field id end fresh is = elim (cases_lt id end) [
  | inl below ↦ below
  | inr not ↦
      let new = fresh_new ids field id fresh in
      let from = is.from in
      let same : end ≡ id = omega (arith, not, from) in
      elim is.ends [
        | inl taken ↦ let none : times end ids ≡ 0 = ap (λ (n : ℕ). times n ids) same ∙ new.2 in absurd (omega (arith, taken, none))
        | inr last ↦ let most = new.1 in absurd (omega (arith, last, same, most))
      ]
]
