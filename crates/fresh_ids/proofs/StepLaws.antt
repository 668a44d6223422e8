-- Steps after a seed: those that a set has, and the first that is free.
use Rattle.std.proofs.Common.{◌≡◌, ℕ, ◌+◌, ◌*◌, ◌<◌, ◌≤◌, List, [], ◌∷◌, length, Some, refl, sym, ap, subst, ◌∙◌, arith, inl, inr}
use Rattle.std.proofs.lemmas.Bool.{cases_eq, cases_lt}
use Rattle.std.proofs.lemmas.List.FromFn.{length-map-range_with_len}
use Rattle.std.specs.Prelude.{◌↔◌}
use Rattle.std.specs.List.{filter_map}
use Rattle.heap_model.specs.Bytes.{u32_at}
use Rattle.heap_model.specs.DatabaseFields.{seed_at}
use Rattle.heap_model.specs.Lists.{times, numbered}
use Rattle.heap_model.specs.Database.{Entry, a_record, a_resource, IsSpelled, header_in, entry_in, entry_count_in, database_in}
use Rattle.heap_model.specs.Store.{unique_id, unique_ids}
use Rattle.heap_model.specs.EntrySteps.{most_entries}
use Rattle.heap_model.specs.UniqueIds.{id_behind, IsFresh, seed_in}
use Rattle.laws_store.proofs.Fresh.{id_behind_is, id_behind_fits, fresh_exists}
use Rattle.laws_store.proofs.RecordIds.{ids_upto, ids_index, index_ids}
use Rattle.laws_store.proofs.Shapes.{spelled_shape}
use Rattle.db_format.specs.Headers.{AreWholeBytes}
use Rattle.bit_sets.specs.Sets.{IsInSet, AddsNumber, IsFirstMissing}
use Rattle.fresh_ids.specs.Steps.{IsTakenBefore, HasTaken, IsFreeStep, IsFirstFree}

-- ---- one ID

-- the ID of a step is no other's
steps_once : (seed one other : ℕ) → seed ≤ 0xFFFFFF → one < 0xFFFFFF → other < 0xFFFFFF → id_behind seed one ≡ id_behind seed other → one ≡ other
steps_once seed one other most below less e =
    let a = id_behind_is seed one most in
    let b = id_behind_is seed other most in
    omega arith

pub some_same : (one other : ℕ) → Some one ≡ Some other → one ≡ other
some_same one other e = cc

-- ---- one record more

earlier_more : (body : List ℕ) (seed index steps : ℕ) → IsTakenBefore body seed index steps → IsTakenBefore body seed (index + 1) steps
earlier_more body seed index steps t = (t.0, (let below = t.1 in omega arith), t.2)

more_earlier : (body : List ℕ) (seed index steps : ℕ) → (unique_id (entry_in body index) ≡ Some (id_behind seed steps) → ⊥) → IsTakenBefore body seed (index + 1) steps → IsTakenBefore body seed index steps
more_earlier body seed index steps none t = elim (cases_lt t.0 index) [
  | inl less ↦ (t.0, less, t.2)
  | inr last ↦
      let below = t.1 in
      let e : t.0 ≡ index = omega arith in
      absurd (none (sym (ap (λ (i : ℕ). unique_id (entry_in body i)) e) ∙ t.2))
]

-- it has no ID for which the set has room
taken_none : (body taken : List ℕ) (seed index : ℕ) → ((steps : ℕ) → steps < 8 * length taken → unique_id (entry_in body index) ≡ Some (id_behind seed steps) → ⊥) → HasTaken body seed taken index → HasTaken body seed taken (index + 1)
taken_none body taken seed index none h = record {
  are = λ steps room. (
    λ has. earlier_more body seed index steps ((h.are steps room).0 has),
    λ t. (h.are steps room).1 (more_earlier body seed index steps (none steps room) t),
  );
}

pub taken_zero : (body taken : List ℕ) (seed index id : ℕ) → seed ≤ 0xFFFFFF → Some id ≡ unique_id (entry_in body index) → id ≡ 0 → HasTaken body seed taken index → HasTaken body seed taken (index + 1)
taken_zero body taken seed index id most is zero_id h = taken_none body taken seed index (λ steps room e. (
    let same = some_same id (id_behind seed steps) (is ∙ e) in
    let fits = id_behind_fits seed steps most in
    let some = fits.0 in
    omega arith)) h

pub taken_far : (body taken : List ℕ) (seed index id far : ℕ) → seed ≤ 0xFFFFFF → length taken ≤ 8192 → Some id ≡ unique_id (entry_in body index) → id_behind seed far ≡ id → far < 0xFFFFFF → 8 * length taken ≤ far → HasTaken body seed taken index → HasTaken body seed taken (index + 1)
taken_far body taken seed index id far most small is behind below past h = taken_none body taken seed index (λ steps room e. (
    let same = some_same id (id_behind seed steps) (is ∙ e) in
    let once = steps_once seed far steps most below (omega arith) (behind ∙ same) in
    omega arith)) h

pub taken_near : (body old new : List ℕ) (seed index id near : ℕ) → seed ≤ 0xFFFFFF → length old ≤ 8192 → length new ≡ length old → Some id ≡ unique_id (entry_in body index) → id_behind seed near ≡ id → near < 8 * length old
    → AddsNumber old new near → HasTaken body seed old index → HasTaken body seed new (index + 1)
taken_near body old new seed index id near most small len is behind room adds h = record {
  are = λ steps within. elim (cases_eq steps near) [
    | inl e ↦ (
      λ has. (index, omega arith, sym is ∙ ap (λ (n : ℕ). Some n) (sym behind ∙ ap (id_behind seed) (sym e))),
      λ t. subst (IsInSet new) (sym e) adds.here,
    )
    | inr ne ↦
        let kept = adds.others steps ne in
        let were = h.are steps (omega arith) in (
          λ has. earlier_more body seed index steps (were.0 (kept.0 has)),
          λ t. kept.1 (were.1 (more_earlier body seed index steps (λ f. ne (sym (steps_once seed near steps most (omega arith) (omega arith) (behind ∙ some_same id (id_behind seed steps) (is ∙ f))))) t)),
        )
  ];
}

-- ---- all records

free_missing : (body taken : List ℕ) (seed steps : ℕ) → HasTaken body seed taken (entry_count_in body) → steps < 8 * length taken → (IsFreeStep body seed steps ↔ (IsInSet taken steps → ⊥))
unfolding database_in
free_missing body taken seed steps h room = (
  λ free has. (
      let t = (h.are steps room).0 has in
      let some = index_ids (entry_in body) (id_behind seed steps) (entry_count_in body) t.0 t.1 t.2 in
      omega arith),
  λ missing. elim (cases_lt 0 (times (id_behind seed steps) (ids_upto (entry_in body) (entry_count_in body)))) [
    | inl some ↦ absurd (missing ((h.are steps room).1 (ids_index (entry_in body) (id_behind seed steps) (entry_count_in body) some)))
    | inr none ↦ omega arith
  ],
)

pub first_within : (body taken : List ℕ) (seed steps : ℕ) → HasTaken body seed taken (entry_count_in body) → IsFirstMissing taken steps → steps < 8 * length taken → IsFirstFree body seed steps
first_within body taken seed steps h m room = record {
  here = (free_missing body taken seed steps h room).1 m.here;
  none_below = λ other less free. m.none_below other less ((free_missing body taken seed other h (omega arith)).0 free);
}

-- if the set has room for one step more than there are records, it misses one
missing_within : (body taken : List ℕ) (seed steps : ℕ) → seed ≤ 0xFFFFFF → length (unique_ids (database_in body)) < most_entries → length taken ≡ 8192 → HasTaken body seed taken (entry_count_in body) → IsFirstMissing taken steps → steps < 8 * length taken
missing_within body taken seed steps most few len h m = elim (cases_lt steps (8 * length taken)) [
  | inl less ↦ less
  | inr past ↦ absurd (fresh_exists (unique_ids (database_in body)) seed most (omega arith) (λ n within. elim (cases_lt 0 (times (id_behind seed n) (unique_ids (database_in body)))) [
    | inl some ↦ some
    | inr none ↦ absurd (m.none_below n (omega arith) ((free_missing body taken seed n h (omega arith)).0 (omega arith)))
  ]))
]

-- ---- the database that bytes spell

pub whole_spelled : (body : List ℕ) → IsSpelled (database_in body) body → AreWholeBytes body
whole_spelled body spells = let shape = spelled_shape (database_in body) body spells in record { header = shape.header; next_list = shape.next_list; ends = shape.ends }

ids_few : (entries : List (Entry ℕ)) → length (filter_map unique_id entries) ≤ length entries
ids_few [] = omega arith
ids_few (a_record attributes id slot ∷ entries) = let ih = ids_few entries in omega arith
ids_few (a_resource kind id slot ∷ entries) = let ih = ids_few entries in omega arith

pub ids_counted : (body : List ℕ) → length (unique_ids (database_in body)) ≤ entry_count_in body
unfolding database_in
ids_counted body =
    let few = ids_few (numbered (entry_in body) (entry_count_in body)) in
    let len = length-map-range_with_len (entry_in body) 0 (entry_count_in body) in
    omega arith

seed_read : (body : List ℕ) → (database_in body).header.seed ≡ u32_at body seed_at
unfolding database_in header_in
seed_read body = refl

pub fresh_here : (body : List ℕ) (field seed steps id : ℕ) → field ≡ u32_at body seed_at → seed ≡ seed_in field → IsFirstFree body seed steps → id ≡ id_behind seed steps
    → IsFresh (unique_ids (database_in body)) (seed_in (database_in body).header.seed) id
fresh_here body field seed steps id read low first is =
    let same : seed ≡ seed_in (database_in body).header.seed = low ∙ ap seed_in (read ∙ sym (seed_read body)) in
    let fresh : IsFresh (unique_ids (database_in body)) seed id = record { behind = steps; first = first; is = is } in
    subst (λ (s : ℕ). IsFresh (unique_ids (database_in body)) s id) same fresh

-- a set with room for all records has the first that is free
pub first_of_all : (body taken : List ℕ) (seed steps : ℕ) → seed ≤ 0xFFFFFF → entry_count_in body < most_entries → length taken ≡ 8192 → HasTaken body seed taken (entry_count_in body) → IsFirstMissing taken steps → (steps < 0xFFFFFF) × IsFirstFree body seed steps
first_of_all body taken seed steps most few len h m =
    let ids = ids_counted body in
    let within = missing_within body taken seed steps most (omega arith) len h m in
    (omega arith, first_within body taken seed steps h m within)
