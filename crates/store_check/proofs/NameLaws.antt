-- A walk over the names of databases finds the first name that is an earlier one's.
use Rattle.store_check.proofs.Terms.{◌≡◌, ℕ, ◌+◌, ◌<◌, List, take, sym, ap, subst, ◌∙◌, arith, inl, inr, cases_eq, cases_lt, ◌↔◌, name_field, name_in, HasName, IsInSet, AddsNumber, listed_count, header_at, IsSameName, same_name_faults, NoneBrought, HaveNames, field_number, name_number, HasNamesBefore}
use Rattle.laws_store.proofs.Names.{name_read}
use Rattle.store_check.proofs.PassLaws.{none_more}

-- two names are the same if their fields are
pub same_fields : (one other : List ℕ) → HasName one → HasName other
    → ((take 32 one ≡ take 32 other) ↔ (name_in one ≡ name_in other))
same_fields one other h g = (
  λ e. name_read (name_in other) one g.name (e ∙ g.field),
  λ e. h.field ∙ ap name_field e ∙ sym g.field,
)

-- and so are their numbers
same_numbers : (one other : List ℕ) → HasName one → HasName other → name_in one ≡ name_in other
    → name_number one ≡ name_number other
same_numbers one other h g same = ap field_number ((same_fields one other h g).1 same)

-- a name whose number isn't in the set is no earlier one
pub other_name : (image seen : List ℕ) (db number : ℕ) → HaveNames image
    → number ≡ name_number (header_at image db) → HasNamesBefore image seen db
    → (IsInSet seen number → ⊥) → IsSameName image db → ⊥
other_name image seen db number names is before none bad =
    let below : db < listed_count image = bad.0 in
    let same = bad.1 in
    let less : same.0 < db = same.1 in
    let first : same.0 < listed_count image = omega arith in
    let e : name_number (header_at image same.0) ≡ number =
    same_numbers _ _ (names.names same.0 first) (names.names db below) same.2 ∙ sym is in
    none (subst (IsInSet seen) e (before same.0 less))

-- the names so far: none is an earlier one's, and their numbers are in the set
pub record NamesSoFar (image seen : List ℕ) (db : ℕ) : Type 0 where
  pub none_same : (earlier : ℕ) → earlier < db → IsSameName image earlier → ⊥
  pub numbers : HasNamesBefore image seen db

pub names_more : (image seen new : List ℕ) (db number : ℕ)
    → number ≡ name_number (header_at image db) → AddsNumber seen new number
    → (IsSameName image db → ⊥) → NamesSoFar image seen db → NamesSoFar image new (db + 1)
names_more image seen new db number is adds good so_far = record {
  none_same = none_more (IsSameName image) db good so_far.none_same;
  numbers = λ earlier below. elim (cases_lt earlier db) [
    | inl less ↦ elim (cases_eq (name_number (header_at image earlier)) number) [
      | inl e ↦ subst (IsInSet new) (sym e) adds.here
      | inr ne ↦
          (adds.others (name_number (header_at image earlier)) ne).1 (so_far.numbers earlier less)
    ]
    | inr last ↦ let e : db ≡ earlier = omega arith in
        subst (IsInSet new) (is ∙ ap (λ (k : ℕ). name_number (header_at image k)) e) adds.here
  ];
}

pub same_none : (image : List ℕ) (db : ℕ) → db ≡ listed_count image
    → ((earlier : ℕ) → earlier < db → IsSameName image earlier → ⊥)
    → NoneBrought (same_name_faults image)
same_none image db all none =
    (λ fault row. let bad = row.1.here in none row.0 (let below = bad.0 in omega arith) bad, tt)
