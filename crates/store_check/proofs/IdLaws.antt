-- A walk over the records of databases finds the first bad ID, by the set of the IDs before it.
use Rattle.store_check.proofs.Terms.{◌≡◌, ℕ, ◌+◌, ◌/◌, ◌^◌, ◌<◌, ◌≤◌, List, Some, sym, ap, subst, ◌∙◌, arith, inl, inr, lit<, ◌⊎◌, cases_lt, Least, LeastPair, listed_count, header_at, id_at, HasBadId, IsBadId, HasNone, HasIdsUpTo, HasRoomForIds, HasRoomForAll, HasIdsBefore}

-- ---- a walk over records

-- none of the records so far has a bad ID, and their IDs are in the set
pub record Walked (bytes seen : List ℕ) (index : ℕ) : Type 0 where
  pub none_bad : (earlier : ℕ) → earlier < index → HasBadId bytes earlier → ⊥
  pub ids : HasIdsBefore bytes seen index

-- ---- the greatest ID

-- the greatest of an ID and those of the records so far
pub record GreatestIn (bytes : List ℕ) (least index greatest : ℕ) : Type 0 where
  pub ids : (earlier id : ℕ) → earlier < index → id_at bytes earlier ≡ Some id → id ≤ greatest
  pub above : least ≤ greatest
  pub small : greatest < 2 ^ 24

pub greatest_in : (bytes : List ℕ) (least index greatest id new : ℕ) → Some id ≡ id_at bytes index
    → id < 2 ^ 24 → id ≤ new → greatest ≤ new → new < 2 ^ 24 → GreatestIn bytes least index greatest
    → GreatestIn bytes least (index + 1) new
greatest_in bytes least index greatest id new is fits here there small g = record {
  ids = λ earlier other below e. elim (cases_lt earlier index) [
    | inl less ↦ let most = g.ids earlier other less e in omega arith
    | inr last ↦ let at : index ≡ earlier = omega arith in
        let same : Some id ≡ Some other = is ∙ ap (id_at bytes) at ∙ e in
        let one : id ≡ other = cc in
        omega arith
  ];
  above = let low = g.above in omega arith;
  small = small;
}

-- the greatest ID of the databases so far
pub record GreatestSoFar (image : List ℕ) (db greatest : ℕ) : Type 0 where
  pub ids : (earlier : ℕ) → earlier < db → HasIdsUpTo (header_at image earlier) greatest
  pub small : greatest < 2 ^ 24

pub no_greatest : (image : List ℕ) → GreatestSoFar image 0 0
no_greatest image = record { ids = λ earlier below. absurd (omega arith); small = lit< tt }

pub greatest_more : (image bytes : List ℕ) (db greatest new : ℕ) → bytes ≡ header_at image db
    → HasIdsUpTo bytes new → greatest ≤ new → new < 2 ^ 24 → GreatestSoFar image db greatest
    → GreatestSoFar image (db + 1) new
greatest_more image bytes db greatest new is up low small g = record {
  ids = λ earlier below index id inside e. elim (cases_lt earlier db) [
    | inl less ↦ let most = g.ids earlier less index id inside e in omega arith
    | inr last ↦ let at : db ≡ earlier = omega arith in
        let here : HasIdsUpTo (header_at image earlier) new =
        rw (is ∙ ap (header_at image) at) at up in
        here index id inside e
  ];
  small = small;
}

pub greatest_all : (image : List ℕ) (db greatest : ℕ) → db ≡ listed_count image
    → GreatestSoFar image db greatest → (earlier : ℕ) → earlier < listed_count image
    → HasIdsUpTo (header_at image earlier) greatest
greatest_all image db greatest all g earlier below = g.ids earlier (omega arith)

-- ---- room in a set

-- if no ID is above the greatest, a set that has room for that has room for all
pub room_for_all : (image : List ℕ) (greatest size : ℕ)
    → ((db : ℕ) → db < listed_count image → HasIdsUpTo (header_at image db) greatest)
    → greatest / 8 < size → HasRoomForAll image size
room_for_all image greatest size up room db below index id inside e = let most =
    up db below index id inside e in omega arith

pub room_here : (image bytes : List ℕ) (db size : ℕ) → bytes ≡ header_at image db
    → db < listed_count image → HasRoomForAll image size → HasRoomForIds bytes size
room_here image bytes db size is below room = rw (← is) at (room db below)

-- ---- all databases

-- none of the databases so far has a bad ID, and the set is empty
pub record NoneBad (image seen : List ℕ) (db : ℕ) : Type 0 where
  pub empty : HasNone seen
  pub none_bad : (earlier : ℕ) → earlier < db → (index : ℕ) → IsBadId image earlier index → ⊥

pub bad_first : (image bytes seen : List ℕ) (db index : ℕ) → bytes ≡ header_at image db
    → db < listed_count image → Least (HasBadId bytes) index → NoneBad image seen db
    → LeastPair (IsBadId image) db index
bad_first image bytes seen db index is below l n = record {
  here = (below, subst (λ (b : List ℕ). HasBadId b index) is l.here);
  none_before = n.none_bad;
  none_below = λ other less bad. l.none_below other less (rw (← is) at bad.1);
}

pub bad_more : (image bytes seen new : List ℕ) (db : ℕ) → bytes ≡ header_at image db
    → ((index : ℕ) → HasBadId bytes index → ⊥) → HasNone new → NoneBad image seen db
    → NoneBad image new (db + 1)
bad_more image bytes seen new db is none empty n = record {
  empty = empty;
  none_bad = λ earlier below index bad. elim (cases_lt earlier db) [
    | inl less ↦ n.none_bad earlier less index bad
    | inr last ↦ let e : earlier ≡ db = omega arith in
        let here = subst (λ (k : ℕ). IsBadId image k index) e bad in
        none index (subst (λ (b : List ℕ). HasBadId b index) (sym is) here.1)
  ];
}

-- ---- rising IDs

-- the IDs of the records so far rise, the last of them is the greatest, and 0 stands for the last
-- of none
pub record Risen (bytes : List ℕ) (index last : ℕ) : Type 0 where
  pub above : (later id : ℕ) → later < index → id_at bytes later ≡ Some id → (0 < id)
      × ((earlier other : ℕ) → earlier < later → id_at bytes earlier ≡ Some other → other < id)
  pub greatest : (earlier id : ℕ) → earlier < index → id_at bytes earlier ≡ Some id → id ≤ last
  pub reached : (last ≡ 0) ⊎ ((earlier : ℕ) × (earlier < index) × (id_at bytes earlier ≡ Some last))
