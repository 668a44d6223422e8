-- A fixed chunk of the manager's, and a table in it, lie within the image at their offsets.
use Rattle.heap_check.proofs.Words.{◌≡◌, ℕ, ◌+◌, ◌-◌, ◌*◌, ◌%◌, ◌<◌, ◌≤◌, List, [], ◌∷◌, length, subst, arith, inl, inr, Chunk, free, movable, fixed, size_of, IsLive, Spelled, SpelledAll, AnyPlaced, Table, TableHere, Spelled-size, HasLive, ManagersBody}

-- ---- the body of a fixed chunk of the manager's

-- where it is, and which table it would be
pub record BodyFacts (image : List ℕ) (at : ℕ) (cs : List Chunk) (place : ℕ) : Type 0 where
  pub bytes : List ℕ
  pub live : IsLive image (place - 8) bytes 15 0 0
  pub low : 8 ≤ place
  pub table : (count : ℕ) → length bytes ≡ 4 + 4 * count → 0 < count
      → AnyPlaced (TableHere record { place = place; count = count }) at cs

pub body_facts : (image : List ℕ) (at : ℕ) (cs : List Chunk) (end place : ℕ)
    → SpelledAll image at cs end → AnyPlaced (ManagersBody place) at cs
    → BodyFacts image at cs place
body_facts image at [] end place s h = absurd h
body_facts image at (c ∷ cs) end place s h = elim h [
  | inl own ↦ here c s.0 own
  | inr later ↦
      let f = body_facts image (at + size_of c) cs end place s.1 later in
      record {
        bytes = f.bytes;
        live = f.live;
        low = f.low;
        table = λ count long some. inr (f.table count long some);
      }
] where
  here : (d : Chunk) → Spelled image at d → ManagersBody place at d
      → BodyFacts image at (d ∷ cs) place
  here (free size) s own = absurd own
  here (movable bytes lock owner slot) s own = absurd own
  here (fixed bytes owner) s own =
      let there = own.1 in
      let e : at ≡ place - 8 = omega arith in
      record {
        bytes = bytes;
        live = subst (λ (n : ℕ). IsLive image n bytes 15 0 0) e
            (subst (λ (v : ℕ). IsLive image at bytes 15 v 0) own.0 s);
        low = omega arith;
        table = λ count long some. inl (own.0, own.1, long, some);
      }

-- ---- a table

pub record TableFacts (image : List ℕ) (table : Table) : Type 0 where
  pub bytes : List ℕ
  pub live : IsLive image (table.place - 8) bytes 15 0 0
  pub low : 8 ≤ table.place
  pub whole : table.place % 8 ≡ 0
  pub inside : table.place + 8 ≤ length image
  pub long : length bytes ≡ 4 + 4 * table.count
  pub some : 0 < table.count

pub table_facts : (image : List ℕ) (at : ℕ) (cs : List Chunk) (end : ℕ) (table : Table)
    → SpelledAll image at cs end → at % 8 ≡ 0 → AnyPlaced (TableHere table) at cs
    → TableFacts image table
table_facts image at [] end table s eights h = absurd h
table_facts image at (c ∷ cs) end table s eights h = elim h [
  | inl own ↦ here c s.0 own
  | inr later ↦ let size = (Spelled-size image at c s.0).2 in
      table_facts image (at + size_of c) cs end table s.1 (omega arith) later
] where
  here : (d : Chunk) → Spelled image at d → TableHere table at d → TableFacts image table
  here (free size) s own = absurd own
  here (movable bytes lock owner slot) s own = absurd own
  here (fixed bytes owner) s own =
      let there = own.1 in
      let long = own.2 in
      let some = own.3 in
      let inside = s.inside in
      let e : at ≡ table.place - 8 = omega arith in
      record {
        bytes = bytes;
        live = subst (λ (n : ℕ). IsLive image n bytes 15 0 0) e
            (subst (λ (v : ℕ). IsLive image at bytes 15 v 0) own.0 s);
        low = omega arith;
        whole = omega arith;
        inside = omega arith;
        long = long;
        some = some;
      }

-- it is a fixed chunk of the manager's
pub table_body : (table : Table) (at : ℕ) (cs : List Chunk) → AnyPlaced (TableHere table) at cs
    → AnyPlaced (ManagersBody table.place) at cs
table_body table at [] h = absurd h
table_body table at (c ∷ cs) h = elim h [
  | inl own ↦ inl (here c own)
  | inr later ↦ inr (table_body table (at + size_of c) cs later)
] where
  here : (d : Chunk) → TableHere table at d → ManagersBody table.place at d
  here (free size) own = absurd own
  here (movable bytes lock owner slot) own = absurd own
  here (fixed bytes owner) own = (own.0, own.1)

pub body_live : (image : List ℕ) (at : ℕ) (cs : List Chunk) (place : ℕ)
    → BodyFacts image at cs place → HasLive image (place - 8)
body_live image at cs place f =
    record { bytes = f.bytes; lock = 15; owner = 0; h_offset = 0; is = f.live }
