-- Chunks that are the same but for the bytes of tables, which have the same lengths. What speaks of
-- no table's bytes holds of both.
use Rattle.laws_heap.proofs.Words.{◌≡◌, ℕ, ◌+◌, List, [], ◌∷◌, ◌++◌, length, Option, refl, sym, ap, subst, ◌∙◌, arith, inl, inr, ◌⊎◌, Chunk, fixed, need, size_of, total, EveryPlaced, AnyPlaced, Table, TableHere, BodyHere, ManagersHere, IsKnownIfFixed, IsFreeAt, live_under, is_fixed_name, place_under}
use Rattle.laws_heap.proofs.Tests.{cond-false}
use Rattle.laws_heap.proofs.FixedNames.{table_unnamed}
use Rattle.laws_heap.proofs.Lives.{or_else, live_first, place_first}

-- both are tables, as long
pub record BothTables (c d : Chunk) : Type 0 where
  pub old : List ℕ
  pub new : List ℕ
  pub was : c ≡ fixed old 0
  pub is : d ≡ fixed new 0
  pub long : length new ≡ length old

-- the chunks are one, or both tables
abbrev pub AlikeChunk : Chunk → Chunk → Type 0
AlikeChunk c d = (c ≡ d) ⊎ BothTables c d

-- the same of each of some chunks
abbrev pub AlikeChunks : List Chunk → List Chunk → Type 0
AlikeChunks [] [] = Unit {0}
AlikeChunks [] (d ∷ ds) = ⊥
AlikeChunks (c ∷ cs) [] = ⊥
AlikeChunks (c ∷ cs) (d ∷ ds) = AlikeChunk c d × AlikeChunks cs ds

pub alike_same : (cs : List Chunk) → AlikeChunks cs cs
alike_same [] = tt
alike_same (c ∷ cs) = (inl refl, alike_same cs)

back_chunk : (c d : Chunk) → AlikeChunk c d → AlikeChunk d c
back_chunk c d a = elim a [
  | inl e ↦ inl (sym e)
  | inr b ↦ inr record { old = b.new; new = b.old; was = b.is; is = b.was; long = sym b.long }
]

pub alike_back : (cs ds : List Chunk) → AlikeChunks cs ds → AlikeChunks ds cs
alike_back [] [] a = tt
alike_back [] (d ∷ ds) a = absurd a
alike_back (c ∷ cs) [] a = absurd a
alike_back (c ∷ cs) (d ∷ ds) a = (back_chunk c d a.0, alike_back cs ds a.1)

pub alike_append : (xs ys us vs : List Chunk) → AlikeChunks xs us → AlikeChunks ys vs
    → AlikeChunks (xs ++ ys) (us ++ vs)
alike_append [] ys [] vs a b = b
alike_append [] ys (u ∷ us) vs a b = absurd a
alike_append (x ∷ xs) ys [] vs a b = absurd a
alike_append (x ∷ xs) ys (u ∷ us) vs a b = (a.0, alike_append xs ys us vs a.1 b)

-- what holds of a table whatever its bytes are holds of both chunks
alike : (P : Chunk → Type 0)
    → ((xs ys : List ℕ) → length ys ≡ length xs → P (fixed xs 0) → P (fixed ys 0)) → (c d : Chunk)
    → AlikeChunk c d → P c → P d
alike P kept c d a p = elim a [
  | inl e ↦ subst P e p
  | inr b ↦ subst P (sym b.is) (kept b.old b.new b.long (subst P b.was p))
]

-- ---- sizes

alike_size : (c d : Chunk) → AlikeChunk c d → size_of d ≡ size_of c
alike_size c d a = alike (λ x. size_of x ≡ size_of c) (λ xs ys e p. ap need e ∙ p) c d a refl

pub alike_total : (cs ds : List Chunk) → AlikeChunks cs ds → total ds ≡ total cs
alike_total [] [] a = refl
alike_total [] (d ∷ ds) a = absurd a
alike_total (c ∷ cs) [] a = absurd a
alike_total (c ∷ cs) (d ∷ ds) a =
    let size = alike_size c d a.0 in
    let rest = alike_total cs ds a.1 in
    omega arith

-- ---- what holds of some chunk, or of each

-- whatever bytes a table has
abbrev pub TellsNoTables : (ℕ → Chunk → Type 0) → Type 0
TellsNoTables P =
    (at : ℕ) (xs ys : List ℕ) → length ys ≡ length xs → P at (fixed xs 0) → P at (fixed ys 0)

pub any_alike : (P : ℕ → Chunk → Type 0) → TellsNoTables P → (at : ℕ) (cs ds : List Chunk)
    → AlikeChunks cs ds → AnyPlaced P at cs → AnyPlaced P at ds
any_alike P kept at [] ds a h = absurd h
any_alike P kept at (c ∷ cs) [] a h = absurd a
any_alike P kept at (c ∷ cs) (d ∷ ds) a h = elim h [
  | inl here ↦ inl (alike (λ x. P at x) (kept at) c d a.0 here)
  | inr later ↦
      inr (rw (← (alike_size c d a.0)) at (any_alike P kept (at + size_of c) cs ds a.1 later))
]

pub every_alike : (P : ℕ → Chunk → Type 0) → TellsNoTables P → (at : ℕ) (cs ds : List Chunk)
    → AlikeChunks cs ds → EveryPlaced P at cs → EveryPlaced P at ds
every_alike P kept at [] [] a h = tt
every_alike P kept at [] (d ∷ ds) a h = absurd a
every_alike P kept at (c ∷ cs) [] a h = absurd a
every_alike P kept at (c ∷ cs) (d ∷ ds) a h = (
  alike (λ x. P at x) (kept at) c d a.0 h.0,
  subst (λ (n : ℕ). EveryPlaced P (at + n) ds) (sym (alike_size c d a.0))
      (every_alike P kept (at + size_of c) cs ds a.1 h.1),
)

pub table_tells : (table : Table) → TellsNoTables (TableHere table)
table_tells table at xs ys e h = (refl, h.1, e ∙ h.2, h.3)

pub body_tells : (slot place : ℕ) → TellsNoTables (BodyHere slot place)
body_tells slot place at xs ys e h = absurd h

pub managers_tells : (slot : ℕ) → TellsNoTables (ManagersHere slot)
managers_tells slot at xs ys e h = absurd h

pub known_tells : (tables : List Table) → TellsNoTables (IsKnownIfFixed tables)
known_tells tables at xs ys e h = h

pub free_tells : (there : ℕ) → TellsNoTables (IsFreeAt there)
free_tells there at xs ys e h = absurd h

-- ---- names

-- what is found under a name (`live_first`, `place_first`), where a table has no name
module _ {A : Type 0} (found : ℕ → List Chunk → ℕ → Option A)
    (first : (at : ℕ) (c : Chunk) (cs : List Chunk) (name : ℕ) → found at (c ∷ cs) name ≡ or_else (found at (c ∷ []) name) (found (at + size_of c) cs name))
    (table : (at : ℕ) (bytes : List ℕ) (cs : List Chunk) (name : ℕ) → found at (fixed bytes 0 ∷ cs) name ≡ found (at + need (length bytes)) cs name) where
  found_first : (at : ℕ) (c d : Chunk) (cs : List Chunk) (name : ℕ) → AlikeChunk c d
      → found at (d ∷ cs) name ≡ found at (c ∷ cs) name
  found_first at c d cs name a = alike (λ x. found at (x ∷ cs) name ≡ found at (c ∷ cs) name)
      (λ xs ys e p. table at ys cs name ∙ ap (λ n. found (at + need n) cs name) e
      ∙ sym (table at xs cs name) ∙ p) c d a refl

  found_alike : (at : ℕ) (cs ds : List Chunk) (name : ℕ) → AlikeChunks cs ds
      → found at ds name ≡ found at cs name
  found_alike at [] [] name a = refl
  found_alike at [] (d ∷ ds) name a = absurd a
  found_alike at (c ∷ cs) [] name a = absurd a
  found_alike at (c ∷ cs) (d ∷ ds) name a =
      found_first at c d ds name a.0 ∙ first at c ds name
      ∙ ap (or_else (found at (c ∷ []) name)) (found_alike (at + size_of c) cs ds name a.1)
      ∙ sym (first at c cs name)

pub live_table : (at : ℕ) (bytes : List ℕ) (cs : List Chunk) (name : ℕ)
    → live_under at (fixed bytes 0 ∷ cs) name ≡ live_under (at + need (length bytes)) cs name
live_table at bytes cs name = cond-false (is_fixed_name at 0 name) _ _ (table_unnamed at name)

pub live_alike : (at : ℕ) (cs ds : List Chunk) (name : ℕ) → AlikeChunks cs ds
    → live_under at ds name ≡ live_under at cs name
live_alike = found_alike live_under live_first live_table

pub place_table : (at : ℕ) (bytes : List ℕ) (cs : List Chunk) (name : ℕ)
    → place_under at (fixed bytes 0 ∷ cs) name ≡ place_under (at + need (length bytes)) cs name
place_table at bytes cs name = cond-false (is_fixed_name at 0 name) _ _ (table_unnamed at name)

pub place_alike : (at : ℕ) (cs ds : List Chunk) (name : ℕ) → AlikeChunks cs ds
    → place_under at ds name ≡ place_under at cs name
place_alike = found_alike place_under place_first place_table
