-- Predicates of chunks at their offsets: for every chunk, for some chunk, and for the first chunk
-- without the property. And the same for the numbers of a list.
use Rattle.std.specs.Prelude.{◌≡◌, ◌+◌, ◌++◌, ◌⊎◌, ◌&&◌, ◌||◌, ℕ, Bool, true, false, List, [], ◌∷◌}
use Rattle.heap_model.specs.Chunk.{Chunk, size_of, total}

-- the property is true of every one of these chunks, of which the first begins at an offset
abbrev pub EveryPlaced : (ℕ → Chunk → Type 0) → ℕ → List Chunk → Type 0
EveryPlaced P at [] = Unit {0}
EveryPlaced P at (chunk ∷ chunks) = P at chunk × EveryPlaced P (at + size_of chunk) chunks

-- the property is true of at least one of these chunks
abbrev pub AnyPlaced : (ℕ → Chunk → Type 0) → ℕ → List Chunk → Type 0
AnyPlaced P at [] = ⊥
AnyPlaced P at (chunk ∷ chunks) = P at chunk ⊎ AnyPlaced P (at + size_of chunk) chunks

-- the first of these chunks of which the property is not true begins at `there`
pub record FirstWithout (P : ℕ → Chunk → Type 0) (at : ℕ) (chunks : List Chunk) (there : ℕ) : Type 0 where
  pub before : List Chunk
  pub chunk : Chunk
  pub after : List Chunk
  pub parts : chunks ≡ before ++ chunk ∷ after
  pub place : there ≡ at + total before
  pub earlier : EveryPlaced P at before
  pub without : P there chunk → ⊥

-- `EveryPlaced` and `AnyPlaced` as tests
abbrev pub every_placed : (ℕ → Chunk → Bool) → ℕ → List Chunk → Bool
every_placed test at [] = true
every_placed test at (chunk ∷ chunks) = test at chunk && every_placed test (at + size_of chunk) chunks

abbrev pub any_placed : (ℕ → Chunk → Bool) → ℕ → List Chunk → Bool
any_placed test at [] = false
any_placed test at (chunk ∷ chunks) = test at chunk || any_placed test (at + size_of chunk) chunks

-- the property is true of every number of the list
abbrev pub EveryOne : (ℕ → Type 0) → List ℕ → Type 0
EveryOne P [] = Unit {0}
EveryOne P (x ∷ xs) = P x × EveryOne P xs

-- `x` is the first number of the list of which the property is not true
pub record FirstOne (P : ℕ → Type 0) (xs : List ℕ) (x : ℕ) : Type 0 where
  pub before : List ℕ
  pub after : List ℕ
  pub parts : xs ≡ before ++ x ∷ after
  pub earlier : EveryOne P before
  pub without : P x → ⊥
