-- What names stand for, and where, in lists of chunks that are put together.
use Rattle.laws_heap.proofs.Words.{◌≡◌, ℕ, ◌+◌, Bool, true, false, cond, List, [], ◌∷◌, ◌++◌, length, Option, Some, None, refl, sym, ap, ◌∙◌, arith, ◌==◌, Chunk, free, movable, fixed, need, size_of, total, LiveChunk, live_under, is_fixed_name, AllFree, place_under}
use Rattle.laws_heap.proofs.Tests.{none_some}
use Rattle.laws_heap.proofs.FixedNames.{fixed_live}

-- the first of two that is there
abbrev pub or_else : {A : Type 0} → Option A → Option A → Option A
or_else None other = other
or_else (Some x) other = Some x

or_cond : {A : Type 0} (b : Bool) (x : A) (y z w : Option A) → y ≡ or_else z w
    → cond b (Some x) y ≡ or_else (cond b (Some x) z) w
or_cond true x y z w e = refl
or_cond false x y z w e = e

or_joined : {A : Type 0} (x y z : Option A) → or_else (or_else x y) z ≡ or_else x (or_else y z)
or_joined None y z = refl
or_joined (Some x) y z = refl

or_middle : {A : Type 0} (x y z y' z' : Option A) → y ≡ y' → z ≡ z'
    → or_else x (or_else y z) ≡ or_else x (or_else y' z')
or_middle x y z y' z' e f = cc

-- what is found under a name in chunks from an offset on: in the first chunk, or else in the others
module _ {A : Type 0} (found : ℕ → List Chunk → ℕ → Option A) (none : (at name : ℕ) → found at [] name ≡ None)
    (first : (at : ℕ) (c : Chunk) (cs : List Chunk) (name : ℕ) → found at (c ∷ cs) name ≡ or_else (found at (c ∷ []) name) (found (at + size_of c) cs name)) where
  found_append : (at : ℕ) (xs ys : List Chunk) (name : ℕ)
      → found at (xs ++ ys) name ≡ or_else (found at xs name) (found (at + total xs) ys name)
  found_append at [] ys name =
      ap (λ (k : ℕ). found k ys name) (omega arith)
      ∙ ap (λ (o : Option A). or_else o (found (at + 0) ys name)) (sym (none at name))
  found_append at (c ∷ xs) ys name =
      let there : at + size_of c + total xs ≡ at + (size_of c + total xs) = omega arith in
      first at c (xs ++ ys) name
      ∙ ap (or_else (found at (c ∷ []) name)) (found_append (at + size_of c) xs ys name
      ∙ ap (λ k. or_else (found (at + size_of c) xs name) (found k ys name)) there)
      ∙ sym (or_joined (found at (c ∷ []) name) (found (at + size_of c) xs name) _)
      ∙ ap (λ o. or_else o (found (at + (size_of c + total xs)) ys name)) (sym (first at c xs name))

  -- the middle replaced
  found_replaced : (at : ℕ) (before mid others after : List Chunk) (name : ℕ)
      → total others ≡ total mid
      → found (at + total before) others name ≡ found (at + total before) mid name
      → found at (before ++ (others ++ after)) name ≡ found at (before ++ (mid ++ after)) name
  found_replaced at before mid others after name sizes same =
      found_append at before (others ++ after) name
      ∙ ap (or_else (found at before name)) (found_append (at + total before) others after name)
      ∙ or_middle _ _ _ _ _ same (ap (λ (n : ℕ). found (at + total before + n) after name) sizes)
      ∙ sym (ap (or_else (found at before name)) (found_append (at + total before) mid after name))
      ∙ sym (found_append at before (mid ++ after) name)

pub live_first : (at : ℕ) (c : Chunk) (cs : List Chunk) (name : ℕ) → live_under at (c ∷ cs) name
    ≡ or_else (live_under at (c ∷ []) name) (live_under (at + size_of c) cs name)
live_first at (free size) cs name = refl
live_first at (movable bytes lock owner slot) cs name =
    or_cond (slot == name) (record { bytes = bytes; lock = lock; owner = owner }) _ None _ refl
live_first at (fixed bytes owner) cs name =
    or_cond (is_fixed_name at owner name) (fixed_live bytes owner) _ None _ refl

pub place_first : (at : ℕ) (c : Chunk) (cs : List Chunk) (name : ℕ) → place_under at (c ∷ cs) name
    ≡ or_else (place_under at (c ∷ []) name) (place_under (at + size_of c) cs name)
place_first at (free size) cs name = refl
place_first at (movable bytes lock owner slot) cs name =
    or_cond (slot == name) (at + 8) _ None _ refl
place_first at (fixed bytes owner) cs name =
    or_cond (is_fixed_name at owner name) (at + 8) _ None _ refl

pub move_live : (m n : ℕ) (cs : List Chunk) (name : ℕ) → m ≡ n
    → live_under m cs name ≡ live_under n cs name
move_live m n cs name e = ap (λ (k : ℕ). live_under k cs name) e

pub move_place : (m n : ℕ) (cs : List Chunk) (name : ℕ) → m ≡ n
    → place_under m cs name ≡ place_under n cs name
move_place m n cs name e = ap (λ (k : ℕ). place_under k cs name) e

pub live_under-append : (at : ℕ) (xs ys : List Chunk) (name : ℕ) → live_under at (xs ++ ys) name
    ≡ or_else (live_under at xs name) (live_under (at + total xs) ys name)
live_under-append = found_append live_under (λ at name. refl) live_first

pub place_under-append : (at : ℕ) (xs ys : List Chunk) (name : ℕ) → place_under at (xs ++ ys) name
    ≡ or_else (place_under at xs name) (place_under (at + total xs) ys name)
place_under-append = found_append place_under (λ at name. refl) place_first

pub live_replaced : (at : ℕ) (before mid others after : List Chunk) (name : ℕ)
    → total others ≡ total mid
    → live_under (at + total before) others name ≡ live_under (at + total before) mid name
    → live_under at (before ++ (others ++ after)) name
    ≡ live_under at (before ++ (mid ++ after)) name
live_replaced = found_replaced live_under (λ at name. refl) live_first

pub place_replaced : (at : ℕ) (before mid others after : List Chunk) (name : ℕ)
    → total others ≡ total mid
    → place_under (at + total before) others name ≡ place_under (at + total before) mid name
    → place_under at (before ++ (others ++ after)) name
    ≡ place_under at (before ++ (mid ++ after)) name
place_replaced = found_replaced place_under (λ at name. refl) place_first

-- ---- free chunks have no names

pub live_under-free : (at : ℕ) (run : List Chunk) (name : ℕ) → AllFree run
    → live_under at run name ≡ None
live_under-free at [] name f = refl
live_under-free at (free size ∷ run) name f = live_under-free (at + size) run name f
live_under-free at (movable bytes lock owner slot ∷ run) name f = absurd f
live_under-free at (fixed bytes owner ∷ run) name f = absurd f

pub place_under-free : (at : ℕ) (run : List Chunk) (name : ℕ) → AllFree run
    → place_under at run name ≡ None
place_under-free at [] name f = refl
place_under-free at (free size ∷ run) name f = place_under-free (at + size) run name f
place_under-free at (movable bytes lock owner slot ∷ run) name f = absurd f
place_under-free at (fixed bytes owner ∷ run) name f = absurd f

some_none : (live : LiveChunk) → Some live ≡ None → ⊥
some_none live e = none_some None live refl (sym e)

-- a name is in a place only where it stands for something
pub live_placed : (at : ℕ) (cs : List Chunk) (name : ℕ) → live_under at cs name ≡ None
    → place_under at cs name ≡ None
live_placed at [] name e = refl
live_placed at (free size ∷ cs) name e = live_placed (at + size) cs name e
live_placed at (movable bytes lock owner slot ∷ cs) name e =
    branch (slot == name) e (live_placed (at + need (length bytes)) cs name) where
      branch : (b : Bool) → cond b (Some (record { bytes = bytes; lock = lock; owner = owner }))
          (live_under (at + need (length bytes)) cs name) ≡ None
          → (live_under (at + need (length bytes)) cs name ≡ None
          → place_under (at + need (length bytes)) cs name ≡ None)
          → cond b (Some (at + 8)) (place_under (at + need (length bytes)) cs name) ≡ None
      branch true e rest = absurd (some_none _ e)
      branch false e rest = rest e
live_placed at (fixed bytes owner ∷ cs) name e = branch _ e (live_placed _ cs name) where
  branch : (b : Bool)
      → cond b (Some (fixed_live bytes owner)) (live_under (at + need (length bytes)) cs name)
      ≡ None → (live_under (at + need (length bytes)) cs name ≡ None
      → place_under (at + need (length bytes)) cs name ≡ None)
      → cond b (Some (at + 8)) (place_under (at + need (length bytes)) cs name) ≡ None
  branch true e rest = absurd (some_none _ e)
  branch false e rest = rest e
