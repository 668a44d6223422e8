-- What holds of every chunk where it stands, of some one, and of all but a first.
use Rattle.laws_heap.proofs.Words.{◌≡◌, ℕ, ◌+◌, ◌≤◌, Bool, List, [], ◌∷◌, ◌++◌, refl, sym, ap, subst, append_assoc, ◌∙◌, arith, inl, inr, Decides-and, Decides-or, ◌⊎◌, ◌↔◌, Decides, list_all, Chunk, size_of, total, SpelledAll, EveryPlaced, AnyPlaced, FirstWithout, every_placed, any_placed, EveryOne, FirstOne}
use Rattle.laws_heap.proofs.Chunks.{Spelled-size}

-- ---- every chunk

move_every : (P : ℕ → Chunk → Type 0) (m n : ℕ) (cs : List Chunk) → m ≡ n → EveryPlaced P m cs
    → EveryPlaced P n cs
move_every P m n cs e h = subst (λ (k : ℕ). EveryPlaced P k cs) e h

pub EveryPlaced-append : (P : ℕ → Chunk → Type 0) (at : ℕ) (xs ys : List Chunk)
    → EveryPlaced P at xs → EveryPlaced P (at + total xs) ys → EveryPlaced P at (xs ++ ys)
EveryPlaced-append P at [] ys h k = move_every P (at + 0) at ys (omega arith) k
EveryPlaced-append P at (c ∷ xs) ys h k = (
  h.0,
  EveryPlaced-append P (at + size_of c) xs ys h.1
      (move_every P (at + (size_of c + total xs)) (at + size_of c + total xs) ys (omega arith) k),
)

pub EveryPlaced-split : (P : ℕ → Chunk → Type 0) (at : ℕ) (xs ys : List Chunk)
    → EveryPlaced P at (xs ++ ys) → EveryPlaced P at xs × EveryPlaced P (at + total xs) ys
EveryPlaced-split P at [] ys h = (tt, move_every P at (at + 0) ys (omega arith) h)
EveryPlaced-split P at (c ∷ xs) ys h =
    let rest = EveryPlaced-split P (at + size_of c) xs ys h.1 in
    ((h.0, rest.0), move_every P (at + size_of c + total xs) _ ys (omega arith) rest.1)

pub EveryPlaced-push : (P : ℕ → Chunk → Type 0) (at : ℕ) (cs : List Chunk) (c : Chunk) (end : ℕ)
    → end ≡ at + total cs → EveryPlaced P at cs → P end c → EveryPlaced P at (cs ++ c ∷ [])
EveryPlaced-push P at cs c end e h p = EveryPlaced-append P at cs (c ∷ []) h (rw e at p, tt)

-- ---- some chunk

move_any : (P : ℕ → Chunk → Type 0) (m n : ℕ) (cs : List Chunk) → m ≡ n → AnyPlaced P m cs
    → AnyPlaced P n cs
move_any P m n cs e h = subst (λ (k : ℕ). AnyPlaced P k cs) e h

pub AnyPlaced-left : (P : ℕ → Chunk → Type 0) (at : ℕ) (xs ys : List Chunk) → AnyPlaced P at xs
    → AnyPlaced P at (xs ++ ys)
AnyPlaced-left P at [] ys h = absurd h
AnyPlaced-left P at (c ∷ xs) ys h =
    elim h [ inl here ↦ inl here | inr later ↦ inr (AnyPlaced-left P (at + size_of c) xs ys later) ]

pub AnyPlaced-right : (P : ℕ → Chunk → Type 0) (at : ℕ) (xs ys : List Chunk)
    → AnyPlaced P (at + total xs) ys → AnyPlaced P at (xs ++ ys)
AnyPlaced-right P at [] ys h = move_any P (at + 0) at ys (omega arith) h
AnyPlaced-right P at (c ∷ xs) ys h = inr (AnyPlaced-right P (at + size_of c) xs ys
    (move_any P (at + (size_of c + total xs)) (at + size_of c + total xs) ys (omega arith) h))

pub AnyPlaced-split : (P : ℕ → Chunk → Type 0) (at : ℕ) (xs ys : List Chunk)
    → AnyPlaced P at (xs ++ ys) → AnyPlaced P at xs ⊎ AnyPlaced P (at + total xs) ys
AnyPlaced-split P at [] ys h = inr (move_any P at (at + 0) ys (omega arith) h)
AnyPlaced-split P at (c ∷ xs) ys h = elim h [
  | inl here ↦ inl (inl here)
  | inr later ↦ elim (AnyPlaced-split P (at + size_of c) xs ys later) [
    | inl left ↦ inl (inr left)
    | inr right ↦ inr (move_any P (at + size_of c + total xs) _ ys (omega arith) right)
  ]
]

-- the chunk of which it holds, between those before it and those after
pub record PlacedParts (P : ℕ → Chunk → Type 0) (at : ℕ) (cs : List Chunk) : Type 0 where
  pub before : List Chunk
  pub chunk : Chunk
  pub after : List Chunk
  pub parts : cs ≡ before ++ chunk ∷ after
  pub holds : P (at + total before) chunk

pub AnyPlaced-parts : (P : ℕ → Chunk → Type 0) (at : ℕ) (cs : List Chunk) → AnyPlaced P at cs
    → PlacedParts P at cs
AnyPlaced-parts P at [] h = absurd h
AnyPlaced-parts P at (c ∷ cs) h = elim h [
  | inl here ↦
      let e : at ≡ at + 0 = omega arith in
      record { before = []; chunk = c; after = cs; parts = refl; holds = rw e at here }
  | inr later ↦
      let p = AnyPlaced-parts P (at + size_of c) cs later in
      let e : at + size_of c + total p.before ≡ at + (size_of c + total p.before) = omega arith in
      record {
        before = c ∷ p.before;
        chunk = p.chunk;
        after = p.after;
        parts = ap (λ xs. c ∷ xs) p.parts;
        holds = rw e at p.holds;
      }
]

pub AnyPlaced-mid : (P : ℕ → Chunk → Type 0) (at : ℕ) (before : List Chunk) (c : Chunk)
    (after : List Chunk) → P (at + total before) c → AnyPlaced P at (before ++ c ∷ after)
AnyPlaced-mid P at before c after p = AnyPlaced-right P at before (c ∷ after) (inl p)

pub AnyPlaced-map : (P Q : ℕ → Chunk → Type 0) → ((at : ℕ) (c : Chunk) → P at c → Q at c)
    → (at : ℕ) (cs : List Chunk) → AnyPlaced P at cs → AnyPlaced Q at cs
AnyPlaced-map P Q each at [] h = absurd h
AnyPlaced-map P Q each at (c ∷ cs) h = elim h [
  | inl here ↦ inl (each at c here)
  | inr later ↦ inr (AnyPlaced-map P Q each (at + size_of c) cs later)
]

-- of the chunk of which the one holds, the other holds too
pub every_any : (P Q R : ℕ → Chunk → Type 0) → ((at : ℕ) (c : Chunk) → P at c → Q at c → R at c)
    → (at : ℕ) (cs : List Chunk) → EveryPlaced P at cs → AnyPlaced Q at cs → AnyPlaced R at cs
every_any P Q R both at [] every h = absurd h
every_any P Q R both at (c ∷ cs) every h = elim h [
  | inl here ↦ inl (both at c every.0 here)
  | inr later ↦ inr (every_any P Q R both (at + size_of c) cs every.1 later)
]

-- ---- at one offset stands one chunk

-- a chunk that stands at this offset
abbrev pub At : ℕ → (ℕ → Chunk → Type 0) → ℕ → Chunk → Type 0
At there P at c = (at ≡ there) × P at c

-- each takes some bytes
abbrev pub TakesBytes : ℕ → Chunk → Type 0
TakesBytes at c = 8 ≤ size_of c

pub SpelledAll-takes : (image : List ℕ) (at : ℕ) (cs : List Chunk) (end : ℕ)
    → SpelledAll image at cs end → EveryPlaced TakesBytes at cs
SpelledAll-takes image at [] end s = tt
SpelledAll-takes image at (c ∷ cs) end s =
    ((Spelled-size image at c s.0).0, SpelledAll-takes image (at + size_of c) cs end s.1)

any_low : (P : ℕ → Chunk → Type 0) (there at : ℕ) (cs : List Chunk) → AnyPlaced (At there P) at cs
    → at ≤ there
any_low P there at [] h = absurd h
any_low P there at (c ∷ cs) h = elim h [
  | inl here ↦ let e = here.0 in omega arith
  | inr later ↦ let low = any_low P there (at + size_of c) cs later in omega arith
]

pub one_at : (P Q : ℕ → Chunk → Type 0) (there at : ℕ) (cs : List Chunk)
    → EveryPlaced TakesBytes at cs → AnyPlaced (At there P) at cs → AnyPlaced (At there Q) at cs
    → (c : Chunk) × P there c × Q there c
one_at P Q there at [] sizes h k = absurd h
one_at P Q there at (c ∷ cs) sizes h k = elim h [
  | inl here ↦ elim k [
    | inl other ↦ (c, rw here.0 at here.1, rw other.0 at other.1)
    | inr later ↦
        let low = any_low Q there (at + size_of c) cs later in let e = here.0 in
        let size = sizes.0 in
        absurd (omega arith)
  ]
  | inr mine ↦ elim k [
    | inl other ↦
        let low = any_low P there (at + size_of c) cs mine in let e = other.0 in
        let size = sizes.0 in
        absurd (omega arith)
    | inr later ↦ one_at P Q there (at + size_of c) cs sizes.1 mine later
  ]
]

-- ---- the first chunk of which it does not hold

pub FirstWithout-not : (P : ℕ → Chunk → Type 0) (at : ℕ) (cs : List Chunk) (there : ℕ)
    → FirstWithout P at cs there → EveryPlaced P at cs → ⊥
FirstWithout-not P at cs there f every =
    let split = EveryPlaced-split P at f.before (f.chunk ∷ f.after) (rw f.parts at every) in
    f.without (subst (λ (n : ℕ). P n f.chunk) (sym f.place) split.1.0)

-- one chunk more is looked at, where one was found before
pub FirstWithout-kept : (P : ℕ → Chunk → Type 0) (at : ℕ) (cs : List Chunk) (c : Chunk) (there : ℕ)
    → FirstWithout P at cs there → FirstWithout P at (cs ++ c ∷ []) there
FirstWithout-kept P at cs c there f = record {
  before = f.before;
  chunk = f.chunk;
  after = f.after ++ c ∷ [];
  parts = ap (λ xs. xs ++ c ∷ []) f.parts ∙ append_assoc f.before (f.chunk ∷ f.after) (c ∷ []);
  place = f.place;
  earlier = f.earlier;
  without = f.without;
}

-- one chunk more, the first without it
pub FirstWithout-first : (P : ℕ → Chunk → Type 0) (at : ℕ) (cs : List Chunk) (c : Chunk) (end : ℕ)
    → end ≡ at + total cs → EveryPlaced P at cs → (P end c → ⊥)
    → FirstWithout P at (cs ++ c ∷ []) end
FirstWithout-first P at cs c end e every without = record {
  before = cs;
  chunk = c;
  after = [];
  parts = refl;
  place = e;
  earlier = every;
  without = without;
}

-- ---- lists

EveryOne-mid : (P : ℕ → Type 0) (before : List ℕ) (x : ℕ) (after : List ℕ)
    → EveryOne P (before ++ x ∷ after) → P x
EveryOne-mid P [] x after h = h.0
EveryOne-mid P (y ∷ before) x after h = EveryOne-mid P before x after h.1

pub FirstOne-not : (P : ℕ → Type 0) (xs : List ℕ) (x : ℕ) → FirstOne P xs x → EveryOne P xs → ⊥
FirstOne-not P xs x f every = f.without (EveryOne-mid P f.before x f.after (rw f.parts at every))

pub EveryOne-split : (P : ℕ → Type 0) (xs ys : List ℕ) → EveryOne P (xs ++ ys)
    → EveryOne P xs × EveryOne P ys
EveryOne-split P [] ys h = (tt, h)
EveryOne-split P (x ∷ xs) ys h = let rest = EveryOne-split P xs ys h.1 in ((h.0, rest.0), rest.1)

-- where two facts agree on each number, one holds of every one where the other does
pub EveryOne-like : (P Q : ℕ → Type 0) (xs : List ℕ) → EveryOne (λ x. P x ↔ Q x) xs → EveryOne P xs
    → EveryOne Q xs
EveryOne-like P Q [] like h = tt
EveryOne-like P Q (x ∷ xs) like h = (like.0.0 h.0, EveryOne-like P Q xs like.1 h.1)

-- and the first number without the one is the first without the other
pub FirstOne-like : (P Q : ℕ → Type 0) (xs : List ℕ) (x : ℕ) → EveryOne (λ x. P x ↔ Q x) xs
    → FirstOne P xs x → FirstOne Q xs x
FirstOne-like P Q xs x like f =
    let parts = EveryOne-split (λ y. P y ↔ Q y) f.before (x ∷ f.after) (rw f.parts at like) in
    record {
      before = f.before;
      after = f.after;
      parts = f.parts;
      earlier = EveryOne-like P Q f.before parts.0 f.earlier;
      without = λ q. f.without (parts.1.0.1 q);
    }

-- ---- tests

pub Decides-every : (test : ℕ → Chunk → Bool) (P : ℕ → Chunk → Type 0)
    → ((at : ℕ) (c : Chunk) → Decides (test at c) (P at c)) → (at : ℕ) (cs : List Chunk)
    → Decides (every_placed test at cs) (EveryPlaced P at cs)
Decides-every test P each at [] = (λ e. tt, λ h. refl)
Decides-every test P each at (c ∷ cs) =
    Decides-and _ _ (each at c) (Decides-every test P each (at + size_of c) cs)

pub Decides-any : (test : ℕ → Chunk → Bool) (P : ℕ → Chunk → Type 0)
    → ((at : ℕ) (c : Chunk) → Decides (test at c) (P at c)) → (at : ℕ) (cs : List Chunk)
    → Decides (any_placed test at cs) (AnyPlaced P at cs)
Decides-any test P each at [] = (λ e. absurd cc, λ h. absurd h)
Decides-any test P each at (c ∷ cs) =
    Decides-or _ _ (each at c) (Decides-any test P each (at + size_of c) cs)

pub Decides-every_one : (test : ℕ → Bool) (P : ℕ → Type 0) → ((x : ℕ) → Decides (test x) (P x))
    → (xs : List ℕ) → Decides (list_all test xs) (EveryOne P xs)
Decides-every_one test P each [] = (λ e. tt, λ h. refl)
Decides-every_one test P each (x ∷ xs) = Decides-and _ _ (each x) (Decides-every_one test P each xs)
