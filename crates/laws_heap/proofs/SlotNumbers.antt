-- Each slot of a tiled image stands once in the list, so it has one number.
use Rattle.laws_heap.proofs.Words.{cond, ◌≡◌, ◌≢◌, ℕ, zero, suc, ◌+◌, ◌-◌, ◌<◌, ◌≤◌, List, [], ◌∷◌, ◌++◌, length, refl, sym, ap, subst, ◌∙◌, arith, inl, inr, cases_eq, eq-eqb, nat_tests, ◌==◌, u32_at, Chunk, free, movable, fixed, size_of, Table, slots_in_row, slots_further, slots_of, StandsIn, StandsBehind, slot_count, first_next, further_tables, area_start, AnyPlaced, EveryOne, TableHere, IsChain, Tiles}
use Rattle.laws_heap.proofs.Tests.{cond-true, cond-false}
use Rattle.laws_heap.proofs.FreeCounts.{sum_below, more_below}
use Rattle.laws_heap.proofs.Placed.{At, AnyPlaced-map}
use Rattle.laws_heap.proofs.Slots.{stands_split, parts_stand, row_slot, HoldsSlot, table_holds, held_within, holder_low, every_slot, slot_facts}

-- ---- lists in which no number stands twice

abbrev NoneTwice : List ℕ → Type 0
NoneTwice [] = Unit {0}
NoneTwice (x ∷ xs) = (StandsIn xs x → ⊥) × NoneTwice xs

none_append : (xs ys : List ℕ) → NoneTwice xs → NoneTwice ys
    → ((n : ℕ) → StandsIn xs n → StandsIn ys n → ⊥) → NoneTwice (xs ++ ys)
none_append [] ys one other apart = other
none_append (x ∷ xs) ys one other apart = (
  λ h.
      elim (stands_split xs ys x h) [
        | inl left ↦ one.0 left
        | inr right ↦ apart x (inl refl) right
      ],
  none_append xs ys one.1 other (λ n left right. apart n (inr left) right),
)

none_row : (first count : ℕ) → NoneTwice (slots_in_row first count)
none_row first zero = tt
none_row first (suc count) = (
  (λ h. let r = row_slot (first + 4) count first h in let there = r.2 in absurd (omega arith)),
  none_row (first + 4) count,
)

one_number : (xs front fore rest rear : List ℕ) (n : ℕ) → NoneTwice xs → xs ≡ front ++ n ∷ rest
    → xs ≡ fore ++ n ∷ rear → length front ≡ length fore
one_number [] [] fore rest rear n none a b = absurd cc
one_number [] (x ∷ front) fore rest rear n none a b = absurd cc
one_number (y ∷ xs) [] [] rest rear n none a b = refl
one_number (y ∷ xs) [] (z ∷ fore) rest rear n none a b =
    let here : y ≡ n = cc in
    let more : xs ≡ fore ++ n ∷ rear = cc in
    absurd (none.0 (subst (λ ys. StandsIn ys y) (sym more)
    (subst (λ m. StandsIn (fore ++ n ∷ rear) m) (sym here) (parts_stand fore rear n))))
one_number (y ∷ xs) (x ∷ front) [] rest rear n none a b =
    let here : y ≡ n = cc in
    let more : xs ≡ front ++ n ∷ rest = cc in
    absurd (none.0 (subst (λ ys. StandsIn ys y) (sym more)
    (subst (λ m. StandsIn (front ++ n ∷ rest) m) (sym here) (parts_stand front rest n))))
one_number (y ∷ xs) (x ∷ front) (z ∷ fore) rest rear n none a b =
    let left : xs ≡ front ++ n ∷ rest = cc in
    let right : xs ≡ fore ++ n ∷ rear = cc in
    ap suc (one_number xs front fore rest rear n none.1 left right)

-- ---- tables of a chain

-- a table's body is after a header
pub some_place : (image : List ℕ) (table : Table) (at : ℕ) (cs : List Chunk)
    → AnyPlaced (TableHere table) at cs → 8 ≤ table.place
some_place image table at [] t = absurd t
some_place image table at (c ∷ cs) t = elim t [
  | inl own ↦ here c own
  | inr later ↦ some_place image table (at + size_of c) cs later
] where
  here : (d : Chunk) → TableHere table at d → 8 ≤ table.place
  here (free size) own = absurd own
  here (movable bytes lock owner slot) own = absurd own
  here (fixed bytes owner) own = let place = own.1 in omega arith

-- two chains from one word are as long
pub chain_length : (image : List ℕ) (cs : List Chunk) (next : ℕ) (ts us : List Table)
    → IsChain image cs next ts → IsChain image cs next us → length ts ≡ length us
chain_length image cs next [] [] a b = refl
chain_length image cs next [] (u ∷ us) a b =
    let low = some_place image u (area_start image) cs b.1 in let place = b.0 in
    absurd (omega arith)
chain_length image cs next (t ∷ ts) [] a b =
    let low = some_place image t (area_start image) cs a.1 in let place = a.0 in
    absurd (omega arith)
chain_length image cs next (t ∷ ts) (u ∷ us) a b =
    let same : u.place ≡ t.place = sym b.0 ∙ a.0 in
    ap suc (chain_length image cs (u32_at image t.place) ts us a.2 (rw same at b.2))

holds_at : (table : Table) (slot : ℕ) (at : ℕ) (c : Chunk)
    → ((at : ℕ) (c : Chunk) → TableHere table at c → HoldsSlot slot at c) → TableHere table at c
    → At (table.place - 8) (HoldsSlot slot) at c
holds_at table slot at (free size) holds t = absurd t
holds_at table slot at (movable bytes lock owner named) holds t = absurd t
holds_at table slot at (fixed bytes owner) holds t =
    let place = t.1 in
    (omega arith, holds at (fixed bytes owner) t)

-- one chunk has the slot
held_once : (slot a b at : ℕ) (cs : List Chunk) → AnyPlaced (At a (HoldsSlot slot)) at cs
    → AnyPlaced (At b (HoldsSlot slot)) at cs → a ≡ b
held_once slot a b at [] g h = absurd g
held_once slot a b at (c ∷ cs) g h = elim g [
  | inl mine ↦ elim h [
    | inl own ↦ sym mine.0 ∙ own.0
    | inr later ↦
        let low = holder_low slot (at + size_of c) cs (AnyPlaced-map (At b (HoldsSlot slot))
        (HoldsSlot slot) (λ n d x. x.1) (at + size_of c) cs later) in
        let high = (held_within slot at c mine.1).1 in
        absurd (omega arith)
  ]
  | inr behind ↦ elim h [
    | inl own ↦
        let low = holder_low slot (at + size_of c) cs (AnyPlaced-map (At a (HoldsSlot slot))
        (HoldsSlot slot) (λ n d x. x.1) (at + size_of c) cs behind) in
        let high = (held_within slot at c own.1).1 in
        absurd (omega arith)
    | inr later ↦ held_once slot a b (at + size_of c) cs behind later
  ]
]

-- the table of a chain that has a slot, and the chain after it
record Holder (image : List ℕ) (cs : List Chunk) (tables : List Table) (slot : ℕ) : Type 0 where
  place : ℕ
  behind : List Table
  there : AnyPlaced (At (place - 8) (HoldsSlot slot)) (area_start image) cs
  chain : IsChain image cs (u32_at image place) behind
  shorter : length behind < length tables
  low : 8 ≤ place

row_holder : (image : List ℕ) (cs : List Chunk) (table : Table) (slot : ℕ)
    → AnyPlaced (TableHere table) (area_start image) cs
    → StandsIn (slots_in_row (table.place + 4) table.count) slot
    → AnyPlaced (At (table.place - 8) (HoldsSlot slot)) (area_start image) cs
row_holder image cs table slot t h =
    let r = row_slot (table.place + 4) table.count slot h in
    AnyPlaced-map (TableHere table) (At (table.place - 8) (HoldsSlot slot)) (λ at c x.
    holds_at table slot at c (table_holds table slot r.0 r.1 r.2) x) (area_start image) cs t

further_holder : (image : List ℕ) (cs : List Chunk) (next : ℕ) (tables : List Table) (slot : ℕ)
    → IsChain image cs next tables → StandsIn (slots_further tables) slot
    → Holder image cs tables slot
further_holder image cs next [] slot chain h = absurd h
further_holder image cs next (t ∷ tables) slot chain h = elim (stands_split _ _ slot h) [
  | inl own ↦ record {
    place = t.place;
    behind = tables;
    there = row_holder image cs t slot chain.1 own;
    chain = chain.2;
    shorter = omega arith;
    low = some_place image t (area_start image) cs chain.1;
  }
  | inr later ↦
      let r = further_holder image cs (u32_at image t.place) tables slot chain.2 later in
      let shorter = r.shorter in
      record {
        place = r.place;
        behind = r.behind;
        there = r.there;
        chain = r.chain;
        shorter = omega arith;
        low = r.low;
      }
]

none_further : (image : List ℕ) (cs : List Chunk) (next : ℕ) (tables : List Table)
    → IsChain image cs next tables → NoneTwice (slots_further tables)
none_further image cs next [] chain = tt
none_further image cs next (t ∷ tables) chain = none_append (slots_in_row (t.place + 4) t.count)
    (slots_further tables) (none_row (t.place + 4) t.count)
    (none_further image cs (u32_at image t.place) tables chain.2) (λ n own later.
    let mine = row_holder image cs t n chain.1 own in
    let r = further_holder image cs (u32_at image t.place) tables n chain.2 later in
    let one = held_once n (t.place - 8) (r.place - 8) (area_start image) cs mine r.there in
    let low = some_place image t (area_start image) cs chain.1 in
    let also = r.low in
    let shorter = r.shorter in
    let same : r.place ≡ t.place = omega arith in
    let long = chain_length image cs _ tables r.behind chain.2 (rw same at r.chain) in
    absurd (omega arith))

none_twice : (image : List ℕ) (cs : List Chunk) → Tiles image cs → NoneTwice (slots_of image)
unfolding slots_of
none_twice image cs t = none_append (slots_in_row 16 (slot_count image))
    (slots_further (further_tables image)) (none_row 16 (slot_count image))
    (none_further image cs (first_next image) (further_tables image) t.chain) (λ n own later.
    let r = row_slot 16 (slot_count image) n own in
    let below = r.1 in
    let there = r.2 in
    let h = further_holder image cs (first_next image) (further_tables image) n t.chain later in
    let low = holder_low n _ cs (AnyPlaced-map _ (HoldsSlot n) (λ at d x. x.1) _ cs h.there) in
    absurd (omega arith))

-- a slot has one number
pub same_number : (image : List ℕ) (cs : List Chunk) (slot j k : ℕ) → Tiles image cs
    → StandsBehind image slot j → StandsBehind image slot k → j ≡ k
same_number image cs slot j k t a b = sym a.before ∙ one_number (slots_of
    image) a.front b.front a.rest b.rest slot (none_twice image cs t) a.parts b.parts ∙ b.before

-- ---- how many there are

-- how often a number stands in a list
abbrev stood : List ℕ → ℕ → ℕ
stood [] n = 0
stood (x ∷ xs) n = cond (x == n) 1 0 + stood xs n

stood_none : (xs : List ℕ) (n : ℕ) → (StandsIn xs n → ⊥) → stood xs n ≡ 0
stood_none [] n none = refl
stood_none (x ∷ xs) n none =
    let here : cond {A = ℕ} (x == n) 1 0 ≡ 0 =
    cond-false (x == n) 1 0 (let apart : x ≢ n = λ e. none (inl e) in grind (arith, nat_tests)) in
    let rest = stood_none xs n (λ h. none (inr h)) in
    omega (arith, here, rest)

stood_once : (xs : List ℕ) (n : ℕ) → NoneTwice xs → stood xs n ≤ 1
stood_once [] n none = omega arith
stood_once (x ∷ xs) n none = elim (cases_eq x n) [
  | inl is ↦
      let here : cond {A = ℕ} (x == n) 1 0 ≡ 1 = cond-true (x == n) 1 0 (eq-eqb x n is) in
      let rest = stood_none xs n (λ h. none.0 (subst (λ (m : ℕ). StandsIn xs m) (sym is) h)) in
      omega (arith, here, rest)
  | inr apart ↦
      let here : cond {A = ℕ} (x == n) 1 0 ≡ 0 =
      cond-false (x == n) 1 0 (grind (arith, nat_tests)) in
      let rest = stood_once xs n none.1 in
      omega (arith, here, rest)
]

stood_all : (bound : ℕ) (xs : List ℕ) → EveryOne (λ n. n < bound) xs
    → sum_below (stood xs) bound ≡ length xs
stood_all bound [] every = none_all bound where
  none_all : (n : ℕ) → sum_below (stood []) n ≡ 0
  none_all zero = refl
  none_all (suc n) = let rest = none_all n in omega (arith, rest)
stood_all bound (x ∷ xs) every =
    let own : cond {A = ℕ} (x == x) 1 0 ≡ 1 = cond-true (x == x) 1 0 (eq-eqb x x refl) in
    let sums = more_below (stood (x ∷ xs)) (stood xs) x 1 bound every.0
    (λ n apart. let here : cond {A = ℕ} (x == n) 1 0
    ≡ 0 = cond-false (x == n) 1 0 (grind (arith, nat_tests)) in omega (arith, here))
    (omega (arith, own)) in
    let rest = stood_all bound xs every.1 in
    omega (arith, sums, rest)

most_once : (f : ℕ → ℕ) (bound : ℕ) → ((n : ℕ) → f n ≤ 1) → sum_below f bound ≤ bound
most_once f zero each = omega arith
most_once f (suc n) each =
    let here = each n in let rest = most_once f n each in
    omega (arith, here, rest)

-- fewer than an image has bytes
pub slots_few : (image : List ℕ) (cs : List Chunk) → Tiles image cs
    → length (slots_of image) ≤ length image
slots_few image cs t =
    let all = stood_all (length image) (slots_of image) (every_slot (λ slot. slot < length image)
    image (λ slot s. let inside = (slot_facts image cs slot t s).inside in omega arith)) in
    let most = most_once _ (length image) (λ n. stood_once _ n (none_twice image cs t)) in
    omega (arith, all, most)
