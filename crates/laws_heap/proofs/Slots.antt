-- The slots of an image: where they are, in the first table or in a further one among the chunks;
-- by their number, which is how many stand before one; and where they lie next to chunks. No other
-- file takes a slot apart.
use Rattle.laws_heap.proofs.Words.{Bool, false, cond, ◌≡◌, ◌≢◌, ℕ, zero, suc, ◌+◌, ◌-◌, ◌*◌, ◌%◌, ◌<◌, ◌≤◌, List, ◌∷◌, ◌++◌, length, slice_index, take, drop, refl, sym, ap, subst, ◌∙◌, arith, [], append_assoc, length-append, length-take, length-drop, inl, inr, cases_lt, Decides-or, Decides-eqb, Decides-like, take_all, take_at, take-take, Decides, ◌⊎◌, Memory, Misses, IsWithin, u32_at, Chunk, free, movable, fixed, need, size_of, total, IsLive, Spelled, SpelledAll, Table, Tables, TablesLie, HasTable, slot_count, table_end, head_end, area_start, start_behind, aligned, is_chained, behind_table, first_next, tables_of, slots_in_row, slots_further, slots_in, slots_of, slots_total, first_slots, StandsBehind, StandsIn, IsSlot, stands_in, is_slot, TableHere, IsChain, Tiles, IsHeap, LiveChunk, NamedHere, AnyPlaced, EveryOne, IsFreeAt, AllFree, NoneStays}
use Rattle.laws_heap.proofs.Lending.{all_misses}
use Rattle.laws_heap.proofs.Frames.{SameBetween, SameBetween-within, u32_at-same, slice-same}
use Rattle.laws_heap.proofs.Chunks.{Spelled-size, Spelled-same, SpelledAll-end, SpelledAll-split, SpellsAgain, spells_same, seen-next}
use Rattle.laws_heap.proofs.Placed.{AnyPlaced-split, AnyPlaced-map}
use Rattle.laws_heap.proofs.FixedNames.{fixed_name, fixed_place, fixed_owned}

-- ---- numbers that stand in a list

pub stands_split : (xs ys : List ℕ) (n : ℕ) → StandsIn (xs ++ ys) n → StandsIn xs n ⊎ StandsIn ys n
stands_split [] ys n h = inr h
stands_split (x ∷ xs) ys n h = elim h [
  | inl is ↦ inl (inl is)
  | inr later ↦
      elim (stands_split xs ys n later) [ inl left ↦ inl (inr left) | inr right ↦ inr right ]
]

pub stands_parts : (xs : List ℕ) (n : ℕ) → StandsIn xs n
    → (front : List ℕ) × (rest : List ℕ) × (xs ≡ front ++ n ∷ rest)
stands_parts [] n h = absurd h
stands_parts (x ∷ xs) n h = elim h [
  | inl is ↦ ([], xs, ap (λ (m : ℕ). m ∷ xs) is)
  | inr later ↦ let p = stands_parts xs n later in (x ∷ p.0, p.1, ap (λ (ys : List ℕ). x ∷ ys) p.2)
]

pub parts_stand : (front rest : List ℕ) (n : ℕ) → StandsIn (front ++ n ∷ rest) n
parts_stand [] rest n = inl refl
parts_stand (x ∷ front) rest n = inr (parts_stand front rest n)

pub stands_left : (xs ys : List ℕ) (n : ℕ) → StandsIn xs n → StandsIn (xs ++ ys) n
stands_left [] ys n h = absurd h
stands_left (x ∷ xs) ys n h =
    elim h [ inl is ↦ inl is | inr later ↦ inr (stands_left xs ys n later) ]

pub stands_right : (xs ys : List ℕ) (n : ℕ) → StandsIn ys n → StandsIn (xs ++ ys) n
stands_right [] ys n h = h
stands_right (x ∷ xs) ys n h = inr (stands_right xs ys n h)

pub every_standing : (P : ℕ → Type 0) (xs : List ℕ) → ((n : ℕ) → StandsIn xs n → P n)
    → EveryOne P xs
every_standing P [] each = tt
every_standing P (x ∷ xs) each = (each x (inl refl), every_standing P xs (λ n h. each n (inr h)))

pub standing : (P : ℕ → Type 0) (xs : List ℕ) (n : ℕ) → EveryOne P xs → StandsIn xs n → P n
standing P [] n every h = absurd h
standing P (x ∷ xs) n every h =
    elim h [ inl is ↦ subst P is every.0 | inr later ↦ standing P xs n every.1 later ]

-- those of a row
pub row_slot : (first count slot : ℕ) → StandsIn (slots_in_row first count) slot
    → (k : ℕ) × (k < count) × (slot ≡ first + 4 * k)
row_slot first zero slot h = absurd h
row_slot first (suc count) slot h = elim h [
  | inl is ↦ (0, omega arith, omega arith)
  | inr later ↦
      let r = row_slot (first + 4) count slot later in let low = r.1 in let there = r.2 in
      (r.0 + 1, omega arith, omega arith)
]

pub row_parts : (first k more : ℕ) → slots_in_row first (k + suc more)
    ≡ slots_in_row first k ++ (first + 4 * k) ∷ slots_in_row (first + 4 * k + 4) more
row_parts first zero more =
    let e : 0 + suc more ≡ suc more = omega arith in
    let f : first + 4 * 0 ≡ first = omega arith in
    rw (e, f) refl
row_parts first (suc k) more =
    let e : suc k + suc more ≡ suc (k + suc more) = omega arith in
    let f : first + 4 + 4 * k ≡ first + 4 * suc k = omega arith in
    ap (slots_in_row first) e
    ∙ ap (λ xs. first ∷ xs) (row_parts (first + 4) k more
    ∙ ap (λ n. slots_in_row (first + 4) k ++ n ∷ slots_in_row (n + 4) more) f)

pub length-slots_in_row : (first count : ℕ) → length (slots_in_row first count) ≡ count
length-slots_in_row first zero = refl
length-slots_in_row first (suc count) = ap suc (length-slots_in_row (first + 4) count)

pub row_stands : (first count k : ℕ) → k < count
    → StandsIn (slots_in_row first count) (first + 4 * k)
row_stands first zero k below = absurd (omega arith)
row_stands first (suc count) zero below = inl (omega arith)
row_stands first (suc count) (suc k) below =
    let e : first + 4 + 4 * k ≡ first + 4 * suc k = omega arith in
    inr (rw e at (row_stands (first + 4) count k (omega arith)))

-- ---- all of them

pub every_slot : (P : ℕ → Type 0) (image : List ℕ) → ((slot : ℕ) → IsSlot image slot → P slot)
    → EveryOne P (slots_of image)
every_slot P image each = every_standing P (slots_of image) (λ n h. each n record { listed = h })

pub each_slot : (P : ℕ → Type 0) (image : List ℕ) → EveryOne P (slots_of image) → (slot : ℕ)
    → IsSlot image slot → P slot
each_slot P image every slot s = standing P (slots_of image) slot every s.listed

-- ---- how many stand before one

pub stands_below : (image : List ℕ) (slot k : ℕ) → StandsBehind image slot k → k < slots_total image
stands_below image slot k s =
    let all : length (s.front ++ slot ∷ s.rest) ≡ slots_total image = sym (ap length s.parts) in
    let parts = length-append s.front (slot ∷ s.rest) in
    let count = s.before in
    omega arith

-- what stands in the list is a slot
pub stands_slot : (image : List ℕ) (slot k : ℕ) → StandsBehind image slot k → IsSlot image slot
stands_slot image slot k s = record { listed = rw (← s.parts) at (parts_stand s.front s.rest slot) }

-- each slot stands in the list
pub slot_stands : (image : List ℕ) (slot : ℕ) → IsSlot image slot
    → (k : ℕ) × StandsBehind image slot k
slot_stands image slot s =
    let p = stands_parts (slots_of image) slot s.listed in
    (length p.0, record { front = p.0; rest = p.1; parts = p.2; before = refl })

same_at : (xs ys us vs : List ℕ) (x y : ℕ) → xs ++ x ∷ us ≡ ys ++ y ∷ vs → length xs ≡ length ys
    → x ≡ y
same_at [] [] us vs x y e len = cc
same_at [] (v ∷ ys) us vs x y e len = absurd (omega arith)
same_at (u ∷ xs) [] us vs x y e len = absurd (omega arith)
same_at (u ∷ xs) (v ∷ ys) us vs x y e len =
    let more : xs ++ x ∷ us ≡ ys ++ y ∷ vs = cc in
    same_at xs ys us vs x y more (omega arith)

pub same_slot : (image : List ℕ) (slot other k : ℕ) → StandsBehind image slot k
    → StandsBehind image other k → slot ≡ other
same_slot image slot other k a b = same_at a.front b.front a.rest b.rest slot other
    (sym a.parts ∙ b.parts) (a.before ∙ sym b.before)

number_there : (xs : List ℕ) (k : ℕ) → k < length xs → (slot : ℕ) × (front : List ℕ)
    × (rest : List ℕ) × (xs ≡ front ++ slot ∷ rest) × (length front ≡ k)
number_there [] k below = absurd (omega arith)
number_there (x ∷ xs) zero below = (x, [], xs, refl, refl)
number_there (x ∷ xs) (suc k) below =
    let n = number_there xs k (omega arith) in
    (n.0, x ∷ n.1, n.2, ap (λ (ys : List ℕ). x ∷ ys) n.3, ap suc n.4)

-- each number below how many there are has a slot
pub number_stands : (image : List ℕ) (k : ℕ) → k < slots_total image
    → (slot : ℕ) × StandsBehind image slot k
number_stands image k below =
    let n = number_there (slots_of image) k below in
    (n.0, record { front = n.1; rest = n.2; parts = n.3; before = n.4 })

-- two images with the same tables have the same
pub same_slots : (old new : List ℕ) → tables_of new ≡ tables_of old → slots_of new ≡ slots_of old
unfolding slots_of
same_slots old new same = ap slots_in same

-- ---- the first n slots

take_front : (front rest : List ℕ) (x : ℕ)
    → take (length front + 1) (front ++ x ∷ rest) ≡ front ++ x ∷ []
take_front front rest x =
    let parts = sym (append_assoc front (x ∷ []) rest) in
    let count : length (front ++ x ∷ []) ≡ length front + 1 = length-append front (x ∷ []) in
    ap (take (length front + 1)) parts ∙ take_at (front ++ x ∷ []) rest (length front + 1) count

-- those before a slot
pub first_slots-front : (image : List ℕ) (slot k : ℕ) → (s : StandsBehind image slot k)
    → first_slots image k ≡ s.front
first_slots-front image slot k s = ap (take k) s.parts ∙ take_at s.front (slot ∷ s.rest) k s.before

-- the slot after them is one more
pub first_slots-more : (image : List ℕ) (slot k : ℕ) → StandsBehind image slot k
    → first_slots image (k + 1) ≡ first_slots image k ++ slot ∷ []
first_slots-more image slot k s =
    ap (take (k + 1)) s.parts
    ∙ ap (λ (n : ℕ). take (n + 1) (s.front ++ slot ∷ s.rest)) (sym s.before)
    ∙ take_front s.front s.rest slot
    ∙ ap (λ (xs : List ℕ). xs ++ slot ∷ []) (sym (first_slots-front image slot k s))

pub first_slots-all : (image : List ℕ) (k : ℕ) → slots_total image ≤ k
    → first_slots image k ≡ slots_of image
first_slots-all image k most = take_all k (slots_of image) most

each_first : (P : ℕ → Type 0) (k : ℕ) (xs front rest : List ℕ) (x : ℕ) → xs ≡ front ++ x ∷ rest
    → length front < k → EveryOne P (take k xs) → P x
each_first P zero xs front rest x parts below every = absurd (omega arith)
each_first P (suc k) [] [] rest x parts below every = absurd cc
each_first P (suc k) [] (y ∷ front) rest x parts below every = absurd cc
each_first P (suc k) (z ∷ xs) [] rest x parts below every =
    let same : z ≡ x = cc in
    subst P same every.0
each_first P (suc k) (z ∷ xs) (y ∷ front) rest x parts below every =
    let more : xs ≡ front ++ x ∷ rest = cc in
    each_first P k xs front rest x more (omega arith) every.1

-- what holds of the first k slots holds of each of them
pub each_first_slot : (P : ℕ → Type 0) (image : List ℕ) (slot j k : ℕ) → StandsBehind image slot j
    → j < k → EveryOne P (first_slots image k) → P slot
each_first_slot P image slot j k s below every =
    let count = s.before in
    each_first P k (slots_of image) s.front s.rest slot s.parts (omega arith) every

every_first : (P : ℕ → Type 0) (k : ℕ) (done xs : List ℕ) → ((x : ℕ) (front rest : List ℕ) → done
    ++ xs ≡ front ++ x ∷ rest → length front < length done + k → P x) → EveryOne P (take k xs)
every_first P zero done xs each = tt
every_first P (suc k) done [] each = tt
every_first P (suc k) done (x ∷ xs) each = (
  each x done xs refl (omega arith),
  every_first P k (done ++ x ∷ []) xs (λ y front rest parts below.
      let one : length (done ++ x ∷ []) ≡ length done + 1 = length-append done (x ∷ []) in
      each y front rest (sym (append_assoc done (x ∷ []) xs) ∙ parts) (omega arith)),
)

-- and what holds of each that stands among them holds of them all
pub every_first_slot : (P : ℕ → Type 0) (image : List ℕ) (k : ℕ)
    → ((slot j : ℕ) → StandsBehind image slot j → j < k → P slot) → EveryOne P (first_slots image k)
every_first_slot P image k each = every_first P k [] (slots_of image) (λ x front rest parts below.
    each x (length front) record { front = front; rest = rest; parts = parts; before = refl }
    (let z : length {A = ℕ} [] + k ≡ k = omega arith in omega arith))

-- one slot more
pub every_first-more : (P : ℕ → Type 0) (image : List ℕ) (slot k : ℕ) → StandsBehind image slot k
    → EveryOne P (first_slots image k) → P slot → EveryOne P (first_slots image (k + 1))
every_first-more P image slot k s every here =
    subst (λ xs. EveryOne P xs) (sym (first_slots-more image slot k s)) (push _ every) where
      push : (xs : List ℕ) → EveryOne P xs → EveryOne P (xs ++ slot ∷ [])
      push [] h = (here, tt)
      push (x ∷ xs) h = (h.0, push xs h.1)

-- ---- where a slot is

-- the chunk is a table, and the slot is one of its
abbrev pub HoldsSlot : ℕ → ℕ → Chunk → Type 0
HoldsSlot slot at (free size) = ⊥
HoldsSlot slot at (movable bytes lock owner named) = ⊥
HoldsSlot slot at (fixed bytes owner) =
    (owner ≡ 0) × (at + 12 ≤ slot) × (slot + 4 ≤ at + 8 + length bytes) × ((slot - at) % 4 ≡ 0)

pub table_holds : (table : Table) (slot k : ℕ) → k < table.count → slot ≡ table.place + 4 + 4 * k
    → (at : ℕ) (c : Chunk) → TableHere table at c → HoldsSlot slot at c
table_holds table slot k low there at (free size) h = absurd h
table_holds table slot k low there at (movable bytes lock owner named) h = absurd h
table_holds table slot k low there at (fixed bytes owner) h =
    let place = h.1 in
    let len = h.2 in
    (h.0, omega arith, omega arith, omega arith)

in_tables : (image : List ℕ) (cs : List Chunk) (next : ℕ) (tables : List Table) (slot : ℕ)
    → IsChain image cs next tables → StandsIn (slots_further tables) slot
    → AnyPlaced (HoldsSlot slot) (area_start image) cs
in_tables image cs next [] slot chain h = absurd h
in_tables image cs next (table ∷ tables) slot chain h = elim (stands_split _ _ slot h) [
  | inl own ↦
      let r = row_slot (table.place + 4) table.count slot own in
      AnyPlaced-map _ (HoldsSlot slot) (table_holds table slot r.0 r.1 r.2) _ cs chain.1
  | inr later ↦ in_tables image cs (u32_at image table.place) tables slot chain.2 later
]

-- a slot lies in the first table
pub record InFirst (image : List ℕ) (slot : ℕ) : Type 0 where
  pub low : 16 ≤ slot
  pub high : slot + 4 ≤ table_end image
  pub whole : slot % 4 ≡ 0

pub slot_lies : (image : List ℕ) (cs : List Chunk) (slot : ℕ) → Tiles image cs → IsSlot image slot
    → InFirst image slot ⊎ AnyPlaced (HoldsSlot slot) (area_start image) cs
unfolding slots_of
slot_lies image cs slot t s = elim (stands_split _ _ slot s.listed) [
  | inl first ↦
      let r = row_slot 16 (slot_count image) slot first in let k = r.1 in let there = r.2 in
      inl record { low = omega arith; high = omega arith; whole = omega arith }
  | inr further ↦ inr (in_tables image cs (first_next image) _ slot t.chain further)
]

-- after the chunk's header, and within it
pub held_within : (slot at : ℕ) (c : Chunk) → HoldsSlot slot at c
    → (at + 12 ≤ slot) × (slot + 4 ≤ at + size_of c) × ((slot - at) % 4 ≡ 0)
held_within slot at (free size) h = absurd h
held_within slot at (movable bytes lock owner named) h = absurd h
held_within slot at (fixed bytes owner) h = let high = h.2 in (h.1, omega arith, h.3)

-- among chunks that are spelled from a multiple of 8 on
within_chunks : (image : List ℕ) (start end slot : ℕ) (cs : List Chunk)
    → SpelledAll image start cs end → start % 8 ≡ 0 → AnyPlaced (HoldsSlot slot) start cs
    → (start + 12 ≤ slot) × (slot + 4 ≤ end) × (slot % 4 ≡ 0)
within_chunks image start end slot [] s whole h = absurd h
within_chunks image start end slot (c ∷ cs) s whole h =
    let size = Spelled-size image start c s.0 in
    let eights = size.2 in
    let ends = SpelledAll-end image (start + size_of c) cs end s.1 in
    elim h [
      | inl own ↦
          let w = held_within slot start c own in let low = w.0 in let high = w.1 in
          let fours = w.2 in
          (low, omega arith, omega arith)
      | inr later ↦
          let rest = within_chunks image (start + size_of c) end slot cs s.1 (omega arith) later in
          let low = rest.0 in
          (omega arith, rest.1, rest.2)
    ]

pub holder_low : (slot at : ℕ) (cs : List Chunk) → AnyPlaced (HoldsSlot slot) at cs → at + 12 ≤ slot
holder_low slot at [] h = absurd h
holder_low slot at (c ∷ cs) h = elim h [
  | inl own ↦ (held_within slot at c own).0
  | inr later ↦ let low = holder_low slot (at + size_of c) cs later in omega arith
]

pub holder_high : (slot at : ℕ) (cs : List Chunk) → AnyPlaced (HoldsSlot slot) at cs
    → slot + 4 ≤ at + total cs
holder_high slot at [] h = absurd h
holder_high slot at (c ∷ cs) h = elim h [
  | inl own ↦ let high = (held_within slot at c own).1 in omega arith
  | inr later ↦ let high = holder_high slot (at + size_of c) cs later in omega arith
]

-- ---- where they lie

-- the bytes of a slot
pub record SlotFacts (image : List ℕ) (slot : ℕ) : Type 0 where
  pub low : 16 ≤ slot
  pub whole : slot % 4 ≡ 0
  pub inside : slot + 4 ≤ length image
  pub in_head : (slot + 4 ≤ table_end image) ⊎ (area_start image + 12 ≤ slot)

pub slot_facts : (image : List ℕ) (cs : List Chunk) (slot : ℕ) → Tiles image cs → IsSlot image slot
    → SlotFacts image slot
slot_facts image cs slot t s =
    let fits = t.head.a_chunk_fits in
    elim (slot_lies image cs slot t s) [
      | inl first ↦
          let low = first.low in let high = first.high in
          record { low = low; whole = first.whole; inside = omega arith; in_head = inl high }
      | inr further ↦
          let w = within_chunks image _ (length image) slot cs t.area (omega arith) further in
          let low = w.0 in
          record { low = omega arith; whole = w.2; inside = w.1; in_head = inr low }
    ]

-- two slots have no byte in common
pub slots_apart : (image : List ℕ) (cs : List Chunk) (slot other : ℕ) → Tiles image cs
    → IsSlot image slot → IsSlot image other → slot ≢ other
    → (slot + 4 ≤ other) ⊎ (other + 4 ≤ slot)
slots_apart image cs slot other t s o ne =
    let first = (slot_facts image cs slot t s).whole in
    let second = (slot_facts image cs other t o).whole in
    elim (cases_lt slot other) [ inl below ↦ inl (omega arith) | inr above ↦ inr (omega arith) ]

-- no slot lies in the bodies of these chunks: none of them is a fixed one of the manager's
abbrev pub HoldNoSlots : List Chunk → Type 0
HoldNoSlots [] = Unit {0}
HoldNoSlots (free size ∷ cs) = HoldNoSlots cs
HoldNoSlots (movable bytes lock owner slot ∷ cs) = HoldNoSlots cs
HoldNoSlots (fixed bytes owner ∷ cs) = (0 < owner) × HoldNoSlots cs

pub none_holds : (slot at : ℕ) (cs : List Chunk) → HoldNoSlots cs → AnyPlaced (HoldsSlot slot) at cs
    → ⊥
none_holds slot at [] n h = h
none_holds slot at (free size ∷ cs) n h =
    elim h [ inl own ↦ own | inr later ↦ none_holds slot (at + size) cs n later ]
none_holds slot at (movable bytes lock owner named ∷ cs) n h =
    elim h [ inl own ↦ own | inr later ↦ none_holds slot (at + need (length bytes)) cs n later ]
none_holds slot at (fixed bytes owner ∷ cs) n h = elim h [
  | inl own ↦ let some = n.0 in let none = own.0 in absurd (omega arith)
  | inr later ↦ none_holds slot (at + need (length bytes)) cs n.1 later
]

-- and none is a table
pub no_table_here : (table : Table) (at : ℕ) (cs : List Chunk) → HoldNoSlots cs
    → AnyPlaced (TableHere table) at cs → ⊥
no_table_here table at [] n t = t
no_table_here table at (free size ∷ cs) n t =
    elim t [ inl own ↦ own | inr later ↦ no_table_here table (at + size) cs n later ]
no_table_here table at (movable bytes lock owner named ∷ cs) n t =
    elim t [ inl own ↦ own | inr later ↦ no_table_here table (at + need (length bytes)) cs n later ]
no_table_here table at (fixed bytes owner ∷ cs) n t = elim t [
  | inl own ↦ let some = n.0 in let none = own.0 in absurd (omega arith)
  | inr later ↦ no_table_here table (at + need (length bytes)) cs n.1 later
]

pub free_hold_none : (cs : List Chunk) → AllFree cs → HoldNoSlots cs
free_hold_none [] f = tt
free_hold_none (free size ∷ cs) f = free_hold_none cs f
free_hold_none (movable bytes lock owner slot ∷ cs) f = absurd f
free_hold_none (fixed bytes owner ∷ cs) f = absurd f

-- chunks of a stretch, of which none stays
pub loose_hold_none : (cs : List Chunk) → NoneStays cs → HoldNoSlots cs
loose_hold_none [] n = tt
loose_hold_none (free size ∷ cs) n = loose_hold_none cs n
loose_hold_none (movable bytes zero owner slot ∷ cs) n = loose_hold_none cs n
loose_hold_none (movable bytes (suc count) owner slot ∷ cs) n = absurd n
loose_hold_none (fixed bytes owner ∷ cs) n = absurd n

pub both_hold_none : (xs ys : List Chunk) → HoldNoSlots xs → HoldNoSlots ys → HoldNoSlots (xs ++ ys)
both_hold_none [] ys n m = m
both_hold_none (free size ∷ xs) ys n m = both_hold_none xs ys n m
both_hold_none (movable bytes lock owner slot ∷ xs) ys n m = both_hold_none xs ys n m
both_hold_none (fixed bytes owner ∷ xs) ys n m = (n.0, both_hold_none xs ys n.1 m)

-- a chunk that has a name, and free ones after it
names_hold_none : (at : ℕ) (c : Chunk) (run : List Chunk) (name : ℕ) (live : LiveChunk)
    → NamedHere name live at c → AllFree run → HoldNoSlots (c ∷ run)
names_hold_none at (free size) run name live named f = absurd named
names_hold_none at (movable bytes lock owner slot) run name live named f = free_hold_none run f
names_hold_none at (fixed bytes owner) run name live named f =
    (fixed_owned at bytes owner named, free_hold_none run f)

pub named_hold_none : (image : List ℕ) (before : List Chunk) (c : Chunk) (run after : List Chunk)
    (name : ℕ) (live : LiveChunk) → IsHeap image (before ++ ((c ∷ run) ++ after))
    → NamedHere name live (area_start image + total before) c → AllFree run → HoldNoSlots (c ∷ run)
named_hold_none image before c run after name live h named f =
    names_hold_none (area_start image + total before) c run name live named f

-- a slot lies before some bytes, or after a header and a word that follow them
abbrev pub IsBeside : ℕ → ℕ → ℕ → Type 0
IsBeside slot low high = (slot + 4 ≤ low) ⊎ (high + 12 ≤ slot)

-- each slot lies next to these chunks
pub slot_beside : (image : List ℕ) (before mid after : List Chunk) (at slot : ℕ)
    → Tiles image (before ++ (mid ++ after)) → HoldNoSlots mid
    → at ≡ area_start image + total before → IsSlot image slot → IsBeside slot at (at + total mid)
slot_beside image before mid after at slot t none there s = elim (slot_lies image _ slot t s) [
  | inl first ↦ let high = first.high in inl (omega arith)
  | inr further ↦ elim (AnyPlaced-split (HoldsSlot slot) _ before (mid ++ after) further) [
    | inl front ↦ let high = holder_high slot (area_start image) before front in inl (omega arith)
    | inr rest ↦ elim (AnyPlaced-split (HoldsSlot slot) _ mid after rest) [
      | inl here ↦ absurd (none_holds slot (area_start image + total before) mid none here)
      | inr back ↦ let low = holder_low slot _ after back in inr (omega arith)
    ]
  ]
]

-- no slot is the place of a chunk that has a name
pub slot_no_place : (image : List ℕ) (before : List Chunk) (c : Chunk) (after : List Chunk)
    (name slot : ℕ) (live : LiveChunk) → Tiles image (before ++ c ∷ after)
    → NamedHere name live (area_start image + total before) c → IsSlot image slot
    → slot ≢ area_start image + total before + 8
slot_no_place image before c after name slot live t named s is =
    elim (slot_beside image before (c ∷ []) after (area_start image + total before) slot t
    (names_hold_none (area_start image + total before) c [] name live named tt) refl s) [
      | inl low ↦ absurd (omega arith)
      | inr high ↦ absurd (omega arith)
    ]

-- nor is the name of a fixed chunk, where none stands
pub slot_no_fixed : (slot at size : ℕ) → IsBeside slot at (at + size) → slot ≢ fixed_name at
slot_no_fixed slot at size (inl front) is = let place = fixed_place at in absurd (omega arith)
slot_no_fixed slot at size (inr back) is = let place = fixed_place at in absurd (omega arith)

-- ---- a slot alone was written

-- two images agree from an offset up to another, but for the word of a slot
pub record SameAside (old new : List ℕ) (start end slot : ℕ) : Type 0 where
  pub len : length new ≡ length old
  pub same : (k : ℕ) → start ≤ k → k < end → (k < slot) ⊎ (slot + 4 ≤ k)
      → slice_index old k ≡ slice_index new k

aside_below : (old new : List ℕ) (start end slot low high : ℕ) → SameAside old new start end slot
    → start ≤ low → high ≤ end → high ≤ slot → SameBetween low high old new
aside_below old new start end slot low high a from to under =
    record { same = λ k l h. a.same k (omega arith) (omega arith) (inl (omega arith)) }

aside_above : (old new : List ℕ) (start end slot low high : ℕ) → SameAside old new start end slot
    → start ≤ low → high ≤ end → slot + 4 ≤ low → SameBetween low high old new
aside_above old new start end slot low high a from to over =
    record { same = λ k l h. a.same k (omega arith) (omega arith) (inr (omega arith)) }

front_of : (image : List ℕ) (at n : ℕ) → 4 ≤ n
    → take 4 (take (at + n - at) (drop at image)) ≡ take (at + 4 - at) (drop at image)
front_of image at n most =
    let a : at + n - at ≡ n = omega arith in
    let b : at + 4 - at ≡ 4 = omega arith in
    ap (λ k. take 4 (take k (drop at image))) a ∙ take-take 4 n (drop at image) most
    ∙ sym (ap (λ k. take k (drop at image)) b)

-- a table of which a slot was written has the value that it had
table_written : (old new : List ℕ) (at slot : ℕ) (bytes : List ℕ)
    → SameAside old new at (at + need (length bytes)) slot → at + 12 ≤ slot
    → slot + 4 ≤ at + 8 + length bytes → IsLive old at bytes 15 0 0 → IsLive new at bytes 15 0 0
table_written old new at slot bytes a low high s =
    let inside = s.inside in
    let len = a.len in
    let below = aside_below old new at _ slot at slot a (omega arith) (omega arith) (omega arith) in
    let next : take 4 (take (at + 8 + length bytes - (at + 8)) (drop (at + 8) new))
    ≡ take 4 (take (at + 8 + length bytes - (at + 8)) (drop (at + 8) old)) =
    front_of new (at + 8) (length bytes) (omega arith)
    ∙ sym (slice-same (at + 8) (at + 8 + 4) old new (SameBetween-within at slot (at + 8)
    (at + 8 + 4) old new below (omega arith) (omega arith)) (omega arith) (omega arith))
    ∙ sym (front_of old (at + 8) (length bytes) (omega arith)) in
    let many : length (take (at + 8 + length bytes - (at + 8)) (drop (at + 8) new))
    ≡ length (take (at + 8 + length bytes - (at + 8)) (drop (at + 8) old)) =
    simp (length-take, length-drop) (omega arith) in
    record {
      first_word =
          sym (u32_at-same at old new at slot below (omega arith) (omega arith)) ∙ s.first_word;
      size_fits = s.size_fits;
      second_word = sym (u32_at-same (at + 4) old new at slot below (omega arith) (omega arith))
          ∙ s.second_word;
      lock_fits = s.lock_fits;
      owner_fits = s.owner_fits;
      h_offset_fits = s.h_offset_fits;
      body = seen-next _ _ next many ∙ s.body;
      inside = omega arith;
    }

holder_written : (old new : List ℕ) (at slot : ℕ) (c : Chunk)
    → SameAside old new at (at + size_of c) slot → HoldsSlot slot at c → Spelled old at c
    → Spelled new at c
holder_written old new at slot (free size) a h s = absurd h
holder_written old new at slot (movable bytes lock owner named) a h s = absurd h
holder_written old new at slot (fixed bytes owner) a h s = subst (λ v. IsLive new at bytes 15 v 0)
    (sym h.0) (table_written old new at slot bytes a h.1 h.2 (rw h.0 at s))

-- the chunks among which the slot's table is are spelled again
written_again : (old new : List ℕ) (at slot : ℕ) (cs : List Chunk)
    → SameAside old new at (at + total cs) slot → at + total cs ≤ length old
    → AnyPlaced (HoldsSlot slot) at cs → SpelledAll old at cs (at + total cs)
    → SpellsAgain old new at cs
written_again old new at slot [] a inside h s = absurd h
written_again old new at slot (c ∷ cs) a inside h s =
    let size = Spelled-size old at c s.0 in
    let least = size.0 in
    let e : at + (size_of c + total cs) ≡ at + size_of c + total cs = omega arith in
    let spelled : SpelledAll old (at + size_of c) cs (at + size_of c + total cs) = rw e at s.1 in
    elim h [
      | inl own ↦
          let fits = held_within slot at c own in
          let low = fits.0 in
          let high = fits.1 in
          let rest = spells_same old new (at + size_of c) cs
          (aside_above old new at (at + total (c ∷ cs)) slot (at + size_of c)
          (at + size_of c + total cs) a (omega arith) (omega arith) high) a.len spelled in
          joined (holder_written old new at slot c
          record { len = a.len; same = λ k l m. a.same k l (omega arith) } own s.0)
          (sym (u32_at-same at old new at slot (aside_below old new at (at + total (c ∷ cs)) slot at
          slot a (omega arith) (omega arith) (omega arith)) (omega arith) (omega arith)))
          (no_free c own) rest
      | inr later ↦
          let low = holder_low slot (at + size_of c) cs later in
          let rest = written_again old new (at + size_of c) slot cs
          record { len = a.len; same = λ k l m. a.same k (omega arith) (omega arith) }
          (omega arith) later spelled in
          let here = aside_below old new at (at + total (c ∷ cs)) slot at (at + size_of c) a
          (omega arith) (omega arith) (omega arith) in
          joined (Spelled-same old new at c here a.len s.0)
          (sym (u32_at-same at old new at (at + size_of c) here (omega arith) (omega arith)))
          (λ there f. same_second there c f here least) rest
    ] where
      joined : Spelled new at c → u32_at new at ≡ u32_at old at
          → ((there : ℕ) → IsFreeAt there at c → u32_at new (there + 4) ≡ u32_at old (there + 4))
          → SpellsAgain old new (at + size_of c) cs → SpellsAgain old new at (c ∷ cs)
      joined first word second rest = record {
        spelled = (
          first,
          rw (let e : at + size_of c + total cs ≡ at + (size_of c + total cs) = omega arith in
              e) at rest.spelled,
        );
        words = (word, rest.words);
        seconds =
            λ there f. elim f [ inl own ↦ second there own | inr later ↦ rest.seconds there later ];
      }

      no_free : (d : Chunk) → HoldsSlot slot at d → (there : ℕ) → IsFreeAt there at d
          → u32_at new (there + 4) ≡ u32_at old (there + 4)
      no_free (free size) own there f = absurd own
      no_free (movable bytes lock owner named) own there f = absurd f
      no_free (fixed bytes owner) own there f = absurd f

      same_second : (there : ℕ) (d : Chunk) → IsFreeAt there at d
          → SameBetween at (at + size_of c) old new → 8 ≤ size_of c
          → u32_at new (there + 4) ≡ u32_at old (there + 4)
      same_second there (free size) f same least = rw f at (sym
          (u32_at-same (at + 4) old new at (at + size_of c) same (omega arith) (omega arith)))
      same_second there (movable bytes lock owner named) f same least = absurd f
      same_second there (fixed bytes owner) f same least = absurd f

-- where a slot alone was written among them, chunks are spelled again
pub spells_beside : (old new : List ℕ) (front cs back : List Chunk) (at slot : ℕ)
    → Tiles old (front ++ (cs ++ back)) → at ≡ area_start old + total front → IsSlot old slot
    → ((k : ℕ) → at ≤ k → k < at + total cs → (k < slot) ⊎ (slot + 4 ≤ k)
    → slice_index old k ≡ slice_index new k) → length new ≡ length old → SpellsAgain old new at cs
spells_beside old new front cs back at slot t there s same len = elim (slot_lies old _ slot t s) [
  | inl first ↦
      let high = first.high in
      apart (λ k low high_k. same k low high_k (inr (omega arith)))
  | inr further ↦ elim (AnyPlaced-split _ (area_start old) front (cs ++ back) further) [
    | inl before ↦
        let high = holder_high slot (area_start old) front before in
        apart (λ k low high_k. same k low high_k (inr (omega arith)))
    | inr rest ↦ elim (AnyPlaced-split (HoldsSlot slot) _ cs back rest) [
      | inl here ↦ written_again old new at slot cs record { len = len; same = same } inside
          (rw (← there) at here) spelled
      | inr behind ↦
          let low = holder_low slot (area_start old + total front + total cs) back behind in
          apart (λ k low_k high_k. same k low_k high_k (inl (omega arith)))
    ]
  ]
] where
  parts : SpelledAll old (area_start old + total front) cs (area_start old + total front + total cs)
      × SpelledAll old (area_start old + total front + total cs) back (length old)
  parts =
      let behind = (SpelledAll-split old _ front (cs ++ back) (length old) t.area).1 in
      SpelledAll-split old (area_start old + total front) cs back (length old) behind

  spelled : SpelledAll old at cs (at + total cs)
  spelled = subst (λ (n : ℕ). SpelledAll old n cs (n + total cs)) (sym there) parts.0

  inside : at + total cs ≤ length old
  inside = let end = SpelledAll-end old _ back (length old) parts.1 in omega (arith, there, end)

  apart : ((k : ℕ) → at ≤ k → k < at + total cs → slice_index old k ≡ slice_index new k)
      → SpellsAgain old new at cs
  apart each = spells_same old new at cs (record { same = each }) len spelled

-- ---- where the chunks begin

-- where they have the same tables, their chunks begin at one offset
pub start_listed : (old new : List ℕ) → tables_of new ≡ tables_of old
    → area_start new ≡ area_start old
start_listed old new same = ap (λ t. aligned (16 + 4 * t.count + cond t.chained 4 0)) same

pub ends_listed : (old new : List ℕ) → tables_of new ≡ tables_of old → head_end new ≡ head_end old
ends_listed old new same = ap (λ (t : Tables). 16 + 4 * t.count + cond {A = ℕ} t.chained 4 0) same

-- the tables lie within
pub tiled_table : (image : List ℕ) (cs : List Chunk) → Tiles image cs → TablesLie image
tiled_table image cs t = record {
  first = let fits = t.head.a_chunk_fits in omega arith;
  slots = every_slot (λ slot. slot + 4 ≤ length image) image
      (λ slot s. (slot_facts image cs slot t s).inside);
}

-- they do in another image as long, which has the same
pub tables_lie : (old new : List ℕ) → length new ≡ length old → tables_of new ≡ tables_of old
    → TablesLie old → TablesLie new
tables_lie old new len same lie =
    let ends = ends_listed old new same in
    let first = lie.first in
    record {
      first = omega (arith, ends, len, first);
      slots = rw (← (same_slots old new same)) at (rw (← len) at lie.slots);
    }

-- a slot lies within a memory that has the tables
pub slot_within : (memory : Memory) (slot : ℕ) → HasTable memory → IsSlot memory.bytes slot
    → IsWithin memory slot 4
slot_within memory slot has s = record {
  inside = each_slot (λ slot. slot + 4 ≤ length memory.bytes) memory.bytes has.lie.slots slot s;
  misses = each_slot (λ slot. Misses memory.lents slot 4) memory.bytes has.slots_miss slot s;
}

-- a memory of which nothing is lent has them if they lie within it
pub whole_table : (memory : Memory) → memory.lents ≡ [] → TablesLie memory.bytes → HasTable memory
whole_table memory none lie = record {
  lie = lie;
  first_misses = all_misses memory.lents 0 (head_end memory.bytes) none;
  slots_miss = every_slot (λ slot. Misses memory.lents slot 4) memory.bytes
      (λ slot s. all_misses memory.lents slot 4 none);
}

-- of an image that is no chain
pub start_counted : (image : List ℕ) (count : ℕ) → is_chained image ≡ false
    → slot_count image ≡ count → area_start image ≡ start_behind count
start_counted image count plain is =
    let none : behind_table image ≡ 0 = ap (λ (b : Bool). cond {A = ℕ} b 4 0) plain in
    ap aligned (let e : head_end image ≡ 16 + 4 * count = omega (arith, none, is) in e)

-- ---- in two images

pub slot_alike : (old new : List ℕ) (slot : ℕ) → slots_of new ≡ slots_of old → IsSlot old slot
    → IsSlot new slot
slot_alike old new slot same s = record { listed = rw (← same) at s.listed }

-- ---- the test

Decides-stands : (xs : List ℕ) (n : ℕ) → Decides (stands_in xs n) (StandsIn xs n)
Decides-stands [] n = (λ e. absurd cc, λ h. absurd h)
Decides-stands (x ∷ xs) n = Decides-or _ _ (Decides-eqb x n) (Decides-stands xs n)

pub Decides-slot : (image : List ℕ) (slot : ℕ) → Decides (is_slot image slot) (IsSlot image slot)
Decides-slot image slot = Decides-like _ (λ h. record { listed = h }) (λ s. s.listed)
    (Decides-stands (slots_of image) slot)
