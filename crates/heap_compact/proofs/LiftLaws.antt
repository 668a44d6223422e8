-- When all lifted chunks are mended, the image is a heap again.
use Rattle.heap_compact.proofs.Words.{◌≡◌, ℕ, zero, suc, ◌+◌, ◌-◌, ◌^◌, ◌<◌, List, [], ◌∷◌, ◌++◌, refl, sym, ap, subst, ◌∙◌, append_assoc, arith, inl, inr, ◌⊎◌, ◌↔◌, cases_eq, u32_at, Chunk, free, movable, fixed, size_of, total, Table, Tables, IsSlot, area_start, further_tables, BodyHere, IsBody, IsKnownIfFixed, ManagersHere, directory_of, HasDirectory, IsHeap, EveryPlaced, AnyPlaced, chunks_of, NoneStays, WritesPlain, lives, Lift, Lifting, HasFreeBehind, Lifts, IsFreeChunk, BecomesExactly, IsBody-low, IsBody-high, EveryPlaced-append, EveryPlaced-split, AnyPlaced-left, AnyPlaced-right, AnyPlaced-split, total-append, slot_alike, start_listed, free_plain, lives_plain, middle_plain, chunks_of-tiled}
use Rattle.heap_compact.proofs.ExactLaws.{exactly_start}

-- ---- what does not depend on where a chunk stands

loose_known : (tables : List Table) (at : ℕ) (cs : List Chunk) → NoneStays cs
    → EveryPlaced (IsKnownIfFixed tables) at cs
loose_known tables at [] n = tt
loose_known tables at (free size ∷ cs) n = (tt, loose_known tables (at + size) cs n)
loose_known tables at (movable bytes zero owner slot ∷ cs) n = (tt, loose_known _ _ cs n)
loose_known tables at (movable bytes (suc count) owner slot ∷ cs) n = absurd n
loose_known tables at (fixed bytes owner ∷ cs) n = absurd n

managers_here : (slot m n : ℕ) (c : Chunk) → ManagersHere slot m c → ManagersHere slot n c
managers_here slot m n (free size) h = h
managers_here slot m n (movable bytes lock owner named) h = h
managers_here slot m n (fixed bytes owner) h = h

managers_anywhere : (slot m n : ℕ) (cs : List Chunk) → AnyPlaced (ManagersHere slot) m cs
    → AnyPlaced (ManagersHere slot) n cs
managers_anywhere slot m n [] h = h
managers_anywhere slot m n (c ∷ cs) h = elim h [ inl here ↦ inl (managers_here slot m n c here) | inr later ↦ inr (managers_anywhere slot (m + size_of c) (n + size_of c) cs later) ]

-- ---- where bodies are, once their chunks went up

body_up : (slot place at by : ℕ) (c : Chunk) → BodyHere slot place at c
    → BodyHere slot (place + by) (at + by) c
body_up slot place at by (free size) b = b
body_up slot place at by (movable bytes lock owner named) b = let e = b.1 in (b.0, omega arith)
body_up slot place at by (fixed bytes owner) b = b

bodies_up : (slot place at by : ℕ) (cs : List Chunk) → IsBody at cs slot place
    → IsBody (at + by) cs slot (place + by)
bodies_up slot place at by [] b = b
bodies_up slot place at by (c ∷ cs) b = elim b [
  | inl here ↦ inl (body_up slot place at by c here)
  | inr later ↦ let e : at + size_of c + by ≡ at + by + size_of c = omega arith in inr (rw e at (bodies_up slot place (at + size_of c) by cs later))
]

body_down : (slot place at by : ℕ) (c : Chunk) → BodyHere slot place (at + by) c
    → BodyHere slot (place - by) at c
body_down slot place at by (free size) b = b
body_down slot place at by (movable bytes lock owner named) b = let e = b.1 in (b.0, omega arith)
body_down slot place at by (fixed bytes owner) b = b

bodies_down : (slot place at by : ℕ) (cs : List Chunk) → IsBody (at + by) cs slot place
    → IsBody at cs slot (place - by)
bodies_down slot place at by [] b = b
bodies_down slot place at by (c ∷ cs) b = elim b [
  | inl here ↦ inl (body_down slot place at by c here)
  | inr later ↦ let e : at + by + size_of c ≡ at + size_of c + by = omega arith in inr (bodies_down slot place (at + size_of c) by cs (rw e at later))
]

-- a body among chunks in a row
pub body_in : (at : ℕ) (xs ys : List Chunk) (next slot place : ℕ) → next ≡ at + total xs
    → IsBody at (xs ++ ys) slot place → IsBody at xs slot place ⊎ IsBody next ys slot place
body_in at xs ys next slot place e b = elim (AnyPlaced-split _ at xs ys b) [ inl front ↦ inl front | inr back ↦ inr (rw (← e) at back) ]

pub body_behind : (at : ℕ) (xs ys : List Chunk) (next slot place : ℕ) → next ≡ at + total xs
    → IsBody next ys slot place → IsBody at (xs ++ ys) slot place
body_behind at xs ys next slot place e b = AnyPlaced-right _ at xs ys (rw e at b)

pub body_front : (at : ℕ) (xs ys : List Chunk) (slot place : ℕ) → IsBody at xs slot place
    → IsBody at (xs ++ ys) slot place
body_front at xs ys slot place b = AnyPlaced-left (BodyHere slot place) at xs ys b

-- ---- all are mended: the ties are whole again

module _ {gap : ℕ} {u : Lift gap} {image : List ℕ} {moved : List Chunk} {at : ℕ} (l : Lifting u image moved [] at) where
  -- the chunks before and after
  abbrev unlifted : List Chunk
  unlifted = u.before ++ (moved ++ free gap ∷ u.after)

  abbrev lifted : List Chunk
  lifted = u.before ++ free gap ∷ (moved ++ u.after)

  start : ℕ
  start = area_start u.old + total u.before

  is_start : start ≡ area_start u.old + total u.before
  unfolding start
  is_start = refl

  end : at ≡ start + gap + total moved
  unfolding start
  end = l.there

  -- a slot that contained a place before
  to_new : (slot : ℕ) → IsSlot u.old slot → 0 < u32_at u.old slot
      → IsBody (area_start u.old) lifted slot (u32_at image slot)
  to_new slot s some = elim (body_in (area_start u.old) u.before (moved ++ free gap ∷ u.after) _ slot (u32_at u.old slot) is_start ((l.heap.tied slot (u32_at u.old slot) some).0 (s, refl))) [
    | inl front ↦
        let high = IsBody-high (area_start u.old) u.before slot (u32_at u.old slot) front in
        let same : u32_at image slot ≡ u32_at u.old slot = l.kept slot s (inl (omega (arith, high, is_start))) in
        body_front (area_start u.old) u.before _ slot (u32_at image slot) (rw (← same) at front)
    | inr rest ↦ elim (body_in start moved _ _ slot (u32_at u.old slot) refl rest) [
      | inl here ↦
          let low = IsBody-low start moved slot (u32_at u.old slot) here in
          let high = IsBody-high start moved slot (u32_at u.old slot) here in
          let same : u32_at image slot ≡ u32_at u.old slot + gap = l.lifted slot s (omega (arith, low, is_start)) (omega (arith, high, end)) in
          body_behind (area_start u.old) u.before _ _ slot (u32_at image slot) is_start
          (inr (body_front _ _ _ slot _ (rw (← same) at (bodies_up slot _ start gap moved here))))
      | inr behind ↦ elim behind [
        | inl none ↦ absurd none
        | inr back ↦
            let low = IsBody-low _ u.after slot (u32_at u.old slot) back in
            let same : u32_at image slot ≡ u32_at u.old slot = l.kept slot s (inr (omega (arith, low, end))) in
            let e : start + total moved + gap ≡ start + gap + total moved = omega arith in
            body_behind (area_start u.old) u.before _ _ slot (u32_at image slot) is_start
            (inr (body_behind (start + gap) moved u.after (start + gap + total moved) slot (u32_at image slot) refl (subst (λ (n : ℕ). IsBody n u.after slot (u32_at image slot)) e (subst (λ (p : ℕ). IsBody (start + total moved + gap) u.after slot p) (sym same) back))))
      ]
    ]
  ]

  -- a body that there is now
  of_old : (slot place : ℕ) → IsBody (area_start u.old) unlifted slot place → 0 < place
      → IsSlot u.old slot × (u32_at u.old slot ≡ place)
  of_old slot place b some = (l.heap.tied slot place some).1 b

  to_old : (slot place : ℕ) → IsBody (area_start u.old) lifted slot place
      → IsSlot u.old slot × (u32_at image slot ≡ place)
  to_old slot place b = elim (body_in (area_start u.old) u.before _ _ slot place is_start b) [
    | inl front ↦
        let low = IsBody-low (area_start u.old) u.before slot place front in
        let high = IsBody-high (area_start u.old) u.before slot place front in
        let was = of_old slot place (body_front _ u.before _ slot place front) (omega arith) in
        (was.0, l.kept slot was.0 (inl (omega (arith, high, was.1, is_start))) ∙ was.1)
    | inr rest ↦ elim rest [
      | inl none ↦ absurd none
      | inr more ↦ elim (body_in (start + gap) moved u.after (start + gap + total moved) slot place refl more) [
        | inl here ↦
            let low = IsBody-low (start + gap) moved slot place here in
            let high = IsBody-high (start + gap) moved slot place here in
            let was = of_old slot (place - gap) (body_behind (area_start u.old) u.before (moved ++ free gap ∷ u.after) _ slot (place - gap) is_start (body_front start moved (free gap ∷ u.after) slot (place - gap) (bodies_down slot place start gap moved here))) (omega arith) in
            let e : u32_at u.old slot + gap ≡ place = omega arith in
            (was.0, l.lifted slot was.0 (omega (arith, low, was.1, is_start)) (omega (arith, high, was.1, end)) ∙ e)
        | inr back ↦
            let low = IsBody-low (start + gap + total moved) u.after slot place back in
            let e : start + gap + total moved ≡ start + total moved + gap = omega arith in
            let was = of_old slot place (body_behind _ u.before _ _ slot place is_start
            (body_behind start moved _ _ slot place refl (inr (rw e at back)))) (omega arith) in
            (was.0, l.kept slot was.0 (inr (omega (arith, low, was.1, end))) ∙ was.1)
      ]
    ]
  ]

  new_start : area_start image ≡ area_start u.old
  new_start = start_listed u.old image l.tables

  slot_new : (slot : ℕ) → IsSlot u.old slot → IsSlot image slot
  slot_new slot s = slot_alike _ image _ l.slots s

  slot_old : (slot : ℕ) → IsSlot image slot → IsSlot u.old slot
  slot_old slot s = slot_alike _ u.old _ (sym l.slots) s

  place_new : (slot place : ℕ) → 0 < place → u32_at image slot ≡ place → IsSlot u.old slot
      → IsBody (area_start u.old) lifted slot place
  place_new slot place some e s = elim (cases_eq (u32_at u.old slot) 0) [
    | inl none ↦ let same : u32_at image slot ≡ u32_at u.old slot = l.kept slot s (inl (omega (arith, none))) in absurd (omega arith)
    | inr used ↦ rw e at (to_new slot s (omega arith))
  ]

  tied_again : (slot place : ℕ) → 0 < place → ((IsSlot image slot × (u32_at image slot ≡ place)) ↔ IsBody (area_start image) lifted slot place)
  tied_again slot place some = (
    λ s. rw (← new_start) at (place_new slot place some s.1 (slot_old slot s.0)),
    λ b. let s = to_old slot place (rw new_start at b) in (slot_new slot s.0, s.1),
  )

  known_again : NoneStays moved
      → EveryPlaced (IsKnownIfFixed (further_tables image)) (area_start image) lifted
  known_again loose =
      let known : ℕ → Chunk → Type 0 = IsKnownIfFixed (further_tables u.old) in
      let first = EveryPlaced-split known (area_start u.old) u.before _ l.heap.fixed_are_known in
      let second = EveryPlaced-split known _ moved (free gap ∷ u.after) first.1 in
      let here : ℕ = area_start u.old + total u.before in
      let e : here + total moved + gap ≡ here + gap + total moved = omega arith in
      subst (λ (ts : List Table). EveryPlaced (IsKnownIfFixed ts) (area_start image) lifted) (sym (ap (λ (t : Tables). t.further) l.tables))
      (subst (λ (n : ℕ). EveryPlaced known n lifted) (sym new_start)
      (EveryPlaced-append known (area_start u.old) u.before (free gap ∷ (moved ++ u.after)) first.0
      (tt, EveryPlaced-append known _ moved _ (loose_known _ _ moved loose) (rw e at second.1.1))))

  managers_again : (slot : ℕ) → AnyPlaced (ManagersHere slot) (area_start u.old) unlifted
      → AnyPlaced (ManagersHere slot) (area_start image) lifted
  managers_again slot h =
      let here : ℕ = area_start image + total u.before in
      let P : ℕ → Chunk → Type 0 = ManagersHere slot in
      elim (AnyPlaced-split P (area_start u.old) u.before (moved ++ free gap ∷ u.after) h) [
        | inl front ↦ AnyPlaced-left P _ _ _ (managers_anywhere slot _ _ _ front)
        | inr rest ↦ AnyPlaced-right P _ _ (free gap ∷ (moved ++ u.after)) (inr (elim (AnyPlaced-split P (area_start u.old + total u.before) moved (free gap ∷ u.after) rest) [
          | inl mid ↦ AnyPlaced-left P _ _ _ (managers_anywhere slot _ _ _ mid)
          | inr more ↦ AnyPlaced-right P (here + gap) moved u.after (elim more [
            | inl none ↦ absurd none
            | inr back ↦ managers_anywhere slot _ _ _ back
          ])
        ]))
      ]

  directory_again : HasDirectory image lifted
  directory_again = elim l.heap.directory [
    | inl none ↦ inl (l.directory ∙ none)
    | inr m ↦ inr (rw (← l.directory) at (managers_again (directory_of u.old) m))
  ]

  heap_again : NoneStays moved → IsHeap image lifted
  heap_again loose = record { tiles = l.tiles; tied = tied_again; fixed_are_known = known_again loose; directory = directory_again }

  lift_plain : gap < 2 ^ 24 → lives moved ≡ moved → WritesPlain u.old image
  lift_plain small live =
      let sizes = total-append moved (free gap ∷ []) in
      let was : chunks_of u.old ≡ u.before ++ ((moved ++ free gap ∷ []) ++ u.after) =
      chunks_of-tiled _ _ l.heap.tiles ∙ ap (λ (cs : List Chunk). u.before ++ cs) (sym (append_assoc moved (free gap ∷ []) u.after)) in
      let word : u32_at image start ≡ 2 ^ 31 + gap = rw (← is_start) at l.plain in
      middle_plain _ _ _ _ (free gap ∷ moved) u.after _ was l.tiles new_start is_start (omega (arith, sizes)) l.front
      (rw (let same : at + total [] ≡ start + total (moved ++ free gap ∷ []) = omega (arith, sizes, end) in same) at l.back)
      (free_plain image start gap moved word small (lives_plain image (start + gap) _ live))

  pub lift_done : gap < 2 ^ 24 → lives moved ≡ moved → NoneStays moved
      → BecomesExactly u.old image lifted
  lift_done small live loose = record {
    frame = record { accepted = (lifted, heap_again loose); len = l.len; tables = l.tables; slots = l.slots; directory = l.directory };
    exact = chunks_of-tiled _ _ l.tiles;
    plain = lift_plain small live;
  }

-- the free chunk stands where the first of them stood
pub lifted_room : {old new : List ℕ} {start end gap : ℕ} → HasFreeBehind old start end gap
    → Lifts old new start end gap → IsFreeChunk new start gap
lifted_room f lifts =
    let b = lifts f in
    record { before = f.before; after = f.mid ++ f.after; chunks = b.exact; there = f.from ∙ ap (λ n. n + total f.before) (sym (exactly_start b)) }
