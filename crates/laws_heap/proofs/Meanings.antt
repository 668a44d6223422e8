-- An accepted heap holds exactly one map, and that is the one which is read off it.
use Rattle.laws_heap.proofs.Words.{◌≡◌, ℕ, ◌+◌, ◌≤◌, Bool, true, false, cond, List, [], ◌∷◌, ◌++◌, length, Option, Some, None, refl, sym, ap, subst, ◌∙◌, arith, inl, inr, eqb-true, eq-eqb, ◌⊎◌, ◌↔◌, ◌==◌, u32_at, Chunk, free, movable, fixed, need, size_of, total, IsSlot, area_start, BodyHere, IsBody, IsHeap, HeapAccepted, AnyPlaced, LiveChunk, ChunkMap, NamedHere, Holds, chunks_of, live_under, held, is_fixed_name}
use Rattle.laws_heap.proofs.Tests.{some, same_some, none_some}
use Rattle.laws_heap.proofs.Placed.{At, one_at, SpelledAll-takes, AnyPlaced-left, AnyPlaced-right, AnyPlaced-parts}
use Rattle.laws_heap.proofs.FixedNames.{fixed_name, fixed_live, fixed_name_is, fixed_live_is, fixed_place, fixed_once, fixed_some, fixed_test, fixed_tested}
use Rattle.laws_heap.proofs.Slots.{slot_facts, slot_no_place}
use Rattle.laws_heap.proofs.Chunks.{total-append}
use Rattle.laws_heap.proofs.Runs.{chunks_of-tiled, Tiles-unique}
use Rattle.laws_heap.proofs.Bodies.{IsBody-low}
use Rattle.laws_heap.proofs.Accepted.{heap_of_read}

-- ---- what is read under a name stands there

read_there : (b : Bool) (x y : LiveChunk) (others : Option LiveChunk) (Here : LiveChunk → Type 0)
    (Rest : Type 0) → (b ≡ true → Here x) → (others ≡ Some y → Rest)
    → cond b (some x) others ≡ Some y → Here y ⊎ Rest
read_there true x y others Here Rest here rest is = inl (subst Here (same_some x y is) (here refl))
read_there false x y others Here Rest here rest is = inr (rest is)

pub live_under-there : (at : ℕ) (cs : List Chunk) (name : ℕ) (live : LiveChunk)
    → live_under at cs name ≡ Some live → AnyPlaced (NamedHere name live) at cs
live_under-there at [] name live is = absurd (none_some (live_under at [] name) live refl is)
live_under-there at (free size ∷ cs) name live is = inr (live_under-there _ cs name live is)
live_under-there at (movable bytes lock owner slot ∷ cs) name live is =
    read_there (slot == name) (record { bytes = bytes; lock = lock; owner = owner }) live
    (live_under (at + need (length bytes)) cs name) (λ l. NamedHere name l at
    (movable bytes lock owner slot)) (AnyPlaced (NamedHere name live) (at + need (length bytes)) cs)
    (λ same. (eqb-true slot name same, refl)) (live_under-there _ cs name live) is
live_under-there at (fixed bytes owner ∷ cs) name live is =
    read_there (is_fixed_name at owner name) (fixed_live bytes owner) live
    (live_under (at + need (length bytes)) cs name) (λ l. NamedHere name l at (fixed bytes owner))
    (AnyPlaced (NamedHere name live) (at + need (length bytes)) cs)
    (fixed_tested name at bytes owner) (live_under-there (at + need (length bytes)) cs name live) is

-- ---- where a chunk of a name stands, one is read

abbrev pub IsThere : Option LiveChunk → Type 0
IsThere found = (live : LiveChunk) × (found ≡ Some live)

there_first : (b : Bool) (x : LiveChunk) (others : Option LiveChunk) → (b ≡ true) ⊎ IsThere others
    → IsThere (cond b (some x) others)
there_first true x others h = (x, refl)
there_first false x others (inl is) = absurd cc
there_first false x others (inr h) = h

pub live_under-some : (at : ℕ) (cs : List Chunk) (name : ℕ) (live : LiveChunk)
    → AnyPlaced (NamedHere name live) at cs → IsThere (live_under at cs name)
live_under-some at [] name live h = absurd h
live_under-some at (free size ∷ cs) name live h =
    elim h [ inl own ↦ absurd own | inr later ↦ live_under-some (at + size) cs name live later ]
live_under-some at (movable bytes lock owner slot ∷ cs) name live h = there_first _ _ _ (elim h [
  | inl own ↦ inl (eq-eqb slot name own.0)
  | inr later ↦ inr (live_under-some (at + need (length bytes)) cs name live later)
])
live_under-some at (fixed bytes owner ∷ cs) name live h = there_first _ _ _ (elim h [
  | inl own ↦ inl (fixed_test at bytes owner own)
  | inr later ↦ inr (live_under-some (at + need (length bytes)) cs name live later)
])

-- ---- each name stands for one chunk at most

-- a named chunk has an offset of its own, and is a body under its name or stands at its name
-- a named chunk takes a header at least
takes_header : (name : ℕ) (live : LiveChunk) (at : ℕ) (c : Chunk) → NamedHere name live at c
    → 8 ≤ size_of c
takes_header name live at (free size) h = absurd h
takes_header name live at (movable bytes lock owner slot) h = omega arith
takes_header name live at (fixed bytes owner) h = omega arith

kinds : (name : ℕ) (live : LiveChunk) (at : ℕ) (c : Chunk) → NamedHere name live at c
    → BodyHere name (at + 8) at c ⊎ (fixed_name at ≡ name)
kinds name live at (free size) h = absurd h
kinds name live at (movable bytes lock owner slot) h = inl (h.0, refl)
kinds name live at (fixed bytes owner) h = inr (fixed_name_is at bytes owner h)

pub record Offset (name : ℕ) (live : LiveChunk) (start : ℕ) (cs : List Chunk) : Type 0 where
  pub at : ℕ
  pub behind : start ≤ at
  pub within : at + 8 ≤ start + total cs
  pub there : AnyPlaced (At at (NamedHere name live)) start cs
  pub kind : IsBody start cs name (at + 8) ⊎ (fixed_name at ≡ name)

pub with_offset : (name : ℕ) (live : LiveChunk) (start : ℕ) (cs : List Chunk)
    → AnyPlaced (NamedHere name live) start cs → Offset name live start cs
with_offset name live start [] h = absurd h
with_offset name live start (c ∷ cs) h = elim h [
  | inl own ↦
      let header = takes_header name live start c own in
      record {
        at = start;
        behind = omega arith;
        within = omega arith;
        there = inl (refl, own);
        kind = elim (kinds name live start c own) [ inl b ↦ inl (inl b) | inr is ↦ inr is ];
      }
  | inr later ↦
      let o = with_offset name live (start + size_of c) cs later in
      let behind = o.behind in
      let within = o.within in
      record {
        at = o.at;
        behind = omega arith;
        within = omega arith;
        there = inr o.there;
        kind = elim o.kind [ inl b ↦ inl (inr b) | inr is ↦ inr is ];
      }
]

-- the slot of a body holds its place
pub slot_place : (image : List ℕ) (cs : List Chunk) (name place : ℕ) → IsHeap image cs
    → IsBody (area_start image) cs name place → IsSlot image name × (u32_at image name ≡ place)
slot_place image cs name place h b =
    let low = IsBody-low (area_start image) cs name place b in
    (h.tied name place (omega arith)).1 b

-- a slot is no place of a named chunk
apart : (image : List ℕ) (cs : List Chunk) (name : ℕ) (live : LiveChunk) → IsHeap image cs
    → IsSlot image name → (o : Offset name live (area_start image) cs) → fixed_name o.at ≡ name → ⊥
apart image cs name live h slot o is =
    let p = AnyPlaced-parts (At o.at (NamedHere name live)) (area_start image) cs o.there in
    let there : area_start image + total p.before ≡ o.at = p.holds.0 in
    slot_no_place image p.before p.chunk p.after name name live (rw p.parts at h.tiles) p.holds.1
    slot (sym is ∙ ap fixed_name (sym there) ∙ fixed_place (area_start image + total p.before))

same_offset : (image : List ℕ) (cs : List Chunk) (name : ℕ) (x y : LiveChunk) → IsHeap image cs
    → (o : Offset name x (area_start image) cs) → (p : Offset name y (area_start image) cs)
    → o.at ≡ p.at
same_offset image cs name x y h o p = elim o.kind [
  | inl b ↦
      let s = slot_place image cs name (o.at + 8) h b in
      elim p.kind [
        | inl c ↦ let same = sym s.1 ∙ (slot_place image cs name (p.at + 8) h c).1 in omega arith
        | inr is ↦ absurd (apart image cs name y h s.0 p is)
      ]
  | inr mine ↦ elim p.kind [
    | inl c ↦ absurd (apart image cs name x h (slot_place image cs name (p.at + 8) h c).0 o mine)
    | inr is ↦ fixed_once o.at p.at (mine ∙ sym is)
  ]
]

-- before a chunk of a name, and after it, none of the name stands
pub named_once : (image : List ℕ) (before : List Chunk) (c : Chunk) (after : List Chunk) (name : ℕ)
    (x y : LiveChunk) → IsHeap image (before ++ c ∷ after)
    → NamedHere name x (area_start image + total before) c
    → (AnyPlaced (NamedHere name y) (area_start image) before → ⊥)
    × (AnyPlaced (NamedHere name y) (area_start image + total before + size_of c) after → ⊥)
named_once image before c after name x y h own = (in_front, behind) where
  start : ℕ
  start = area_start image

  here : ℕ
  here = start + total before

  cs : List Chunk
  cs = before ++ c ∷ after

  mine : Offset name x start cs
  mine = record {
    at = here;
    behind = omega arith;
    within =
        let e = total-append before (c ∷ after) in
        let header = takes_header name x here c own in
        omega arith;
    there = AnyPlaced-right (At here (NamedHere name x)) start before (c ∷ after) (inl (refl, own));
    kind = elim (kinds name x here c own) [
      | inl b ↦ inl (AnyPlaced-right (BodyHere name (here + 8)) start before (c ∷ after) (inl b))
      | inr is ↦ inr is
    ];
  }

  in_front : AnyPlaced (NamedHere name y) start before → ⊥
  in_front other =
      let o = with_offset name y start before other in
      let whole : Offset name y start cs = record {
        at = o.at;
        behind = o.behind;
        within = let e = total-append before (c ∷ after) in let w = o.within in omega arith;
        there = AnyPlaced-left (At o.at (NamedHere name y)) start before (c ∷ after) o.there;
        kind = elim o.kind [ inl b ↦ inl (AnyPlaced-left _ start before _ b) | inr is ↦ inr is ];
      } in
      let same = same_offset image cs name x y h mine whole in
      let w = o.within in
      omega arith

  behind : AnyPlaced (NamedHere name y) (here + size_of c) after → ⊥
  behind other =
      let o = with_offset name y (here + size_of c) after other in
      let low = o.behind in
      let header = takes_header name x here c own in
      let whole : Offset name y start cs = record {
        at = o.at;
        behind = omega arith;
        within = let e = total-append before (c ∷ after) in let w = o.within in omega arith;
        there = AnyPlaced-right (At o.at (NamedHere name y)) start before (c ∷ after) (inr o.there);
        kind = elim o.kind [
          | inl b ↦
              inl (AnyPlaced-right (BodyHere name (o.at + 8)) start before (c ∷ after) (inr b))
          | inr is ↦ inr is
        ];
      } in
      let same = same_offset image cs name x y h mine whole in
      omega arith

-- a chunk is one live one
pub same_live : (m n : ℕ) (x y : LiveChunk) (at : ℕ) (c : Chunk) → NamedHere m x at c
    → NamedHere n y at c → x ≡ y
same_live m n x y at (free size) h k = absurd h
same_live m n x y at (movable bytes lock owner slot) h k = sym h.1 ∙ k.1
same_live m n x y at (fixed bytes owner) h k = sym (fixed_live_is at _ _ h) ∙ fixed_live_is at _ _ k

pub one_named : (image : List ℕ) (cs : List Chunk) (name : ℕ) (x y : LiveChunk) → IsHeap image cs
    → AnyPlaced (NamedHere name x) (area_start image) cs
    → AnyPlaced (NamedHere name y) (area_start image) cs → x ≡ y
one_named image cs name x y h mine other =
    let start : ℕ = area_start image in
    let o = with_offset name x start cs mine in
    let p = with_offset name y start cs other in
    let there = rw (same_offset image cs name x y h o p) at o.there in
    let one = one_at _ _ p.at _ cs (SpelledAll-takes image start cs _ h.tiles.area) there p.there in
    same_live name name x y p.at one.0 one.1 one.2

-- ---- the map that is read is the one that is held

pub live_under-is : (image : List ℕ) (cs : List Chunk) (name : ℕ) (live : LiveChunk)
    → IsHeap image cs → ((live_under (area_start image) cs name ≡ Some live)
    ↔ AnyPlaced (NamedHere name live) (area_start image) cs)
live_under-is image cs name live h = (
  live_under-there (area_start image) cs name live,
  λ there.
      let found = live_under-some (area_start image) cs name live there in
      found.1 ∙ ap some (one_named _ cs name _ live h (live_under-there _ cs name _ found.1) there),
)

-- what is held, by the chunks
pub held-is : (image : List ℕ) (cs : List Chunk) (name : ℕ) → IsHeap image cs
    → held image name ≡ live_under (area_start image) cs name
unfolding held
held-is image cs name h =
    ap (λ xs. live_under (area_start image) xs name) (chunks_of-tiled image cs h.tiles)

pub heap_holds : (image : List ℕ) → HeapAccepted image → Holds image (held image)
unfolding held
heap_holds image h =
    let heap = heap_of_read image h.0 h.1 in
    record {
      chunks = chunks_of image;
      heap = heap;
      each = λ name live. live_under-is image (chunks_of image) name live heap;
    }

same_option : (x y : Option LiveChunk) → ((live : LiveChunk) → x ≡ Some live → y ≡ Some live)
    → ((live : LiveChunk) → y ≡ Some live → x ≡ Some live) → x ≡ y
same_option None None there back = refl
same_option None (Some live) there back = back live refl
same_option (Some live) y there back = sym (there live refl)

pub holds_one : (image : List ℕ) (m n : ChunkMap) → Holds image m → Holds image n → m ≡ n
holds_one image m n a b = λ i name. same name i where
  chunks : b.chunks ≡ a.chunks
  chunks = Tiles-unique image b.chunks a.chunks b.heap.tiles a.heap.tiles

  same : (name : ℕ) → m name ≡ n name
  same name = same_option (m name) (n name)
      (λ live is. (b.each name live).1 (rw (← chunks) at ((a.each name live).0 is)))
      (λ live is. (a.each name live).1 (rw chunks at ((b.each name live).0 is)))

-- the name 0 names nothing
pub held-zero : (image : List ℕ) → HeapAccepted image → held image 0 ≡ None
held-zero image h = nothing (held image 0) refl where
  m : Holds image (held image)
  m = heap_holds image h

  nothing : (r : Option LiveChunk) → held image 0 ≡ r → r ≡ None
  nothing None e = refl
  nothing (Some live) e =
      let o = with_offset 0 live (area_start image) m.chunks ((m.each 0 live).0 e) in
      elim o.kind [
        | inl b ↦
            let low : 16 ≤ 0 = (slot_facts image m.chunks 0 m.heap.tiles
            (slot_place image m.chunks 0 (o.at + 8) m.heap b).0).low in
            absurd (omega arith)
        | inr is ↦ absurd (fixed_some o.at is)
      ]

-- an empty slot names nothing
pub empty_unheld : (image : List ℕ) (cs : List Chunk) (slot : ℕ) → IsHeap image cs
    → IsSlot image slot → u32_at image slot ≡ 0 → live_under (area_start image) cs slot ≡ None
empty_unheld image cs slot h s empty = nothing (live_under (area_start image) cs slot) refl where
  nothing : (r : Option LiveChunk) → live_under (area_start image) cs slot ≡ r → r ≡ None
  nothing None e = refl
  nothing (Some live) e =
      let o = with_offset slot live _ cs (live_under-there (area_start image) cs slot live e) in
      elim o.kind [
        | inl b ↦ let held = (slot_place image cs slot (o.at + 8) h b).1 in absurd (omega arith)
        | inr is ↦ absurd (apart image cs slot live h s o is)
      ]
