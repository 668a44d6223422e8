-- What a name stands for, found among the chunks.
use Rattle.laws_heap.proofs.Words.{false, ◌≡◌, ◌≢◌, ℕ, ◌+◌, ◌-◌, ◌<◌, ◌≤◌, List, ◌∷◌, ◌++◌, length, Option, Some, None, refl, sym, ap, subst, ◌∙◌, arith, eq-eqb, nat_tests, ◌==◌, slice_range, u32_at, Chunk, free, movable, fixed, fixed_lock, need, size_of, total, is_table_by, IsLive, Spelled, SpelledAll, IsSlot, area_start, BodyHere, IsHeap, HeapAccepted, EveryPlaced, AnyPlaced, LiveChunk, NamedHere, chunk_at, chunks_of, held, not_owned, callers_map, Finds, NotFixedAs}
use Rattle.laws_heap.proofs.Tests.{cond-true, cond-false}
use Rattle.laws_heap.proofs.Chunks.{SpelledAll-split, plain_body, plain-movable, plain-callers}
use Rattle.laws_heap.proofs.Placed.{AnyPlaced-parts, AnyPlaced-mid, EveryPlaced-split}
use Rattle.laws_heap.proofs.FixedNames.{fixed_live_is, fixed_owned, fixed_not}
use Rattle.laws_heap.proofs.Accepted.{heap_of_read}
use Rattle.laws_heap.proofs.Shapes.{chunk_at-spelled}
use Rattle.laws_heap.proofs.Meanings.{held-is, live_under-is, same_live}

-- ---- among the chunks that are read

pub read_heap : (image : List ℕ) → HeapAccepted image → IsHeap image (chunks_of image)
read_heap image h = heap_of_read image h.0 h.1

-- what is found is held
pub finds_held : (image : List ℕ) (name : ℕ) (live : LiveChunk) (chunk : Chunk) (at : ℕ)
    → HeapAccepted image → Finds image name live chunk at → held image name ≡ Some live
finds_held image name live chunk at h f =
    let there = subst (λ cs. AnyPlaced (NamedHere name live) (area_start image) cs) (sym f.chunks)
    (AnyPlaced-mid _ (area_start image) f.before chunk f.after (rw f.there at f.named)) in
    held-is _ _ name (read_heap _ h) ∙ (live_under-is image _ name live (read_heap image h)).1 there

-- what is held is found
pub record Found (image : List ℕ) (name : ℕ) (live : LiveChunk) : Type 0 where
  pub chunk : Chunk
  pub at : ℕ
  pub finds : Finds image name live chunk at

pub held_finds : (image : List ℕ) (name : ℕ) (live : LiveChunk) → HeapAccepted image
    → held image name ≡ Some live → Found image name live
held_finds image name live h e =
    let heap = read_heap image h in
    let p = AnyPlaced-parts (NamedHere name live) (area_start image) (chunks_of image)
    ((live_under-is image (chunks_of image) name live heap).0
    (sym (held-is image (chunks_of image) name heap) ∙ e)) in
    record {
      chunk = p.chunk;
      at = area_start image + total p.before;
      finds = record {
        before = p.before;
        after = p.after;
        chunks = p.parts;
        there = refl;
        named = p.holds;
      };
    }

-- the chunk that is read where one is found
pub finds_spelled : (image : List ℕ) (name : ℕ) (live : LiveChunk) (chunk : Chunk) (at : ℕ)
    → HeapAccepted image → Finds image name live chunk at → Spelled image at chunk
finds_spelled image name live chunk at h f =
    let area : SpelledAll image (area_start image) (f.before ++ chunk ∷ f.after) (length image) =
    rw f.chunks at (read_heap image h).tiles.area in
    subst (λ n. Spelled image n chunk) (sym f.there)
    (SpelledAll-split image (area_start image) f.before (chunk ∷ f.after) (length image) area).1.0

-- what a chunk of a name takes
pub named_size : (name : ℕ) (live : LiveChunk) (at : ℕ) (c : Chunk) → NamedHere name live at c
    → need (length live.bytes) ≡ size_of c
named_size name live at (free size) named = absurd named
named_size name live at (movable bytes lock owner slot) named =
    ap (λ x. need (length x.bytes)) (sym named.1)
named_size name live at (fixed bytes owner) named =
    ap (λ x. need (length x.bytes)) (sym (fixed_live_is at bytes owner named))

-- and its body, which begins after its header
pub record HasBody (image : List ℕ) (at : ℕ) (live : LiveChunk) : Type 0 where
  pub inside : at + need (length live.bytes) ≤ length image
  pub bytes : slice_range image (at + 8) (at + 8 + length live.bytes) ≡ live.bytes

body_of_live : (image : List ℕ) (at : ℕ) (live : LiveChunk) (bytes : List ℕ)
    (lock owner h_offset : ℕ) → bytes ≡ live.bytes → is_table_by lock owner ≡ false
    → IsLive image at bytes lock owner h_offset → HasBody image at live
body_of_live image at live bytes lock owner h_offset e plain s = record {
  inside = subst (λ (xs : List ℕ). at + need (length xs) ≤ length image) e s.inside;
  bytes = rw e at (plain_body image at bytes lock owner h_offset plain s);
}

pub named_body : (image : List ℕ) (name : ℕ) (live : LiveChunk) (at : ℕ) (c : Chunk)
    → Spelled image at c → NamedHere name live at c → HasBody image at live
named_body image name live at (free size) s named = absurd named
named_body image name live at (movable bytes lock owner slot) s named = body_of_live image at live
    bytes lock owner s.0 (ap (λ x. x.bytes) named.1) (plain-movable lock owner s.2) s.1
named_body image name live at (fixed bytes owner) s named = body_of_live image at live bytes
    fixed_lock owner 0 (ap (λ x. x.bytes) (fixed_live_is at bytes owner named))
    (plain-callers fixed_lock owner (fixed_owned at bytes owner named)) s

pub finds_body : (image : List ℕ) (name : ℕ) (live : LiveChunk) (chunk : Chunk) (at : ℕ)
    → HeapAccepted image → Finds image name live chunk at → HasBody image at live
finds_body image name live chunk at h f =
    named_body image name live at chunk (finds_spelled image name live chunk at h f) f.named

pub finds_read : (image : List ℕ) (name : ℕ) (live : LiveChunk) (chunk : Chunk) (at : ℕ)
    → HeapAccepted image → Finds image name live chunk at → chunk_at image at ≡ Some chunk
finds_read image name live chunk at h f =
    chunk_at-spelled image at chunk (finds_spelled image name live chunk at h f)

-- ---- by a slot

-- a slot in use holds the place of a movable chunk that it names
pub record InSlot (image : List ℕ) (slot place : ℕ) : Type 0 where
  pub live : LiveChunk
  pub named : ℕ
  pub finds : Finds image slot live (movable live.bytes live.lock live.owner named) (place - 8)
  pub behind_header : 8 ≤ place

body_in : (image : List ℕ) (slot place : ℕ) (before : List Chunk) (chunk : Chunk)
    (after : List Chunk) → chunks_of image ≡ before ++ chunk ∷ after
    → BodyHere slot place (area_start image + total before) chunk → InSlot image slot place
body_in image slot place before (free size) after e b = absurd b
body_in image slot place before (movable bytes lock owner named) after e b =
    let there = b.1 in
    record {
      live = record { bytes = bytes; lock = lock; owner = owner };
      named = named;
      finds = record {
        before = before;
        after = after;
        chunks = e;
        there = omega arith;
        named = (b.0, refl);
      };
      behind_header = omega arith;
    }
body_in image slot place before (fixed bytes owner) after e b = absurd b

pub in_slot : (image : List ℕ) (slot place : ℕ) → HeapAccepted image → IsSlot image slot
    → u32_at image slot ≡ place → 0 < place → InSlot image slot place
in_slot image slot place h s e positive =
    let p = AnyPlaced-parts _ _ _ (((read_heap image h).tied slot place positive).0 (s, e)) in
    body_in image slot place p.before p.chunk p.after p.parts p.holds

-- what is found at an offset is one live chunk
pub finds_one : (image : List ℕ) (m n : ℕ) (x y : LiveChunk) (c d : Chunk) (at : ℕ)
    → HeapAccepted image → Finds image m x c at → Finds image n y d at → x ≡ y
finds_one image m n x y c d at h f g = same_live m n x y at d (rw same at f.named) g.named where
  one : Some c ≡ Some d → c ≡ d
  one e = cc

  same : c ≡ d
  same = one (sym (finds_read image m x c at h f) ∙ finds_read image n y d at h g)

-- ---- what nothing stands for

not_found : (image : List ℕ) (name : ℕ) (live : LiveChunk) (before : List Chunk) (chunk : Chunk)
    (after : List Chunk) → IsHeap image (before ++ chunk ∷ after)
    → NamedHere name live (area_start image + total before) chunk
    → (IsSlot image name → u32_at image name ≡ 0)
    → NotFixedAs name (area_start image + total before) chunk → ⊥
not_found image name live before (free size) after h n empty none = n
not_found image name live before (movable bytes lock owner slot) after h n empty none =
    let start : ℕ = area_start image in
    let place : ℕ = start + total before + 8 in
    let k = (h.tied name place (omega arith)).1 (AnyPlaced-mid _ start _ _ after (n.0, refl)) in
    let zero_there = empty k.0 in
    let place_there = k.1 in
    omega arith
not_found image name live before (fixed bytes owner) after h n empty none = fixed_not _ _ _ n none

pub none_held : (image : List ℕ) (name : ℕ) → HeapAccepted image
    → (IsSlot image name → u32_at image name ≡ 0)
    → EveryPlaced (NotFixedAs name) (area_start image) (chunks_of image) → held image name ≡ None
none_held image name h empty every = nothing (held image name) refl where
  nothing : (r : Option LiveChunk) → held image name ≡ r → r ≡ None
  nothing None e = refl
  nothing (Some live) e =
      let found = held_finds image name live h e in
      let f = found.finds in
      let here : EveryPlaced (NotFixedAs name) (area_start image + total f.before)
      (found.chunk ∷ f.after) =
      (EveryPlaced-split (NotFixedAs name) _ f.before _ (rw f.chunks at every)).1 in
      absurd (not_found image name live f.before found.chunk f.after
      (rw f.chunks at (read_heap image h)) (rw f.there at f.named) empty here.0)

-- ---- what callers may name

pub callers_managers : (image : List ℕ) (name : ℕ) (live : LiveChunk) → held image name ≡ Some live
    → live.owner ≡ 0 → callers_map image name ≡ None
callers_managers image name live e zero_owner =
    ap (not_owned 0) e ∙ cond-true (live.owner == 0) _ _ (eq-eqb live.owner 0 zero_owner)

pub callers_some : (image : List ℕ) (name : ℕ) (live : LiveChunk) → held image name ≡ Some live
    → live.owner ≢ 0 → callers_map image name ≡ Some live
callers_some image name live e some_owner =
    ap (not_owned 0) e ∙ cond-false (live.owner == 0) _ _ (grind (arith, nat_tests))
