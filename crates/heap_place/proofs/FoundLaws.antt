-- A live chunk that was found: its chunk, its header, and where its bytes lie.
use Rattle.heap_place.proofs.Words.{◌≡◌, ◌≢◌, ℕ, ◌+◌, ◌-◌, ◌%◌, ◌≤◌, List, [], ◌∷◌, ◌++◌, length, Some, refl, sym, ap, subst, ◌∙◌, arith, Chunk, need, free, movable, fixed, fixed_lock, size_of, total, SpelledAll, IsSlot, area_start, BodyHere, IsHeap, HeapAccepted, LiveChunk, chunks_of, held, Finds, Spelled-size, SpelledAll-split, SpelledAll-end, AnyPlaced-mid, fixed_live_is, finds_held, named_size, finds_spelled, finds_body, Found, IsFound, IsOne, same_lock, IsFreeChunk, HoldNoSlots, NamedHere, fixed_owned}
use Rattle.laws_heap.proofs.Accepted.{heap_of_read}

-- ---- chunks of a heap

-- the chunks that are read off an accepted heap, in parts
pub heap_in_parts : (image : List ℕ) (cs : List Chunk) → HeapAccepted image → chunks_of image ≡ cs
    → IsHeap image cs
heap_in_parts image cs h e = subst (λ xs. IsHeap image xs) e (heap_of_read image h.0 h.1)

pub total_whole : (image : List ℕ) (at : ℕ) (cs : List Chunk) (end : ℕ) → SpelledAll image at cs end
    → total cs % 8 ≡ 0
total_whole image at [] end s = refl
total_whole image at (c ∷ cs) end s =
    let ih = total_whole image (at + size_of c) cs end s.1 in
    let whole = (Spelled-size image at c s.0).2 in omega arith

-- some chunks of a heap, where they stand
pub record Middle (image : List ℕ) (before mid after : List Chunk) (at : ℕ) : Type 0 where
  pub there : at ≡ area_start image + total before
  pub spelled : SpelledAll image at mid (at + total mid)
  pub behind : SpelledAll image (at + total mid) after (length image)
  pub inside : at + total mid ≤ length image
  pub whole : total mid % 8 ≡ 0
  pub most : length image ≤ 16777208
  pub start_whole : at % 8 ≡ 0

pub middle_of : (image : List ℕ) (before mid after : List Chunk) (at : ℕ) → IsHeap image (before ++ (mid ++ after)) → at ≡ area_start image + total before → Middle image before mid after at
middle_of image before mid after at h e =
    let start : ℕ = area_start image in
    let a = SpelledAll-split image start before (mid ++ after) (length image) h.tiles.area in
    let b = SpelledAll-split image (start + total before) mid after (length image) a.1 in
    let end = SpelledAll-end image (start + total before + total mid) after (length image) b.1 in
    let front = total_whole image start before (start + total before) a.0 in record {
      there = e;
      spelled = subst (λ n. SpelledAll image n mid (n + total mid)) (sym e) b.0;
      behind = subst (λ n. SpelledAll image (n + total mid) after (length image)) (sym e) b.1;
      inside = omega arith;
      whole = total_whole image (start + total before) mid (start + total before + total mid) b.0;
      most = h.tiles.head.most;
      start_whole = omega arith;
    }

-- a free chunk, where it stands
pub chunk_middle : {image : List ℕ} {at size : ℕ} → HeapAccepted image
    → (f : IsFreeChunk image at size) → Middle image f.before (free size ∷ []) f.after at
chunk_middle {at} h f = middle_of _ _ _ _ at (heap_in_parts _ _ h f.chunks) f.there

-- a chunk of a name, where it stands
pub finds_middle : {image : List ℕ} {name at : ℕ} {live : LiveChunk} {c : Chunk} → HeapAccepted image → (f : Finds image name live c at) → Middle image f.before (c ∷ []) f.after at
finds_middle {at} h f = middle_of _ _ _ _ at (heap_in_parts _ _ h f.chunks) f.there

-- the slot of a movable chunk
pub own_slot : (image : List ℕ) (name at : ℕ) (live : LiveChunk) (bytes : List ℕ) (lock owner slot : ℕ) → HeapAccepted image → Finds image name live (movable bytes lock owner slot) at → IsSlot image slot
own_slot image name at live bytes lock owner slot h f =
    let heap = heap_in_parts _ _ h f.chunks in
    let place : ℕ = area_start image + total f.before + 8 in
    let here : BodyHere slot place (area_start image + total f.before) (movable bytes lock owner slot) = (refl, refl) in
    ((heap.tied slot place (omega arith)).1 (AnyPlaced-mid _ _ _ _ _ here)).0

-- a chunk of a name is no table
pub no_slots : (name : ℕ) (live : LiveChunk) (at : ℕ) (c : Chunk) → NamedHere name live at c
    → HoldNoSlots (c ∷ [])
no_slots name live at (free size) n = absurd n
no_slots name live at (movable bytes lock owner slot) n = tt
no_slots name live at (fixed bytes owner) n = (fixed_owned at bytes owner n, tt)

-- ---- its fields

-- what is known of the fields
pub record Fields (name : ℕ) (live : LiveChunk) (found : Found) : Type 0 where
  pub name_is : found.name.0 ≡ name
  pub count : found.length ≡ length live.bytes
  pub lock_is : found.lock ≡ live.lock
  pub owner_is : found.owner ≡ live.owner

pub fields_of : {image : List ℕ} {name : ℕ} {found : Found} → (f : IsFound image name found)
    → Fields name f.live found
fields_of f = record { name_is = f.name_is; count = f.count; lock_is = f.lock_is; owner_is = f.owner_is }

-- what the whole chunk takes
pub found_size : (image : List ℕ) (found : Found) → (f : IsOne image found)
    → need found.length ≡ size_of f.chunk
found_size image found f = ap need f.count ∙ named_size _ _ _ _ f.finds.named

-- where it lies
pub found_inside : (image : List ℕ) (found : Found) → HeapAccepted image → IsOne image found
    → found.place.0 - 8 + need found.length ≤ length image
found_inside image found h f =
    let size = found_size image found f in
    let inside = (Spelled-size _ _ _ (finds_spelled _ _ _ _ _ h f.finds)).1 in omega arith

-- what its name stands for
pub name_held : (image : List ℕ) (name : ℕ) (found : Found) → HeapAccepted image
    → (f : IsFound image name found) → held image name ≡ Some f.live
name_held image name found h f = finds_held image name f.live f.chunk _ h f.finds

pub one_held : (image : List ℕ) (found : Found) → HeapAccepted image → (f : IsOne image found)
    → held image found.name.0 ≡ Some f.live
one_held image found h f = name_held image _ found h f

-- where it isn't fixed it is movable
pub when_movable : (image : List ℕ) (name : ℕ) (found : Found) (f : IsFound image name found) (P : (c : Chunk) → Finds image name f.live c (found.place.0 - 8) → Type 0) → found.lock ≢ fixed_lock
    → ((bytes : List ℕ) (lock owner slot : ℕ) (g : Finds image name f.live (movable bytes lock owner slot) (found.place.0 - 8)) → P (movable bytes lock owner slot) g) → P f.chunk f.finds
when_movable image name found f P loose of_movable = by_chunk f.chunk f.finds where
  by_chunk : (c : Chunk) (g : Finds image name f.live c (found.place.0 - 8)) → P c g
  by_chunk (free size) g = absurd g.named
  by_chunk (movable bytes lock owner slot) g = of_movable bytes lock owner slot g
  by_chunk (fixed bytes owner) g = absurd (loose (f.lock_is ∙ same_lock (sym (fixed_live_is (found.place.0 - 8) bytes owner g.named))))

-- ---- its bytes

pub bytes_inside : (image : List ℕ) (found : Found) → HeapAccepted image → IsOne image found
    → found.place.0 + found.length ≤ length image
bytes_inside image found h f = let inside = (finds_body _ _ _ _ _ h f.finds).inside in omega arith
