-- Room that is taken from the lists.
use Rattle.heap_place.proofs.Words.{◌≡◌, ◌≢◌, ℕ, zero, suc, ◌+◌, ◌-◌, ◌<◌, ◌≤◌, List, [], ◌∷◌, ◌++◌, length, sym, ap, subst, ◌∙◌, arith, inl, inr, slice_index, u32_at, Chunk, free, movable, fixed, total, area_start, HeapAccepted, chunks_of, size_field, AllFree, merged, Becomes, BeginsFree, IsFreeAt, gap, IsSpot, frame_start, frame_then, PlacedParts, AnyPlaced-parts, class_count, AreLists, HasLists, ButAt, Outside, KeepsFree, IsFreeChunk, Links, Pushes, CutsRoom, total-append, append_assoc}
use Rattle.heap_place.proofs.FoundLaws.{chunk_middle}
use Rattle.heap_place.proofs.ListLaws.{head_free, lists_weaker, lists_kept, push_lists}
use Rattle.heap_place.proofs.KeepLaws.{free_there}

-- ---- a free chunk of a list

pub begun_chunk : {image : List ℕ} (at : ℕ) → HeapAccepted image → BeginsFree image at
    → IsFreeChunk image at (size_field (u32_at image at))
begun_chunk {image} at h b = of_parts (AnyPlaced-parts _ _ _ b) where
  of_parts : PlacedParts (IsFreeAt at) (area_start image) (chunks_of image)
      → IsFreeChunk image at (size_field (u32_at image at))
  of_parts p = of_chunk p.chunk p.parts p.holds where
    of_chunk : (c : Chunk) → chunks_of image ≡ p.before ++ c ∷ p.after → IsFreeAt at (area_start image + total p.before) c → IsFreeChunk image at (size_field (u32_at image at))
    of_chunk (free size) e holds =
        let f : IsFreeChunk image at size = record { before = p.before; after = _; chunks = e; there = sym holds } in
        subst (λ n. IsFreeChunk image at n) (sym (free_there image at size h f).size_field) f
    of_chunk (movable bytes lock owner slot) e holds = absurd holds
    of_chunk (fixed bytes owner) e holds = absurd holds

pub listed_chunk : {image heads : List ℕ} (class : ℕ) → HeapAccepted image → HasLists image heads → class < class_count → slice_index heads class ≢ 0 → IsFreeChunk image (slice_index heads class) (size_field (u32_at image (slice_index heads class)))
listed_chunk class h a below some = begun_chunk _ h (head_free _ a below (omega arith)).free.begins

pub chunk_inside : {image : List ℕ} {at size : ℕ} → HeapAccepted image → IsFreeChunk image at size
    → (at + size ≤ length image) × (8 ≤ size) × (length image ≤ 16777208)
chunk_inside {image} {at} {size} h f =
    let m = chunk_middle h f in (omega arith, (free_there image at size h f).header_fits, m.most)

-- ---- room

-- the chunk at its front
pub spot_front : {image : List ℕ} {at size : ℕ} → HeapAccepted image → 8 ≤ size
    → IsSpot image at size → IsFreeChunk image at (size_field (u32_at image at))
spot_front {image} {at} {size} h some r = by_run r.run r.all_free r.sums r.chunks where
  by_run : (run : List Chunk) → AllFree run → size ≡ total run → chunks_of image ≡ r.before ++ (run ++ r.after) → IsFreeChunk image at (size_field (u32_at image at))
  by_run [] f sums e = absurd (omega arith)
  by_run (movable bytes lock owner slot ∷ run) f sums e = absurd f
  by_run (fixed bytes owner ∷ run) f sums e = absurd f
  by_run (free n ∷ run) f sums e =
      let c : IsFreeChunk image at n = record { before = r.before; after = run ++ r.after; chunks = e; there = r.there } in
      subst (λ k. IsFreeChunk image at k) (sym (free_there image at n h c).size_field) c

-- ---- what is left is put in its list

pub outside_not : (at size there : ℕ) {x : ℕ} → at ≤ there → there < at + size → Outside at size x
    → x ≢ there
outside_not at size there low high out e = elim out [ inl before ↦ omega arith | inr behind ↦ omega arith ]

-- nothing is left
pub taken_all : {old mid heads : List ℕ} {at : ℕ} (room : ℕ) → 8 ≤ room → AreLists (Outside at room) old heads → KeepsFree (Outside at room) old mid → AreLists (ButAt at) mid heads
taken_all {old} {mid} {at} room least a keeps =
    lists_weaker _ _ mid _ (λ x b out. outside_not at room at (omega arith) (omega arith) out) (lists_kept _ old mid _ keeps a)

-- the free chunk after what was cut off
pub rest_chunk : {old mid : List ℕ} {at room : ℕ} (size : ℕ) → Becomes old mid (chunks_of old) → (r : IsSpot old at room) → CutsRoom old mid at room size → size < room → IsFreeChunk mid (at + size) (room - size)
rest_chunk {old} {mid} {at} size b r cut less = by_gap _ (cut r) (omega arith) where
  by_gap : (left : ℕ) → chunks_of mid ≡ r.before ++ (free size ∷ (gap left ++ r.after)) → 0 < left
      → IsFreeChunk mid (at + size) left
  by_gap zero e some = absurd (omega arith)
  by_gap (suc n) e some =
      let start = frame_start old mid b.frame in
      let front = total-append r.before (free size ∷ []) in
      record { before = r.before ++ free size ∷ []; after = _; chunks = e ∙ sym (append_assoc r.before (free size ∷ []) (free (suc n) ∷ r.after)); there = omega arith }

pub taken_rest : {old mid new heads after : List ℕ} {at : ℕ} (room size : ℕ) → 8 ≤ size → size < room → AreLists (Outside at room) old heads → KeepsFree (Outside at room) old mid → Pushes mid new heads after (at + size) → AreLists (ButAt at) new after
taken_rest {old} {mid} {at} room size least less a keeps p =
    push_lists _ _ (lists_kept _ old mid _ keeps a) (λ x b out. (outside_not at room at (omega arith) (omega arith) out, outside_not at room _ (omega arith) (omega arith) out)) (λ e. omega arith) p

-- ---- the same layout

pub becomes_links : {old mid new : List ℕ} {cs : List Chunk} {at word : ℕ} → Becomes old mid cs
    → Links mid new at word → Becomes old new cs
becomes_links {old} {mid} {new} b l = record { frame = frame_then old mid new b.frame l.frame; layout = ap merged l.chunks ∙ b.layout }

pub cut_links : (old : List ℕ) {mid new : List ℕ} (at room size : ℕ) {there word : ℕ}
    → CutsRoom old mid at room size → Links mid new there word → CutsRoom old new at room size
cut_links old at room size cut l r = l.chunks ∙ cut r
