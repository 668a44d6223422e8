-- The lists, where a live chunk gets another length in its place.
use Rattle.heap_place.proofs.Words.{◌≡◌, ℕ, zero, suc, ◌+◌, ◌-◌, ◌<◌, ◌≤◌, List, [], ◌∷◌, ◌++◌, sym, ap, subst, ◌∙◌, append_assoc, arith, inl, inr, Chunk, free, need, size_of, total, area_start, HeapAccepted, chunks_of, AnyPlaced, EveryPlaced, BeginsFree, IsFreeAt, gap, IsSpot, Finds, with_length, total-append, named_live_chunk, chunks_of-tiled, TakesBytes, SpelledAll-takes, EveryPlaced-split, AnyPlaced-split, free_inside, same_start, size_of-with_length, Found, RunBehind, Resizes, AreLists, HasLists, Any, Outside, KeepsFree, IsFreeChunk, Links, Pushes}
use Rattle.heap_place.proofs.FoundLaws.{heap_in_parts, found_size}
use Rattle.heap_place.proofs.ListLaws.{lists_weaker, lists_kept, lists_any, push_lists}
use Rattle.heap_place.proofs.KeepLaws.{keeps_replaced, outside_apart, live_apart}
use Rattle.heap_place.proofs.ResizeLaws.{WasResized}
use Rattle.heap_place.proofs.RunLaws.{ends_behind}
use Rattle.heap_place.proofs.TakeLaws.{becomes_links, outside_not}
use Rattle.heap_place.proofs.WithinLaws.{named_apart}

-- the free chunks after it, as room
pub run_spot : (image : List ℕ) (found : Found) (own behind : ℕ) → own ≡ need found.length
    → RunBehind image found behind → IsSpot image (found.place.0 - 8 + own) behind
run_spot image found own behind e r =
    let ends = ends_behind e r.one in record {
      before = r.one.finds.before ++ r.one.chunk ∷ [];
      run = r.run;
      after = r.rest;
      chunks = ends.chunks ∙ ap (λ cs. (r.one.finds.before ++ r.one.chunk ∷ []) ++ cs) r.parts;
      all_free = r.all_free;
      there = ends.there;
      sums = r.sums;
    }

-- a free chunk that is none of them lies outside of it and them
pub run_outside : {image : List ℕ} {found : Found} {own behind : ℕ} (there : ℕ) → own ≡ need found.length → HeapAccepted image → (r : RunBehind image found behind) → BeginsFree image there → Outside (found.place.0 - 8 + own) behind there → Outside (found.place.0 - 8) (own + behind) there
run_outside {image} {found} there e h r b out = elim (AnyPlaced-split _ _ _ _ among) [
  | inl front ↦ let g = free_inside there start f.before sizes.0 front in inl (omega arith)
  | inr later ↦ elim later [
    | inl here ↦ absurd (live_apart _ _ c (λ size is. named_apart _ _ _ f.named is) (inl here))
    | inr rest ↦ elim (AnyPlaced-split _ _ _ _ rest) [
      | inl run ↦
          let g = free_inside there (start + total f.before + size_of c) r.run behind_it.0 run in
          let size = found_size image found r.one in
          absurd (elim out [ inl front ↦ omega arith | inr back ↦ omega arith ])
      | inr back ↦
          let g = free_inside _ _ _ behind_it.1 back in let size = found_size image found r.one in
          inr (omega arith)
    ]
  ]
] where
  f : Finds image found.name.0 r.one.live r.one.chunk (found.place.0 - 8)
  f = r.one.finds

  c : Chunk
  c = r.one.chunk

  start : ℕ
  start = area_start image

  parts : chunks_of image ≡ f.before ++ c ∷ (r.run ++ r.rest)
  parts = f.chunks ∙ ap (λ cs. f.before ++ c ∷ cs) r.parts

  among : AnyPlaced (IsFreeAt there) (area_start image) (f.before ++ c ∷ (r.run ++ r.rest))
  among = subst (λ cs. AnyPlaced (IsFreeAt there) (area_start image) cs) parts b

  sizes : EveryPlaced TakesBytes (area_start image) f.before × EveryPlaced TakesBytes (area_start image + total f.before) (c ∷ (r.run ++ r.rest))
  sizes = EveryPlaced-split _ _ _ _ (SpelledAll-takes _ _ _ _ (heap_in_parts _ _ h parts).tiles.area)

  behind_it : EveryPlaced TakesBytes (area_start image + total f.before + size_of c) r.run × EveryPlaced TakesBytes (area_start image + total f.before + size_of c + total r.run) r.rest
  behind_it = EveryPlaced-split _ _ _ _ sizes.1.1

-- every free chunk lies outside of no bytes where a chunk begins
pub none_outside : {image : List ℕ} {at size : ℕ} (there : ℕ) → size ≡ 0 → HeapAccepted image
    → IsSpot image at size → BeginsFree image there → Outside at size there
none_outside {image} there none h r b = elim (AnyPlaced-split _ _ _ _ (rw r.chunks at b)) [
  | inl front ↦ let g = free_inside _ _ _ sizes.0 front in inl (omega arith)
  | inr back ↦ let g = free_inside _ _ _ sizes.1 back in inr (omega arith)
] where
  sizes : EveryPlaced TakesBytes (area_start image) r.before × EveryPlaced TakesBytes (area_start image + total r.before) (r.run ++ r.after)
  sizes = EveryPlaced-split _ _ _ _ (SpelledAll-takes _ _ _ _ (heap_in_parts _ _ h r.chunks).tiles.area)

pub none_unlinked : {image heads : List ℕ} {at size : ℕ} → size ≡ 0 → HeapAccepted image
    → IsSpot image at size → HasLists image heads → AreLists (Outside at size) image heads
none_unlinked none h r lists = lists_weaker Any _ _ _ (λ x b any. none_outside x none h r b) lists

-- ---- what a resize keeps, and what is left

pub resized_keeps : (old new : List ℕ) (found : Found) (count behind : ℕ) → HeapAccepted old → (r : RunBehind old found behind) → WasResized old new found count behind r → KeepsFree (Outside (found.place.0 - 8) (need found.length + behind)) old new
resized_keeps old new found count behind h r w there out b =
    let f = r.one.finds in let c : Chunk = r.one.chunk in
    let at : ℕ = found.place.0 - 8 in
    let parts = f.chunks ∙ ap (λ cs. f.before ++ c ∷ cs) r.parts in
    let size = found_size old found r.one in
    let all : need found.length + behind ≡ total (c ∷ r.run) = omega arith in
    keeps_replaced old new f.before (c ∷ r.run) (with_length count c ∷ gap (size_of c + behind - need count)) r.rest at h parts w.heap w.replaces there
    (outside_apart old f.before (c ∷ r.run) r.rest at there (heap_in_parts old (f.before ++ ((c ∷ r.run) ++ r.rest)) h parts) f.there (rw all at out)) b

pub resized_rest : (old new : List ℕ) (found : Found) (count behind left : ℕ) → HeapAccepted old → (r : RunBehind old found behind) → WasResized old new found count behind r → left ≡ need found.length + behind - need count → 0 < left → IsFreeChunk new (found.place.0 - 8 + need count) left
resized_rest old new found count behind left h r w is some = by_gap left (chunks_of-tiled new _ w.heap.tiles ∙ ap (λ n. r.one.finds.before ++ ((d ∷ gap n) ++ r.rest)) same) some where
  c : Chunk
  c = r.one.chunk

  d : Chunk
  d = with_length count r.one.chunk

  same : size_of c + behind - need count ≡ left
  same = let size = found_size old found r.one in omega arith

  by_gap : (n : ℕ) → chunks_of new ≡ r.one.finds.before ++ ((d ∷ gap n) ++ r.rest) → 0 < n
      → IsFreeChunk new (found.place.0 - 8 + need count) n
  by_gap zero e none = absurd (omega arith)
  by_gap (suc n) e more =
      let start = same_start old new w.replaces.head in
      let front = total-append r.one.finds.before (d ∷ []) in
      let taken = size_of-with_length c count (named_live_chunk _ _ _ c r.one.finds.named) in
      record { before = r.one.finds.before ++ d ∷ []; after = r.rest; chunks = e ∙ sym (append_assoc r.one.finds.before (d ∷ []) (free (suc n) ∷ r.rest)); there = omega arith }

-- ---- the lists

-- those without the free chunks after it, after the resize
pub resized_lists : (old mid heads : List ℕ) (found : Found) (own behind : ℕ) → own ≡ need found.length → HeapAccepted old → RunBehind old found behind → KeepsFree (Outside (found.place.0 - 8) (need found.length + behind)) old mid → AreLists (Outside (found.place.0 - 8 + own) behind) old heads
    → AreLists (Outside (found.place.0 - 8) (need found.length + behind)) mid heads
resized_lists old mid heads found own behind e h r keeps lists =
    let at : ℕ = found.place.0 - 8 in
    lists_kept (Outside at (need found.length + behind)) old mid heads keeps
    (lists_weaker _ _ old _ (λ x b out. rw e at (run_outside x e h r b out)) lists)

-- and what is left, in front of its own
pub regrown_lists : (mid new heads after : List ℕ) (at all taken : ℕ) → 8 ≤ taken → taken < all → AreLists (Outside at all) mid heads → Pushes mid new heads after (at + taken) → HasLists new after
regrown_lists mid new heads after at all taken least less lists p =
    push_lists _ _ lists (λ x b out. (tt, outside_not at _ _ (omega arith) (omega arith) out)) tt p

pub regrown_all : (mid heads : List ℕ) (at all : ℕ) → AreLists (Outside at all) mid heads
    → HasLists mid heads
regrown_all mid heads at all lists = lists_any (Outside at all) mid heads lists

-- ---- the layout

pub resizes_links : (old mid new : List ℕ) (found : Found) (count behind at word : ℕ) → Resizes old mid found count behind → Links mid new at word → Resizes old new found count behind
resizes_links old mid new found count behind at word x l r = becomes_links (x r) l
