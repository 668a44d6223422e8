-- The free chunks directly after a live one are found, and it grows over them.
use Rattle.heap_place.proofs.Words.{◌≡◌, ℕ, ◌+◌, ◌-◌, ◌<◌, ◌≤◌, true, false, List, [], ◌∷◌, ◌++◌, length, Some, refl, sym, ap, subst, ◌∙◌, append_assoc, arith, Chunk, need, free, movable, fixed, HasChunk, SpelledAll, area_start, HeapAccepted, chunks_of, chunk_at, free_front, behind_front, GrowsInPlace, total-append, Spelled-size, SpelledAll-split, chunk_at-spelled, chunk_at-none, named_live_chunk, front_parts, grows_parts, header_of, HasHeader, Header, Memory, Misses, walked_misses, Found, IsOne, size_if_free, free_size_at, free_by, ChunksFrom, RunBehind, Resizes, Ends, IsBound, BeginsWithFree, TellsWhetherInPlace, RunsUpTo, HoldsHeap}
use Rattle.heap_place.proofs.FoundLaws.{heap_in_parts, found_size}
use Rattle.heap_place.proofs.ResizeLaws.{run_facts}

-- ---- the walk

-- what is read where some chunks begin
record Reads (image : List ℕ) (at : ℕ) (cs : List Chunk) (size : ℕ) : Type 0 where
  rest : List Chunk
  spelled : 0 < size → SpelledAll image (at + size) rest (length image)
  sums : 0 < size → free_front cs ≡ size + free_front rest
  none : size ≡ 0 → free_front cs ≡ 0
  inside : at + size ≤ length image

reads : (image : List ℕ) (at : ℕ) (cs : List Chunk) → SpelledAll image at cs (length image)
    → Reads image at cs (free_size_at image at)
reads image at [] s = subst (λ n. Reads image at [] n) (sym none) record { rest = []; spelled = λ p. absurd (omega arith); sums = λ p. absurd (omega arith); none = λ e. refl; inside = omega arith } where
  none : free_size_at image at ≡ 0
  none = ap size_if_free (chunk_at-none image at (λ c spelled. let size = Spelled-size image at c spelled in omega arith))
reads image at (free size ∷ cs) s = subst (λ n. Reads image at (free size ∷ cs) n) (sym (ap size_if_free (chunk_at-spelled image at (free size) s.0)))
    record { rest = cs; spelled = λ p. s.1; sums = λ p. refl; none = λ e. let least = (Spelled-size image at (free size) s.0).0 in absurd (omega arith); inside = (Spelled-size image at (free size) s.0).1 }
reads image at (c ∷ cs) s = subst (λ n. Reads image at (c ∷ cs) n) (sym (ap size_if_free (chunk_at-spelled image at c s.0)))
    record { rest = []; spelled = λ p. absurd (omega arith); sums = λ p. absurd (omega arith); none = λ e. refl; inside = let i = (Spelled-size image at c s.0).1 in omega arith }

-- chunks stand from there on
pub from_bound : {image : List ℕ} {at : ℕ} → HeapAccepted image → IsBound image at
    → ChunksFrom image at
from_bound {image} h b = record {
  rest = b.after;
  spelled = rw (← b.ends.there) at (SpelledAll-split image (area_start image) b.before _ _ (heap_in_parts _ _ h b.ends.chunks).tiles.area).1;
}

pub from_running : {image : List ℕ} {at end size : ℕ} → IsBound image at
    → RunsUpTo image at end size → 0 < size → ChunksFrom image (end + size)
from_running {image} {end} b r some =
    let k = r.runs b.before b.after b.ends in let n = reads image end k.rest k.spelled in
    let is = r.there in let here : 0 < free_size_at image end = omega arith in
    record { rest = n.rest; spelled = rw (← is) at (n.spelled here) }

pub a_chunk_there : {image : List ℕ} {at : ℕ} → ChunksFrom image at → at < length image
    → HasChunk image at
a_chunk_there {image} {at} f inside = by_rest f.rest f.spelled where
  by_rest : (cs : List Chunk) → SpelledAll image at cs (length image) → HasChunk image at
  by_rest [] s = absurd (omega arith)
  by_rest (c ∷ cs) s = record { chunk = c; spelled = s.0 }

-- what is read there
free_of : (c : Chunk) → size_if_free (Some c) ≡ free_by (header_of c)
free_of (free size) = refl
free_of c = refl

pub free_read : {image : List ℕ} {at : ℕ} {header : Header} → HasHeader image at header
    → free_by header ≡ free_size_at image at
free_read {image} {at} f = ap free_by f.header_is ∙ sym (free_of f.chunk) ∙ sym (ap size_if_free (chunk_at-spelled image at f.chunk f.spelled))

pub none_at_the_end : (image : List ℕ) (at : ℕ) → length image ≤ at → 0 ≡ free_size_at image at
none_at_the_end image at past = sym (ap size_if_free (chunk_at-none _ at (λ c spelled. let size = Spelled-size _ at c spelled in omega arith)))

pub run_start : {image : List ℕ} (at : ℕ) {size : ℕ} → HeapAccepted image
    → size ≡ free_size_at image at → RunsUpTo image at at size
run_start {image} at h e = record {
  runs = λ before after x. record { rest = after; spelled = rw (← x.there) at (SpelledAll-split image (area_start image) before after (length image) (heap_in_parts image (before ++ after) h x.chunks).tiles.area).1; sums = refl };
  there = e;
  behind = omega arith;
}

-- the free chunk that stands there lies within the image
pub run_inside : {image : List ℕ} {at end size : ℕ} → IsBound image at → RunsUpTo image at end size
    → (end + size ≤ length image) × (at ≤ end)
run_inside {image} {end} b r =
    let x = r.runs b.before b.after b.ends in
    let inside = (reads image end x.rest x.spelled).inside in (omega arith, r.behind)

pub run_more : {image : List ℕ} {at end size more : ℕ} → RunsUpTo image at end size → 0 < size
    → more ≡ free_size_at image (end + size) → RunsUpTo image at (end + size) more
run_more {image} {end} r some e = record {
  runs = λ before after x.
      let k = r.runs before after x in let n = reads image end k.rest k.spelled in
      let is = r.there in let here : 0 < free_size_at image end = omega arith in
      record { rest = n.rest; spelled = rw (← is) at (n.spelled here); sums = omega arith };
  there = e;
  behind = omega arith;
}

pub run_done : {image : List ℕ} {at end size : ℕ} → RunsUpTo image at end size → size ≡ 0
    → BeginsWithFree image at (end - at)
run_done {image} {end} r none before after x =
    let k = r.runs before after x in
    let empty = (reads image end k.rest k.spelled).none (omega arith) in omega arith

-- ---- after a chunk that was found

pub ends_behind : {image : List ℕ} {found : Found} {own : ℕ} → own ≡ need found.length → (f : IsOne image found) → Ends image (found.place.0 - 8 + own) (f.finds.before ++ f.chunk ∷ []) f.finds.after
ends_behind {image} {found} e f =
    let sum = total-append f.finds.before (f.chunk ∷ []) in let size = found_size image found f in
    record { chunks = f.finds.chunks ∙ sym (append_assoc f.finds.before (f.chunk ∷ []) f.finds.after); there = omega arith }

pub bound_behind : (image : List ℕ) (found : Found) (own : ℕ) → own ≡ need found.length
    → IsOne image found → IsBound image (found.place.0 - 8 + own)
bound_behind image found own e f = record { before = f.finds.before ++ f.chunk ∷ []; after = _; ends = ends_behind e f }

pub free_behind_found : (image : List ℕ) (found : Found) (own behind : ℕ) → own ≡ need found.length → (f : IsOne image found) → BeginsWithFree image (found.place.0 - 8 + own) behind → behind ≡ free_front f.finds.after
free_behind_found image found own behind e f b = b (f.finds.before ++ f.chunk ∷ []) f.finds.after (ends_behind e f)

-- all of the free chunks with which those after it begin
pub all_behind : (image : List ℕ) (found : Found) (behind : ℕ) → (f : IsOne image found)
    → behind ≡ free_front f.finds.after → RunBehind image found behind
all_behind image found behind f e = let p = front_parts _ in record { one = f; run = p.run; rest = behind_front f.finds.after; parts = p.parts; all_free = p.all_free; sums = e ∙ sym p.sums }

pub grows : (old new : List ℕ) (found : Found) (count behind : ℕ) → HeapAccepted old → (f : IsOne old found) → behind ≡ free_front f.finds.after → Resizes old new found count behind → GrowsInPlace old new (found.place.0 - 8) count
unfolding all_behind
grows old new found count behind h one e x =
    let f = one.finds in let c : Chunk = one.chunk in
    grows_parts old new _ _ _ c _ h (named_live_chunk _ _ _ c f.named) f.chunks f.there
    (rw e at (x (all_behind old found behind one e)))

-- ---- whether they suffice

pub in_place_facts : (image : List ℕ) (found : Found) (own behind : ℕ) → HeapAccepted image → IsOne image found → own ≡ need found.length → BeginsWithFree image (found.place.0 - 8 + own) behind → (found.place.0 - 8 + (own + behind) ≤ length image) × (length image ≤ 16777208)
in_place_facts image found own behind h f e b =
    let facts = run_facts _ _ _ h (all_behind _ _ _ f (free_behind_found _ _ own _ e f b)) in
    (omega arith, facts.most)

pub in_place_yes : (image : List ℕ) (found : Found) (count own behind : ℕ) → own ≡ need found.length → BeginsWithFree image (found.place.0 - 8 + own) behind → need count ≤ own + behind → TellsWhetherInPlace image found (need count) true
in_place_yes image found count own behind e b fits f =
    let is = free_behind_found image found own behind e f b in
    let size = found_size image found f in (λ yes. omega arith, λ enough. refl)

pub in_place_no : (image : List ℕ) (found : Found) (count own behind : ℕ) → own ≡ need found.length → BeginsWithFree image (found.place.0 - 8 + own) behind → own + behind < need count → TellsWhetherInPlace image found (need count) false
in_place_no image found count own behind e b short f =
    let is = free_behind_found image found own behind e f b in
    let size = found_size image found f in (λ yes. absurd cc, λ enough. absurd (omega arith))

-- the header there
pub bound_misses : {m : Memory} {at : ℕ} → HoldsHeap m → IsBound m.bytes at → at < length m.bytes
    → Misses m.lents at 8
bound_misses {m} {at} h b inside =
    walked_misses m _ at h.accepted h.lent (rw (← b.ends.there) at (SpelledAll-split m.bytes (area_start m.bytes) b.before _ _ (heap_in_parts _ _ h.accepted b.ends.chunks).tiles.area).0) inside

-- and after a free chunk that stands there
pub bound_on : {image : List ℕ} {at size : ℕ} → HeapAccepted image → IsBound image at
    → size ≡ free_size_at image at → 0 < size → IsBound image (at + size)
bound_on {image} {at} {size} h b is some = by_rest b.after b.ends.chunks (rw (← b.ends.there) at (SpelledAll-split image (area_start image) b.before b.after (length image) (heap_in_parts image (b.before ++ b.after) h b.ends.chunks).tiles.area).1) where
  on : (c : Chunk) (cs : List Chunk) → chunks_of image ≡ b.before ++ c ∷ cs
      → chunk_at image at ≡ Some c → IsBound image (at + size)
  on (free n) cs e r =
      let same : size ≡ n = is ∙ ap size_if_free r in let t = total-append b.before (free n ∷ []) in
      record { before = b.before ++ free n ∷ []; after = cs; ends = record { chunks = e ∙ sym (append_assoc b.before (free n ∷ []) cs); there = omega arith } }
  on (movable bytes lock owner slot) cs e r = let none = is ∙ ap size_if_free r in absurd (omega arith)
  on (fixed bytes owner) cs e r = let none = is ∙ ap size_if_free r in absurd (omega arith)

  by_rest : (cs : List Chunk) → chunks_of image ≡ b.before ++ cs
      → SpelledAll image at cs (length image) → IsBound image (at + size)
  by_rest [] e s =
      let none = is ∙ ap size_if_free (chunk_at-none _ at (λ c t. let inside = (Spelled-size _ at c t).1 in let least = (Spelled-size _ at c t).0 in omega arith)) in
      absurd (omega arith)
  by_rest (c ∷ cs) e s = on c cs e (chunk_at-spelled image at c s.0)
