-- Walks over the chunks of an accepted heap.
use Rattle.heap_place.proofs.Words.{◌≡◌, ℕ, ◌+◌, ◌<◌, ◌≤◌, List, [], ◌∷◌, ◌++◌, length, refl, sym, ap, subst, ◌∙◌, append_assoc, arith, sum_by, Chunk, free, size_of, total, free_size, Spelled, SpelledAll, area_start, HeapAccepted, chunks_of, Spelled-size, SpelledAll-end, SpelledAll-push, chunk_there, chunks_after, chunks_of-area, Header, header_of, size_by, HasHeader, size_by-header_of, Passed, HaveFreeBytes, free_by, HasChunk, Memory, HoldsHeap, Misses, walked_misses}
use Rattle.std.proofs.lemmas.List.Sums.{sum_by-append, sum_by-cons}
use Rattle.chunk_format.specs.declared.header.Header.TheVariants as headers

-- ---- a walk

pub passed_start : (image : List ℕ) (P : List Chunk → Type 0) → HeapAccepted image → P []
    → Passed image P (area_start image)
passed_start image P h none = record { front = []; spelled = refl; inside = omega arith; holds = none }

pub passed_there : (image : List ℕ) (P : List Chunk → Type 0) (at : ℕ) → HeapAccepted image
    → Passed image P at → at < length image → (c : Chunk) × Spelled image at c
passed_there image P at h p inside = chunk_there image h.0 p.front at h.1.tiles p.spelled inside

pub passed_chunk : {image : List ℕ} {P : List Chunk → Type 0} {at : ℕ} → HeapAccepted image
    → Passed image P at → at < length image → HasChunk image at
passed_chunk {P} {at} h p inside = let c = passed_there _ P at h p inside in record { chunk = c.0; spelled = c.1 }

pub passed_misses : {m : Memory} {P : List Chunk → Type 0} {at : ℕ} → HoldsHeap m
    → Passed m.bytes P at → at < length m.bytes → Misses m.lents at 8
passed_misses {m} {at} h p inside = walked_misses m p.front at h.accepted h.lent p.spelled inside

pub passed_size : (image : List ℕ) (at : ℕ) (header : Header) → HasHeader image at header
    → (8 ≤ size_by header) × (at + size_by header ≤ length image)
passed_size image at header found =
    let e : size_by header ≡ size_of found.chunk = ap size_by found.header_is ∙ size_by-header_of found.chunk in
    let s = Spelled-size image at found.chunk found.spelled in (omega arith, omega arith)

pub passed_at : (image : List ℕ) (P : List Chunk → Type 0) (at : ℕ) → (p : Passed image P at)
    → at ≡ area_start image + total p.front
passed_at image P at p = SpelledAll-end image (area_start image) p.front at p.spelled

pushed : {image : List ℕ} (P : List Chunk → Type 0) {at : ℕ} {header : Header} → (p : Passed image P at) → (found : HasHeader image at header) → SpelledAll image (area_start image) (p.front ++ found.chunk ∷ []) (at + size_by header)
pushed {image} P {at} {header} p found = SpelledAll-push image (area_start image) p.front at found.chunk (at + size_by header) p.spelled found.spelled (ap (λ n. at + n) (ap size_by found.header_is ∙ size_by-header_of found.chunk))

pub passed_more : (image : List ℕ) (P Q : List Chunk → Type 0) (at : ℕ) (header : Header) → (p : Passed image P at) → (found : HasHeader image at header) → Q (p.front ++ found.chunk ∷ []) → Passed image Q (at + size_by header)
passed_more image P Q at header p found holds = record {
  front = p.front ++ found.chunk ∷ [];
  spelled = pushed P p found;
  inside = (passed_size image at header found).1;
  holds = holds;
}

pub passed_all : (image : List ℕ) (P : List Chunk → Type 0) (at : ℕ) → HeapAccepted image
    → Passed image P at → length image ≤ at → P (chunks_of image)
passed_all image P at h p beyond =
    let end : at ≡ length image = omega arith in
    subst P (sym (chunks_of-area image p.front (rw end at p.spelled))) p.holds

-- the chunk of a header stands among the others
pub passed_parts : {image : List ℕ} (P : List Chunk → Type 0) {at : ℕ} {header : Header} → HeapAccepted image → (p : Passed image P at) → (found : HasHeader image at header) → (after : List Chunk) × (chunks_of image ≡ p.front ++ found.chunk ∷ after)
passed_parts {image} P {at} {header} h p found =
    let a = chunks_after _ h.0 _ _ h.1.tiles (pushed P p found) (passed_size image at _ found).1 in
    (a.0, a.1 ∙ append_assoc p.front (found.chunk ∷ []) a.0)

-- ---- the free bytes

pub free_of : (c : Chunk) → free_by (header_of c) ≡ free_size c
free_of (free size) = refl
free_of c = refl

pub free_within : (cs : List Chunk) → sum_by free_size cs ≤ total cs
free_within [] = omega arith
free_within (free size ∷ cs) = let s = sum_by-cons free_size (free size) cs in let ih = free_within cs in omega arith
free_within (c ∷ cs) = let s = sum_by-cons free_size c cs in let ih = free_within cs in omega arith

pub free_fits : {image : List ℕ} (count : ℕ) {at : ℕ} → Passed image (HaveFreeBytes count) at
    → count ≤ at
free_fits {image} count {at} p =
    let there = passed_at image (HaveFreeBytes count) at p in let within = free_within p.front in
    omega arith

pub free_fits_by : (header : Header) → free_by header ≤ size_by header
free_fits_by (headers.Free size) = omega arith
free_fits_by (headers.Movable length lock owner slot) = omega arith
free_fits_by (headers.Fixed length owner) = omega arith

pub free_passed : {image : List ℕ} (count : ℕ) {at : ℕ} {header : Header} → Passed image (HaveFreeBytes count) at → HasHeader image at header → Passed image (HaveFreeBytes (count + free_by header)) (at + size_by header)
free_passed {image} count {at} {header} p has =
    let one = sum_by-cons free_size has.chunk [] in
    let more = ap free_by has.header_is ∙ free_of has.chunk in
    passed_more image (HaveFreeBytes count) (HaveFreeBytes (count + free_by header)) at header p has
    (sum_by-append free_size p.front (has.chunk ∷ []) ∙ (let none : sum_by free_size [] ≡ 0 = refl in omega arith))
