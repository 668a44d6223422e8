-- Room for a chunk, whatever stands in front of it: what a claim of it does.
use Rattle.heap_place.proofs.Words.{◌≡◌, ℕ, ◌+◌, ◌-◌, List, [], ◌∷◌, ◌++◌, sym, ap, subst, ◌∙◌, arith, Chunk, free, need, size_of, total, Memory, chunks_of, Becomes, gap, IsSpot, Claims, frame_start, frame_then, IsFreeChunk, CutsRoom, Fills}

pub chunk_spot : {image : List ℕ} {at size : ℕ} → IsFreeChunk image at size → IsSpot image at size
chunk_spot {size} f = record { before = f.before; run = free size ∷ []; after = _; chunks = f.chunks; all_free = tt; there = f.there; sums = (let e : size ≡ size + 0 = omega arith in e) }

-- what was cut off
pub cut_chunk : (old new : List ℕ) (at room size : ℕ) → Becomes old new (chunks_of old)
    → (r : IsSpot old at room) → CutsRoom old new at room size → IsFreeChunk new at size
cut_chunk old new at room size b r cut =
    let start = frame_start old new b.frame in
    record { before = r.before; after = gap (room - size) ++ r.after; chunks = cut r; there = r.there ∙ ap (λ n. n + total r.before) (sym start) }

-- and then filled
pub cut_claims : (old mid new : List ℕ) (at room size : ℕ) (d : Chunk) → size_of d ≡ size → Becomes old mid (chunks_of old) → CutsRoom old mid at room size → Fills mid new at size d → Claims old new at room d
unfolding cut_chunk
cut_claims old mid new at room size d takes b cut fills r =
    let made = fills (cut_chunk old mid at room size b r cut) in
    subst (λ n. Becomes old new (r.before ++ ((d ∷ gap (room - n)) ++ r.after)))
    (sym takes) record { frame = frame_then old mid new b.frame made.frame; layout = made.layout }

-- and then free chunks were joined or split
pub claims_same : (old mid new : List ℕ) (at room : ℕ) (d : Chunk) → Claims old mid at room d
    → Becomes mid new (chunks_of mid) → Claims old new at room d
claims_same old mid new at room d claims b r = let made = claims r in record { frame = frame_then old mid new made.frame b.frame; layout = b.layout ∙ made.layout }

-- what was cut off, by the space's value
pub taken_chunk : (value region : Memory) (mid : List ℕ) (at room size count : ℕ) → region ≡ value → IsSpot value.bytes at room → size ≡ need count → Becomes region.bytes mid (chunks_of region.bytes) → CutsRoom region.bytes mid at room size → IsFreeChunk mid at (need count)
taken_chunk value region mid at room size count same r e b cut =
    subst (λ n. IsFreeChunk mid at n) e (cut_chunk _ mid at room size b (rw (← same) at r) cut)
