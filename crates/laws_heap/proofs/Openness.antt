-- What contracts over layouts leave open: whether a chunk that is given back is joined with its
-- free neighbours, and how what a claim leaves of its room is split.
use Rattle.laws_heap.proofs.Words.{◌≡◌, ℕ, zero, suc, ◌+◌, ◌-◌, ◌≤◌, List, [], ◌∷◌, ◌++◌, refl, sym, ap, ◌∙◌, append_assoc, arith, Chunk, free, movable, fixed, size_of, total, area_start, IsHeap, HeapAccepted, EveryPlaced, chunks_of, AllFree, merged, Alters, gap, FreeUpTo, IsSpot, Claims, freed}
use Rattle.laws_heap.proofs.Chunks.{total-append}
use Rattle.laws_heap.proofs.Placed.{TakesBytes}
use Rattle.laws_heap.proofs.Runs.{chunks_of-tiled}
use Rattle.laws_heap.proofs.Replacements.{SameHead, same_start}
use Rattle.laws_heap.proofs.Layouts.{IsNotFree, merged-middle, merged-right, runs-merged}
use Rattle.laws_heap.proofs.SameLayouts.{becomes_heap, becomes_alike}
use Rattle.laws_heap.proofs.Exchanges.{exchanges_parts, gap_free, gap_total}

-- ---- a chunk is given back

-- joined with nothing
pub not_joined : (old new : List ℕ) (before : List Chunk) (c : Chunk) (after : List Chunk) (at : ℕ)
    → HeapAccepted old → IsNotFree c → chunks_of old ≡ before ++ c ∷ after
    → at ≡ area_start old + total before → 8 ≤ size_of c → SameHead old new
    → IsHeap new (before ++ free (size_of c) ∷ after)
    → Alters old new at freed × FreeUpTo new at (at + size_of c)
not_joined old new before c after at h live e is least same heap =
    let start = same_start old new same in (
      (exchanges_parts old new at (λ chunk. freed chunk ∷ []) before c after h live e is).1
          (becomes_heap old new (before ++ free (size_of c) ∷ after) same heap),
      record {
        before = before;
        run = free (size_of c) ∷ [];
        after = after;
        chunks = chunks_of-tiled new (before ++ free (size_of c) ∷ after) heap.tiles;
        all_free = tt;
        from = omega arith;
        to = omega arith;
        least = omega arith;
      },
    )

-- joined with the free chunk before
pub joined_in_front : (old new : List ℕ) (before : List Chunk) (more : ℕ) (c : Chunk)
    (after : List Chunk) (at : ℕ) → HeapAccepted old → IsNotFree c
    → chunks_of old ≡ (before ++ free more ∷ []) ++ c ∷ after
    → at ≡ area_start old + total (before ++ free more ∷ []) → 8 ≤ size_of c → SameHead old new
    → IsHeap new (before ++ free (more + size_of c) ∷ after)
    → Alters old new at freed × FreeUpTo new at (at + size_of c)
joined_in_front old new before more c after at h live e is least same heap =
    let start = same_start old new same in
    let front = total-append before (free more ∷ []) in
    let alike : merged (before ++ free (more + size_of c) ∷ after)
    ≡ merged ((before ++ free more ∷ []) ++ free (size_of c) ∷ after) =
    merged-middle before (free (more + size_of c) ∷ []) (free more ∷ free (size_of c) ∷ []) after
    refl ∙ ap merged (sym (append_assoc before (free more ∷ []) (free (size_of c) ∷ after))) in (
      (exchanges_parts old new at (λ chunk. freed chunk ∷ []) _ c after h live e is).1
          (becomes_alike old new (before ++ free (more + size_of c) ∷ after)
          ((before ++ free more ∷ []) ++ free (size_of c) ∷ after) alike
          (becomes_heap old new (before ++ free (more + size_of c) ∷ after) same heap)),
      record {
        before = before;
        run = free (more + size_of c) ∷ [];
        after = after;
        chunks = chunks_of-tiled new (before ++ free (more + size_of c) ∷ after) heap.tiles;
        all_free = tt;
        from = omega arith;
        to = omega arith;
        least = omega arith;
      },
    )

-- ---- a chunk is claimed

-- any free chunks of its size are as good as a gap
as_gap : (at : ℕ) (left : List Chunk) (count : ℕ) → AllFree left → EveryPlaced TakesBytes at left
    → total left ≡ count → merged (gap count) ≡ merged left
as_gap at [] zero free_ones takes e = refl
as_gap at [] (suc count) free_ones takes e = absurd (omega arith)
as_gap at (free size ∷ left) count free_ones takes e =
    let least = takes.0 in
    let sum = gap_total count in
    runs-merged (gap count) (free size ∷ left) (gap_free count) free_ones (omega arith)
    (omega arith)
as_gap at (movable bytes lock owner slot ∷ left) count free_ones takes e = absurd free_ones
as_gap at (fixed bytes owner ∷ left) count free_ones takes e = absurd free_ones

-- what is left of the room is split in any way
pub left_as_split : (old new : List ℕ) (at size : ℕ) (d : Chunk) (left : List Chunk) → AllFree left
    → EveryPlaced TakesBytes (at + size_of d) left → total left ≡ size - size_of d
    → SameHead old new
    → ((r : IsSpot old at size) → IsHeap new (r.before ++ ((d ∷ left) ++ r.after)))
    → Claims old new at size d
left_as_split old new at size d left free_ones takes e same heap = λ r.
    let alike : merged (r.before ++ ((d ∷ left) ++ r.after))
    ≡ merged (r.before ++ ((d ∷ gap (size - size_of d)) ++ r.after)) =
    merged-middle r.before (d ∷ left) (d ∷ gap (size - size_of d)) r.after
    (merged-right (d ∷ []) left (gap (size - size_of d))
    (sym (as_gap (at + size_of d) left (size - size_of d) free_ones takes e))) in
    becomes_alike old new (r.before ++ ((d ∷ left) ++ r.after))
    (r.before ++ ((d ∷ gap (size - size_of d)) ++ r.after)) alike
    (becomes_heap old new (r.before ++ ((d ∷ left) ++ r.after)) same (heap r))
