-- Whether a number of bytes fits: into a run of free chunks, into a stretch, or into a chunk and
-- what is free after it.
use Rattle.laws_heap.proofs.Words.{◌≡◌, ℕ, ◌+◌, ◌<◌, ◌≤◌, List, [], ◌∷◌, ◌++◌, length, refl, sym, ap, subst, ◌∙◌, arith, Bool, true, false, cond, Option, Some, None, zero, suc, sum_by-cons, All-nil, All-cons, All-head, All-tail, All-weaker, All, Chunk, free, movable, fixed, need, size_of, total, free_size, area_start, HeapAccepted, LiveChunk, chunks_of, AllFree, NoneStays, NoRun, Short, ShortFor, with_freed, free_front, room_of, rooms_of, stretches, runs_between, Finds, IsSpot, WholeStretch, behind_front}
use Rattle.std.proofs.Common.{sum_by}
use Rattle.laws_heap.proofs.FreeChunks.{free_sum}
use Rattle.laws_heap.proofs.Layouts.{short_no_run, marks, marked, mark_onto, marks_onto, marked_rooms}
use Rattle.laws_heap.proofs.Chunks.{SpelledAll-end}
use Rattle.laws_heap.proofs.FoundChunks.{read_heap}
use Rattle.laws_heap.proofs.Resizings.{front_parts}
use Rattle.laws_heap.proofs.Stretches.{with_freed-append, freed_middle, room_among, All-back}

-- ---- a run

free_stays_free : (run : List Chunk) (name : ℕ) → AllFree run → with_freed run name ≡ run
free_stays_free [] name f = refl
free_stays_free (free size ∷ run) name f = ap (λ cs. free size ∷ cs) (free_stays_free run name f)
free_stays_free (movable bytes lock owner slot ∷ run) name f = absurd f
free_stays_free (fixed bytes owner ∷ run) name f = absurd f

-- if room has the size, the image is short of that size for no chunk
pub spot_not_short_for : (image : List ℕ) (name at room size : ℕ) → 0 < size → IsSpot image at room
    → size ≤ room → ShortFor image name size → ⊥
spot_not_short_for image name at room size some r enough short =
    let parts : with_freed (chunks_of image) name
    ≡ with_freed r.before name ++ (r.run ++ with_freed r.after name) =
    ap (λ cs. with_freed cs name) r.chunks ∙ with_freed-append r.before (r.run ++ r.after) name
    ∙ ap (λ cs. with_freed r.before name ++ cs) (with_freed-append r.run r.after name
    ∙ ap (λ cs. cs ++ with_freed r.after name) (free_stays_free r.run name r.all_free)) in
    let low = short_no_run (with_freed (chunks_of image) name) size some short
    (with_freed r.before name) r.run (with_freed r.after name) parts r.all_free in
    let sum = free_sum r.run r.all_free in
    let sums = r.sums in
    omega arith

-- ---- a stretch

pub stretch_not_short : (image : List ℕ) (before mid after : List Chunk) (size : ℕ)
    → WholeStretch image before mid after → 0 < size → size ≤ room_of mid → Short image size → ⊥
stretch_not_short image before mid after size w some enough short =
    by_mid mid w.none_stays w.chunks enough where
      by_mid : (cs : List Chunk) → NoneStays cs → chunks_of image ≡ before ++ (cs ++ after)
          → size ≤ room_of cs → ⊥
      by_mid [] n e fits = let none : room_of [] ≡ 0 = refl in omega arith
      by_mid (c ∷ cs) n e fits =
          let rooms = rw (ap (λ xs. rooms_of (stretches xs)) e
          ∙ room_among before c cs after n w.in_front w.behind) at short in
          let low = All-head (λ room. room < size) (room_of (c ∷ cs)) (rooms_of (stretches after))
          (All-back (λ room. room < size) (rooms_of (stretches before))
          (room_of (c ∷ cs) ∷ rooms_of (stretches after)) rooms) in
          omega arith

-- ---- a chunk with what is free after it

pub fits_not_short_for : (image : List ℕ) (name at size : ℕ) (live : LiveChunk) (bytes : List ℕ)
    (lock owner slot : ℕ) → HeapAccepted image
    → (f : Finds image name live (movable bytes lock owner slot) at) → 0 < size
    → size ≤ need (length bytes) + free_front f.after → ShortFor image name size → ⊥
fits_not_short_for image name at size live bytes lock owner slot h f some fits short =
    let p = front_parts f.after in
    let freed = ap (with_freed (chunks_of image)) (sym f.named.0)
    ∙ freed_middle image f.before bytes lock owner slot f.after h f.chunks in
    let parts = freed ∙ ap (λ cs. f.before ++ free (need (length bytes)) ∷ cs) p.parts in
    let low = short_no_run (with_freed (chunks_of image) name) size some short f.before
    (free (need (length bytes)) ∷ p.run) (behind_front f.after) parts p.all_free in
    let sum = free_sum (free (need (length bytes)) ∷ p.run) p.all_free in
    let sums = p.sums in
    omega arith

-- ---- more than all chunks together

onto_most : (n all : ℕ) (ms : List (Option ℕ)) → All (λ k. k ≤ all) (marked ms)
    → All (λ k. k ≤ n + all) (marked (mark_onto n ms))
onto_most n all [] h = All-cons (λ k. k ≤ n + all) n [] (omega arith) (All-nil (λ k. k ≤ n + all))
onto_most n all (None ∷ ms) h = All-cons (λ k. k ≤ n + all) n (marked ms) (omega arith)
    (All-weaker (λ k. k ≤ all) (λ k. k ≤ n + all) (λ k low. omega arith) (marked ms) h)
onto_most n all (Some room ∷ ms) h =
    let most : room ≤ all = All-head (λ (k : ℕ). k ≤ all) room (marked ms) h in
    All-cons (λ k. k ≤ n + all) (n + room) (marked ms) (omega arith)
    (All-weaker (λ k. k ≤ all) (λ k. k ≤ n + all) (λ k low. omega arith) (marked ms)
    (All-tail (λ k. k ≤ all) room (marked ms) h))

marks_most : (cs : List Chunk)
    → All (λ k. k ≤ sum_by free_size cs) (marked (marks (runs_between cs)))
marks_most [] = All-nil (λ (k : ℕ). k ≤ sum_by free_size [])
marks_most (free n ∷ cs) =
    subst (λ (ms : List (Option ℕ)). All (λ k. k ≤ sum_by free_size (free n ∷ cs)) (marked ms))
    (sym (marks_onto (free n) (runs_between cs)))
    (rw (← (sum_by-cons free_size (free n) cs)) at (onto_most n (sum_by free_size cs)
    (marks (runs_between cs)) (marks_most cs)))
marks_most (movable bytes zero owner slot ∷ cs) = subst (λ (ms : List (Option ℕ)). All
    (λ k. k ≤ sum_by free_size (movable bytes 0 owner slot ∷ cs)) (marked ms))
    (sym (marks_onto (movable bytes 0 owner slot) (runs_between cs)))
    (rw (← (sum_by-cons free_size (movable bytes 0 owner slot) cs)) at (onto_most 0
    (sum_by free_size cs) (marks (runs_between cs)) (marks_most cs)))
marks_most (movable bytes (suc count) owner slot ∷ cs) = All-weaker (λ k. k ≤ sum_by free_size cs)
    (λ k. k ≤ sum_by free_size (movable bytes (suc count) owner slot ∷ cs))
    (λ k low. let e = sum_by-cons free_size (movable bytes (suc count) owner slot) cs in
    omega arith) (marked (marks (runs_between cs))) (marks_most cs)
marks_most (fixed bytes owner ∷ cs) = All-weaker (λ k. k ≤ sum_by free_size cs)
    (λ k. k ≤ sum_by free_size (fixed bytes owner ∷ cs)) (λ k low. let e = sum_by-cons free_size
    (fixed bytes owner) cs in omega arith) (marked (marks (runs_between cs))) (marks_most cs)

-- each stretch has less room than a size that all that is free doesn't reach
rooms_below : (cs : List Chunk) (size : ℕ) → sum_by free_size cs < size
    → All (λ room. room < size) (rooms_of (stretches cs))
rooms_below cs size low = subst (λ rs. All (λ room. room < size) rs)
    (sym (marked_rooms (runs_between cs))) (All-weaker (λ k. k ≤ sum_by free_size cs)
    (λ k. k < size) (λ k most. omega arith) (marked (marks (runs_between cs))) (marks_most cs))

freed_within : (cs : List Chunk) (name : ℕ) → sum_by free_size (with_freed cs name) ≤ total cs
freed_within [] name = let none : sum_by free_size [] ≡ 0 = refl in omega arith
freed_within (free size ∷ cs) name =
    let e = sum_by-cons free_size (free size) (with_freed cs name) in
    let ih = freed_within cs name in
    omega arith
freed_within (movable bytes lock owner slot ∷ cs) name = freed_one _ (freed_within cs name) where
  freed_one : (b : Bool) → sum_by free_size (with_freed cs name) ≤ total cs
      → sum_by free_size (cond b (free (need (length bytes))) (movable bytes lock owner slot)
      ∷ with_freed cs name) ≤ need (length bytes) + total cs
  freed_one true ih =
      let e = sum_by-cons free_size (free (need (length bytes))) (with_freed cs name) in
      omega arith
  freed_one false ih =
      let e = sum_by-cons free_size (movable bytes lock owner slot) (with_freed cs name) in
      omega arith
freed_within (fixed bytes owner ∷ cs) name =
    let e = sum_by-cons free_size (fixed bytes owner) (with_freed cs name) in
    let ih = freed_within cs name in
    omega arith

free_within : (cs : List Chunk) → sum_by free_size cs ≤ total cs
free_within [] = let none : sum_by free_size [] ≡ 0 = refl in omega arith
free_within (c ∷ cs) =
    let e = sum_by-cons free_size c cs in let ih = free_within cs in let one = of_one c in
    omega arith where
      of_one : (c : Chunk) → free_size c ≤ size_of c
      of_one (free size) = omega arith
      of_one (movable bytes lock owner slot) = omega arith
      of_one (fixed bytes owner) = omega arith

all_fit : (image : List ℕ) → HeapAccepted image → total (chunks_of image) ≤ 16777208
all_fit image h =
    let e = SpelledAll-end image (area_start image) (chunks_of image) (length image)
    (read_heap image h).tiles.area in
    let most = h.1.tiles.head.most in
    omega arith

-- so is a heap short of more bytes than the greatest has
pub short_beyond : (image : List ℕ) (size : ℕ) → HeapAccepted image → 16777208 < size
    → Short image size
short_beyond image size h big =
    let most = all_fit image h in
    let within = free_within (chunks_of image) in
    rooms_below (chunks_of image) size (omega arith)

-- and no run has that size
pub no_run_beyond : (image : List ℕ) (size : ℕ) → HeapAccepted image → 16777208 < size
    → NoRun (chunks_of image) size
no_run_beyond image size h big = short_no_run _ size (omega arith) (short_beyond image size h big)

pub short_for_beyond : (image : List ℕ) (name size : ℕ) → HeapAccepted image → 16777208 < size
    → ShortFor image name size
short_for_beyond image name size h big =
    let most = all_fit image h in
    let within = freed_within (chunks_of image) name in
    rooms_below (with_freed (chunks_of image) name) size (omega arith)
