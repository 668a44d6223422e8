-- The free pieces of a layout, as one walk meets them.
use Rattle.heap_map.proofs.Words.{◌≡◌, ℕ, ◌+◌, ◌≤◌, ◌*◌, List, [], ◌∷◌, ◌++◌, length, Option, Some, None, refl, sym, ap, subst, ◌∙◌, append_assoc, arith, max, append-nil, Chunk, free, movable, fixed, size_of, total, area_start, HeapAccepted, chunks_of, total-append, SpelledAll-end, read_heap, Header, header_of, size_by, HasHeader, HasPassed, passed_none, passed_more, free_sizes, free_pieces}
use Rattle.heap_model.specs.Layout.{free_onto, merged}
use Rattle.heap_model.specs.Space.{greatest}
use Rattle.laws_heap.proofs.Layouts.{total-merged}
use Rattle.chunk_format.specs.declared.header.Header.TheVariants as headers
use Rattle.heap_map.specs.declared.pieces.Pieces.{Pieces}
use Rattle.heap_map.specs.Pieces.{free_by, run_size, pieces_after, with_run}

-- the chunk is live
abbrev pub IsLiveChunk : Chunk → Type 0
IsLiveChunk (free size) = ⊥
IsLiveChunk (movable bytes lock owner slot) = Unit {0}
IsLiveChunk (fixed bytes owner) = Unit {0}

-- the pieces of some chunks, after free bytes that go on
abbrev pub sizes_behind : Option ℕ → List Chunk → List ℕ
sizes_behind None cs = free_sizes (merged cs)
sizes_behind (Some run) cs = free_sizes (free_onto run (merged cs))

onto_twice : (run size : ℕ) (cs : List Chunk)
    → free_onto run (free_onto size cs) ≡ free_onto (run + size) cs
onto_twice run size [] = refl
onto_twice run size (free more ∷ cs) = let e : run + (size + more) ≡ run + size + more =
    omega arith in ap (λ n. free n ∷ cs) e
onto_twice run size (movable bytes lock owner slot ∷ cs) = refl
onto_twice run size (fixed bytes owner ∷ cs) = refl

-- a free chunk
pub behind_free : (run : Option ℕ) (size : ℕ) (cs : List Chunk)
    → sizes_behind run (free size ∷ cs) ≡ sizes_behind (Some (run_size run + size)) cs
behind_free None size cs = let e : size ≡ 0 + size = omega arith in
    ap (λ n. free_sizes (free_onto n (merged cs))) e
behind_free (Some run) size cs = ap free_sizes (onto_twice run size (merged cs))

-- what a walk has met, of which others follow
pub record HaveMet (pieces : Pieces) (cs : List Chunk) : Type 0 where
  pub count : (others : List Chunk) → length (free_sizes (merged (cs ++ others)))
      ≡ pieces.count + length (sizes_behind pieces.run others)
  pub largest : (others : List Chunk) → greatest (free_sizes (merged (cs ++ others)))
      ≡ max pieces.largest (greatest (sizes_behind pieces.run others))
  pub few : 8 * pieces.count ≤ total cs
  pub fits : run_size pieces.run ≤ total cs

pub met_none : HaveMet (record { run = None; count = 0; largest = 0 }) []
met_none = record {
  count = λ others. omega arith;
  largest = λ others. omega arith;
  few = omega arith;
  fits = omega arith;
}

more_total : (cs : List Chunk) (c : Chunk) → total (cs ++ c ∷ []) ≡ total cs + size_of c
more_total cs c = let both = total-append cs (c ∷ []) in let none : total [] ≡ 0 = refl in
    omega arith

pub met_free : (pieces : Pieces) (cs : List Chunk) (size : ℕ) → HaveMet pieces cs
    → HaveMet (record pieces { run = Some (run_size pieces.run + size) }) (cs ++ free size ∷ [])
met_free pieces cs size h = record {
  count = λ others. ap (λ ds. length (free_sizes (merged ds)))
      (append_assoc cs (free size ∷ []) others) ∙ h.count (free size ∷ others)
      ∙ ap (λ xs. pieces.count + length xs) (behind_free pieces.run size others);
  largest = λ others. ap (λ ds. greatest (free_sizes (merged ds)))
      (append_assoc cs (free size ∷ []) others) ∙ h.largest (free size ∷ others)
      ∙ ap (λ xs. max pieces.largest (greatest xs)) (behind_free pieces.run size others);
  few = let few = h.few in let more = more_total cs (free size) in omega arith;
  fits = let fits = h.fits in let more = more_total cs (free size) in omega arith;
}

-- a live chunk ends the piece that goes on
pub live_sizes : (c : Chunk) (others : List Chunk) → IsLiveChunk c
    → free_sizes (merged (c ∷ others)) ≡ free_sizes (merged others)
live_sizes (free size) others l = absurd l
live_sizes (movable bytes lock owner slot) others l = refl
live_sizes (fixed bytes owner) others l = refl

pub onto_live : (run : ℕ) (c : Chunk) (others : List Chunk) → IsLiveChunk c
    → free_sizes (free_onto run (merged (c ∷ others))) ≡ run ∷ free_sizes (merged others)
onto_live run (free size) others l = absurd l
onto_live run (movable bytes lock owner slot) others l = refl
onto_live run (fixed bytes owner) others l = refl

live_takes : (c : Chunk) → IsLiveChunk c → 8 ≤ size_of c
live_takes (free size) l = absurd l
live_takes (movable bytes lock owner slot) l = omega arith
live_takes (fixed bytes owner) l = omega arith

ended : (run : Option ℕ) (count largest : ℕ) (cs : List Chunk) (c : Chunk) → IsLiveChunk c
    → HaveMet (record { run = run; count = count; largest = largest }) cs
    → HaveMet (with_run run (record { run = run; count = count; largest = largest })) (cs ++ c ∷ [])
ended None count largest cs c l h = record {
  count = λ others.
      ap (λ (ds : List Chunk). length (free_sizes (merged ds))) (append_assoc cs (c ∷ []) others)
      ∙ h.count (c ∷ others) ∙ ap (λ (xs : List ℕ). count + length xs) (live_sizes c others l);
  largest = λ others. ap (λ (ds : List Chunk). greatest (free_sizes (merged ds)))
      (append_assoc cs (c ∷ []) others) ∙ h.largest (c ∷ others)
      ∙ ap (λ xs. max largest (greatest xs)) (live_sizes c others l);
  few = let few = h.few in let more = more_total cs c in omega arith;
  fits = omega arith;
}
ended (Some run) count largest cs c l h = record {
  count = λ others.
      let e : count + length (run ∷ free_sizes (merged others))
      ≡ count + 1 + length (free_sizes (merged others)) = omega arith in
      ap (λ (ds : List Chunk). length (free_sizes (merged ds))) (append_assoc cs (c ∷ []) others)
      ∙ h.count (c ∷ others) ∙ ap (λ xs. count + length xs) (onto_live _ c others l) ∙ e;
  largest = λ others.
      let e : max largest (max run (greatest (free_sizes (merged others))))
      ≡ max (max largest run) (greatest (free_sizes (merged others))) = omega arith in
      ap (λ (ds : List Chunk). greatest (free_sizes (merged ds))) (append_assoc cs (c ∷ []) others)
      ∙ h.largest (c ∷ others) ∙ ap (λ xs. max largest (greatest xs)) (onto_live _ c others l) ∙ e;
  few = let few = h.few in let more = more_total cs c in let takes = live_takes c l in omega arith;
  fits = omega arith;
}

pub met_live : (pieces new : Pieces) (cs : List Chunk) (c : Chunk) → IsLiveChunk c
    → new ≡ with_run pieces.run pieces → HaveMet pieces cs → HaveMet new (cs ++ c ∷ [])
met_live pieces new cs c l is h = rw is (ended pieces.run pieces.count pieces.largest cs c l h)

met_more : (pieces new : Pieces) (cs : List Chunk) (c : Chunk) (header : Header)
    → header ≡ header_of c → new ≡ pieces_after header pieces → HaveMet pieces cs
    → HaveMet new (cs ++ c ∷ [])
met_more pieces new cs (free size) header is e h =
    rw (e ∙ ap (λ x. pieces_after x pieces) is) (met_free _ cs size h)
met_more pieces new cs (movable bytes lock owner slot) header is e h =
    met_live _ _ cs _ tt (e ∙ ap (λ x. pieces_after x pieces) is) h
met_more pieces new cs (fixed bytes owner) header is e h =
    met_live _ _ cs _ tt (e ∙ ap (λ x. pieces_after x pieces) is) h

-- ---- the walk

pub met_start : (image : List ℕ) (pieces : Pieces) (at : ℕ) → HeapAccepted image
    → at ≡ area_start image → pieces ≡ record { run = None; count = 0; largest = 0 }
    → HasPassed image (HaveMet pieces) at
met_start image pieces at h start is =
    let fits = (read_heap image h).tiles.head.a_chunk_fits in
    passed_none _ _ at start (omega arith) (rw is met_none)

pub met_small : (image : List ℕ) (pieces : Pieces) (at : ℕ) → HasPassed image (HaveMet pieces) at
    → (8 * pieces.count ≤ at) × (run_size pieces.run ≤ at)
met_small image pieces at p =
    let there = SpelledAll-end image (area_start image) p.chunks at p.spelled in
    let few = p.holds.few in
    let fits = p.holds.fits in
    (omega arith, omega arith)

pub free_size_by : (header : Header) → free_by header ≤ size_by header
free_size_by (headers.Free size) = omega arith
free_size_by (headers.Movable length lock owner slot) = omega arith
free_size_by (headers.Fixed length owner) = omega arith

pub met_step : (image : List ℕ) (pieces new : Pieces) (at : ℕ) (header : Header)
    → HasPassed image (HaveMet pieces) at → HasHeader image at header
    → new ≡ pieces_after header pieces → HasPassed image (HaveMet new) (at + size_by header)
met_step image pieces new at header p f e =
    passed_more _ _ _ at _ p f (λ cs there h. met_more _ _ cs f.chunk _ f.header_is e h)

-- at the end
count_end : (run : Option ℕ) (count largest : ℕ) → count + length (sizes_behind run [])
    ≡ (with_run run (record { run = run; count = count; largest = largest })).count
count_end None count largest = omega arith
count_end (Some run) count largest = omega arith

largest_end : (run : Option ℕ) (count largest : ℕ) → max largest (greatest (sizes_behind run []))
    ≡ (with_run run (record { run = run; count = count; largest = largest })).largest
largest_end None count largest = omega arith
largest_end (Some run) count largest = omega arith

pub all_met_count : (pieces new : Pieces) (cs : List Chunk) → new ≡ with_run pieces.run pieces
    → HaveMet pieces cs → new.count ≡ length (free_sizes (merged cs))
all_met_count pieces new cs is h =
    ap (λ p. p.count) is ∙ sym (count_end pieces.run pieces.count pieces.largest) ∙ sym (h.count [])
    ∙ ap (λ ds. length (free_sizes (merged ds))) (append-nil cs)

pub all_met_largest : (pieces new : Pieces) (cs : List Chunk) → new ≡ with_run pieces.run pieces
    → HaveMet pieces cs → new.largest ≡ greatest (free_sizes (merged cs))
all_met_largest pieces new cs is h =
    ap (λ p. p.largest) is ∙ sym (largest_end pieces.run pieces.count pieces.largest)
    ∙ sym (h.largest []) ∙ ap (λ ds. greatest (free_sizes (merged ds))) (append-nil cs)

-- ---- how large a piece may be

greatest_free : (cs : List Chunk) → greatest (free_sizes cs) ≤ total cs
greatest_free [] = omega arith
greatest_free (free size ∷ cs) = let ih = greatest_free cs in omega arith
greatest_free (movable bytes lock owner slot ∷ cs) = let ih = greatest_free cs in omega arith
greatest_free (fixed bytes owner ∷ cs) = let ih = greatest_free cs in omega arith

pub small_pieces : (image : List ℕ) → HeapAccepted image
    → greatest (free_pieces image) ≤ length image
small_pieces image h =
    let tiles = (read_heap image h).tiles in
    let most = greatest_free (merged (chunks_of image)) in
    let same = total-merged (chunks_of image) in
    let there = SpelledAll-end _ _ _ _ tiles.area in
    omega arith
