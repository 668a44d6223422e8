-- The sizes of the free pieces of a layout, as a walk meets them.
use Rattle.heap_svg.proofs.Words.{◌≡◌, ℕ, ◌+◌, ◌≤◌, List, [], ◌∷◌, ◌++◌, Option, Some, None, refl, sym, ap, subst, ◌∙◌, append_assoc, arith, append-nil, Chunk, free, movable, fixed, size_of, total, merged, chunks_of, area_start, HeapAccepted, total-append, SpelledAll-end, read_heap, Header, header_of, size_by, HasHeader, HasPassed, passed_none, passed_more, free_sizes, free_pieces, IsLiveChunk, sizes_behind, behind_free, live_sizes, onto_live}
use Rattle.heap_map.specs.Pieces.{run_size}
use Rattle.heap_svg.specs.declared.pieces.PieceSizes.{PieceSizes}
use Rattle.heap_svg.specs.Pieces.{run_list, EndsPiece, LengthensPiece, AddsHeader}

-- what a walk has met, of which others follow
pub record HaveSizes (pieces : PieceSizes) (cs : List Chunk) : Type 0 where
  pub same : (others : List Chunk)
      → free_sizes (merged (cs ++ others)) ≡ pieces.met.items ++ sizes_behind pieces.run others
  pub fits : run_size pieces.run ≤ total cs

pub sizes_none : (pieces : PieceSizes) → pieces.met.items ≡ [] → pieces.run ≡ None
    → HaveSizes pieces []
sizes_none pieces none no_run = record {
  same = λ others.
      ap (λ (run : Option ℕ). sizes_behind run others) (sym no_run)
      ∙ ap (λ (xs : List ℕ). xs ++ sizes_behind pieces.run others) (sym none);
  fits = let e : run_size pieces.run ≡ 0 = ap run_size no_run in omega arith;
}

more_total : (cs : List Chunk) (c : Chunk) → total (cs ++ c ∷ []) ≡ total cs + size_of c
more_total cs c = let both = total-append cs (c ∷ []) in let none : total [] ≡ 0 = refl in
    omega arith

sizes_more : (cs others : List Chunk) (c : Chunk)
    → free_sizes (merged ((cs ++ c ∷ []) ++ others)) ≡ free_sizes (merged (cs ++ c ∷ others))
sizes_more cs others c = ap (λ ds. free_sizes (merged ds)) (append_assoc cs (c ∷ []) others)

-- a free chunk
sizes_free : (old new : PieceSizes) (cs : List Chunk) (size : ℕ) → LengthensPiece old new size
    → HaveSizes old cs → HaveSizes new (cs ++ free size ∷ [])
sizes_free old new cs size g h = record {
  same = λ others. sizes_more cs others (free size) ∙ h.same (free size ∷ others)
      ∙ ap (λ xs. old.met.items ++ xs)
      (behind_free old.run size others ∙ ap (λ run. sizes_behind run others) (sym g.run))
      ∙ ap (λ (xs : List ℕ). xs ++ sizes_behind new.run others) (sym g.met);
  fits =
      let is : run_size new.run ≡ run_size old.run + size = ap run_size g.run in
      let was = h.fits in
      let more = more_total cs (free size) in
      omega arith;
}

-- a live one
behind_live : (run : Option ℕ) (c : Chunk) (others : List Chunk) → IsLiveChunk c
    → sizes_behind run (c ∷ others) ≡ run_list run ++ sizes_behind None others
behind_live None c others l = live_sizes c others l
behind_live (Some run) c others l = onto_live run c others l

sizes_live : (old new : PieceSizes) (cs : List Chunk) (c : Chunk) → IsLiveChunk c
    → EndsPiece old new → HaveSizes old cs → HaveSizes new (cs ++ c ∷ [])
sizes_live old new cs c l e h = record {
  same = λ others.
      sizes_more cs others c ∙ h.same (c ∷ others)
      ∙ ap (λ (xs : List ℕ). old.met.items ++ xs) (behind_live old.run c others l)
      ∙ sym (append_assoc old.met.items (run_list old.run) (sizes_behind None others))
      ∙ ap (λ (xs : List ℕ). xs ++ sizes_behind None others) (sym e.met)
      ∙ ap (λ (run : Option ℕ). new.met.items ++ sizes_behind run others) (sym e.run);
  fits = let is : run_size new.run ≡ 0 = ap run_size e.run in omega arith;
}

sizes_add : (old new : PieceSizes) (cs : List Chunk) (c : Chunk) (header : Header)
    → header ≡ header_of c → AddsHeader old new header → HaveSizes old cs
    → HaveSizes new (cs ++ c ∷ [])
sizes_add old new cs (free size) header is a h =
    sizes_free _ _ cs _ (subst (AddsHeader old new) is a) h
sizes_add old new cs (movable bytes lock owner slot) header is a h =
    sizes_live _ _ cs _ tt (subst (AddsHeader old new) is a) h
sizes_add old new cs (fixed bytes owner) header is a h =
    sizes_live _ _ cs _ tt (subst (AddsHeader old new) is a) h

-- ---- the walk

pub sizes_start : (image : List ℕ) (pieces : PieceSizes) (at : ℕ) → HeapAccepted image
    → at ≡ area_start image → pieces.met.items ≡ [] → pieces.run ≡ None
    → HasPassed image (HaveSizes pieces) at
sizes_start image pieces at h start none no_run =
    let fits = (read_heap image h).tiles.head.a_chunk_fits in
    passed_none image (HaveSizes pieces) at start (omega arith) (sizes_none pieces none no_run)

pub sizes_small : (image : List ℕ) (pieces : PieceSizes) (at : ℕ)
    → HasPassed image (HaveSizes pieces) at → run_size pieces.run ≤ at
sizes_small image pieces at p =
    let there = SpelledAll-end image (area_start image) p.chunks at p.spelled in
    let fits = p.holds.fits in
    omega arith

pub sizes_step : (image : List ℕ) (old new : PieceSizes) (at : ℕ) (header : Header)
    → HasPassed image (HaveSizes old) at → HasHeader image at header → AddsHeader old new header
    → HasPassed image (HaveSizes new) (at + size_by header)
sizes_step image old new at header p f a =
    passed_more _ _ _ at _ p f (λ cs there h. sizes_add _ _ cs f.chunk _ f.header_is a h)

behind_none : (run : Option ℕ) → sizes_behind run [] ≡ run_list run
behind_none None = refl
behind_none (Some run) = refl

pub sizes_end : (image : List ℕ) (pieces : PieceSizes) (sizes : List ℕ)
    → sizes ≡ pieces.met.items ++ run_list pieces.run → HaveSizes pieces (chunks_of image)
    → sizes ≡ free_pieces image
sizes_end image pieces sizes is h =
    is
    ∙ ap (λ (xs : List ℕ). pieces.met.items ++ xs) (sym (behind_none pieces.run))
    ∙ sym (h.same [])
    ∙ ap (λ (ds : List Chunk). free_sizes (merged ds)) (append-nil (chunks_of image))
