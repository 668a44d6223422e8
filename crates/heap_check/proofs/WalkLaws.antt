-- What holds before a walk, and after each chunk if before it, holds of all chunks at the end.
use Rattle.heap_check.proofs.Words.{◌≡◌, ℕ, ◌+◌, ◌%◌, ◌<◌, ◌≤◌, List, [], ◌∷◌, ◌++◌, length, sym, ap, subst, ◌∙◌, arith, append_assoc, Chunk, size_of, total, SpelledAll, HasChunk, area_start, Tiles, chunks_of, Spelled-size, SpelledAll-end, SpelledAll-push, chunks_from-tiled, chunk_there, chunks_after, Header, size_by, HasHeader, size_by-header_of}

-- a walk has come to an offset, and this holds for the chunks before it
pub record HasPassed (image : List ℕ) (P : List Chunk → Type 0) (at : ℕ) : Type 0 where
  pub chunks : List Chunk
  pub spelled : SpelledAll image (area_start image) chunks at
  pub inside : at ≤ length image
  pub holds : P chunks

pub passed_none : (image : List ℕ) (P : List Chunk → Type 0) (at : ℕ) → at ≡ area_start image
    → area_start image ≤ length image → P [] → HasPassed image P at
passed_none image P at start inside holds = record {
  chunks = [];
  spelled = sym start;
  inside = omega (arith, start, inside);
  holds = holds;
}

-- what chunks take is whole units of 8
run_whole : (image : List ℕ) (at : ℕ) (cs : List Chunk) (end : ℕ) → SpelledAll image at cs end
    → at % 8 ≡ 0 → end % 8 ≡ 0
run_whole image at [] end s eights = omega (arith, s, eights)
run_whole image at (c ∷ cs) end s eights = let size = (Spelled-size image at c s.0).2 in
    run_whole image (at + size_of c) cs end s.1 (omega arith)

pub passed_whole : (image : List ℕ) (P : List Chunk → Type 0) (at : ℕ) → HasPassed image P at
    → at % 8 ≡ 0
passed_whole image P at p = run_whole image (area_start image) p.chunks at p.spelled (omega arith)

-- a chunk is there before the end
pub passed_there : (image : List ℕ) (P : List Chunk → Type 0) (at : ℕ)
    → Tiles image (chunks_of image) → HasPassed image P at → at < length image → HasChunk image at
passed_there image P at t p inside = let c = chunk_there image
    (chunks_of image) p.chunks at t p.spelled inside in record { chunk = c.0; spelled = c.1 }

pub passed_size : (image : List ℕ) (at : ℕ) (header : Header) → HasHeader image at header
    → (8 ≤ size_by header) × (at + size_by header ≤ length image)
passed_size image at header f =
    let size : size_by header ≡ size_of f.chunk =
    ap size_by f.header_is ∙ size_by-header_of f.chunk in
    let takes = Spelled-size image at f.chunk f.spelled in
    let least = takes.0 in
    let inside = takes.1 in
    (omega arith, omega arith)

-- one chunk more
pub passed_more : (image : List ℕ) (P Q : List Chunk → Type 0) (at : ℕ) (header : Header)
    → HasPassed image P at → (f : HasHeader image at header) → ((chunks : List Chunk)
    → at ≡ area_start image + total chunks → P chunks → Q (chunks ++ f.chunk ∷ []))
    → HasPassed image Q (at + size_by header)
passed_more image P Q at header p f step =
    let size : size_by header ≡ size_of f.chunk =
    ap size_by f.header_is ∙ size_by-header_of f.chunk in
    record {
      chunks = p.chunks ++ f.chunk ∷ [];
      spelled = SpelledAll-push image (area_start image) p.chunks at f.chunk
          (at + size_by header) p.spelled f.spelled (ap (λ (n : ℕ). at + n) size);
      inside = (passed_size image at header f).1;
      holds = step p.chunks (SpelledAll-end image (area_start image) p.chunks at p.spelled) p.holds;
    }

-- the same of an image of which all chunks are known
pub passed_step : (image : List ℕ) (P Q : List Chunk → Type 0) (at : ℕ) (header : Header)
    → Tiles image (chunks_of image) → HasPassed image P at → (f : HasHeader image at header)
    → ((chunks after : List Chunk) → at ≡ area_start image + total chunks
    → chunks_of image ≡ chunks ++ f.chunk ∷ after → P chunks → Q (chunks ++ f.chunk ∷ []))
    → HasPassed image Q (at + size_by header)
passed_step image P Q at header t p f step =
    let size : size_by header ≡ size_of f.chunk =
    ap size_by f.header_is ∙ size_by-header_of f.chunk in
    let inside = (passed_size image at header f).1 in
    let spelled : SpelledAll image (area_start image) (p.chunks ++ f.chunk ∷ [])
    (at + size_by header) = SpelledAll-push image (area_start image) p.chunks at f.chunk
    (at + size_by header) p.spelled f.spelled (ap (λ (n : ℕ). at + n) size) in
    let rest = chunks_after image (chunks_of image) (p.chunks ++ f.chunk ∷ [])
    (at + size_by header) t spelled inside in
    record {
      chunks = p.chunks ++ f.chunk ∷ [];
      spelled = spelled;
      inside = inside;
      holds = step p.chunks rest.0 (SpelledAll-end image (area_start image) p.chunks at p.spelled)
          (rest.1 ∙ append_assoc p.chunks (f.chunk ∷ []) rest.0) p.holds;
    }

-- at the end it holds of all
pub record HasPassedAll (image : List ℕ) (P : List Chunk → Type 0) : Type 0 where
  pub spelled : SpelledAll image (area_start image) (chunks_of image) (length image)
  pub holds : P (chunks_of image)

pub passed_all : (image : List ℕ) (P : List Chunk → Type 0) (at : ℕ) → length image ≤ at
    → HasPassed image P at → HasPassedAll image P
unfolding chunks_of
passed_all image P at beyond p =
    let inside = p.inside in
    let end : at ≡ length image = omega arith in
    let spelled : SpelledAll image (area_start image) p.chunks (length image) =
    subst (λ (n : ℕ). SpelledAll image (area_start image) p.chunks n) end p.spelled in
    let all : p.chunks ≡ chunks_of image =
    sym (chunks_from-tiled image (area_start image) p.chunks spelled) in
    record {
      spelled = subst (λ (cs : List Chunk). SpelledAll image (area_start image) cs (length image))
          all spelled;
      holds = subst P all p.holds;
    }
