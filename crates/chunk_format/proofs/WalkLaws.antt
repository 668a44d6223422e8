-- One step of a walk.
use Rattle.std.proofs.Common.{◌≡◌, ℕ, ◌+◌, List, [], ◌∷◌, sym, ap, ◌∙◌}
use Rattle.heap_model.specs.Chunk.{Chunk, size_of, Spelled}
use Rattle.heap_model.specs.Reading.{chunks_from}
use Rattle.heap_model.specs.declared.names.Place.{Place}
use Rattle.laws_heap.proofs.Shapes.{chunk_at-spelled, chunk_at-none}
use Rattle.laws_heap.proofs.Runs.{chunks_from-none, chunks_from-some}
use Rattle.chunk_format.specs.declared.header.Header.{Header}
use Rattle.chunk_format.specs.Header.{size_by, HasHeader, headers_of}
use Rattle.chunk_format.proofs.HeaderLaws.{size_by-header_of}

-- the places and headers that are left from an offset on
abbrev pub left_from : List ℕ → ℕ → List (Place × Header)
left_from image at = headers_of at (chunks_from image at)

pub left-none : (image : List ℕ) (at : ℕ) → ((c : Chunk) → Spelled image at c → ⊥) → left_from image at ≡ []
left-none image at none = ap (headers_of at) (chunks_from-none image at (chunk_at-none image at none))

pub left-some : (image : List ℕ) (at : ℕ) (h : Header) → HasHeader image at h → left_from image at ≡ (record { 0 = at + 8 }, h) ∷ left_from image (at + size_by h)
left-some image at h found =
    let size : size_by h ≡ size_of found.chunk = ap size_by found.header_is ∙ size_by-header_of found.chunk in
    ap (headers_of at) (chunks_from-some image at found.chunk (chunk_at-spelled image at found.chunk found.spelled))
    ∙ ap (λ (x : Header). (record { 0 = at + 8 }, x) ∷ left_from image (at + size_of found.chunk)) (sym found.header_is)
    ∙ ap (λ (n : ℕ). (record { 0 = at + 8 }, h) ∷ left_from image (at + n)) (sym size)
