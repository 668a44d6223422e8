-- A header and the chunk that is spelled at the header's offset.
use Rattle.std.proofs.Common.{◌≡◌, ℕ, ◌+◌, ◌-◌, ◌/◌, ◌%◌, ◌^◌, ◌<◌, ◌≤◌, List, length, subst, Option, Some, None, refl, sym, ap, ◌∙◌, arith, length-take, length-drop}
use Rattle.std.specs.Prelude.{option_map, IfSome, IfNone, slice_range}
use Rattle.heap_model.specs.Bytes.{u32_at}
use Rattle.heap_model.specs.Chunk.{Chunk, free, movable, fixed, fixed_lock, need, seen, size_of, IsLive, Spelled}
use Rattle.laws_heap.proofs.Chunks.{length-seen, seen-movable}
use Rattle.heap_model.specs.Reading.{chunk_at}
use Rattle.laws_heap.proofs.Shapes.{chunk_at-spelled, chunk_at-none}
use Rattle.chunk_format.specs.declared.header.Header.{Header}
use Rattle.chunk_format.specs.declared.header.Header.TheVariants as headers
use Rattle.chunk_format.specs.Header.{header_of, size_by, chunk_with, HasHeader}

slice_length : (image : List ℕ) (at count : ℕ) → at + 8 + count ≤ length image → count ≡ length (slice_range image (at + 8) (at + 8 + count))
slice_length image at count inside = simp (length-take, length-drop) (omega arith)

header_with : (image : List ℕ) (at : ℕ) (h : Header) → at + size_by h ≤ length image → h ≡ header_of (chunk_with image at h)
header_with image at (headers.Free size) inside = refl
header_with image at (headers.Movable count lock owner slot) inside = ap (λ (n : ℕ). headers.Movable n lock owner slot) (slice_length image at count (omega arith))
header_with image at (headers.Fixed count owner) inside = ap (λ (n : ℕ). headers.Fixed n owner) (slice_length image at count (omega arith) ∙ sym (length-seen fixed_lock owner (slice_range image (at + 8) (at + 8 + count))))

pub has_header : (image : List ℕ) (at : ℕ) (h : Header) → at + size_by h ≤ length image → Spelled image at (chunk_with image at h) → HasHeader image at h
has_header image at h inside spelled = record { chunk = chunk_with image at h; spelled = spelled; header_is = header_with image at h inside }

pub found_header : (image : List ℕ) (at : ℕ) (r : Option (Header × ℕ)) → IfSome r (λ both. at + size_by both.0 ≤ length image) → IfSome r (λ both. Spelled image at (chunk_with image at both.0)) → IfSome r (λ both. HasHeader image at both.0)
found_header image at None inside spelled = tt
found_header image at (Some both) inside spelled = has_header image at both.0 inside spelled

-- the header that was found is that of the chunk that is read
pub header_read : (image : List ℕ) (at : ℕ) (r : Option Header) → IfSome r (HasHeader image at) → IfNone r ((c : Chunk) → Spelled image at c → ⊥) → r ≡ option_map header_of (chunk_at image at)
header_read image at None found none = sym (ap (option_map header_of) (chunk_at-none image at none))
header_read image at (Some h) found none = ap some found.header_is ∙ sym (ap (option_map header_of) (chunk_at-spelled image at found.chunk found.spelled)) where
  some : Header → Option Header
  some x = Some x

-- the size of a header is that of its chunk
pub size_by-header_of : (c : Chunk) → size_by (header_of c) ≡ size_of c
size_by-header_of (free size) = refl
size_by-header_of (movable bytes lock owner slot) = refl
size_by-header_of (fixed bytes owner) = refl

-- ---- two words that are in shape

live_decoded : (image : List ℕ) (at first second count : ℕ) → first ≡ u32_at image at → second ≡ u32_at image (at + 4) → second < 2 ^ 32 → first / 2 ^ 24 ≤ 7 → 8 + first / 2 ^ 24 ≤ first % 2 ^ 24 → count ≡ first % 2 ^ 24 - (8 + first / 2 ^ 24) → first % 2 ^ 24 % 8 ≡ 0 → at + first % 2 ^ 24 ≤ length image
    → IsLive image at (seen (second / 2 ^ 28) (second / 2 ^ 24 % 16) (slice_range image (at + 8) (at + 8 + count))) (second / 2 ^ 28) (second / 2 ^ 24 % 16) (second % 2 ^ 24)
live_decoded image at first second count first_is second_is fits small header count_is whole inside =
    let lock : ℕ = second / 2 ^ 28 in
    let owner : ℕ = second / 2 ^ 24 % 16 in
    let body : List ℕ = slice_range image (at + 8) (at + 8 + count) in
    let len : length (seen lock owner body) ≡ count = length-seen lock owner body ∙ sym (slice_length image at count (omega arith)) in
    let size : need (length (seen lock owner body)) ≡ first % 2 ^ 24 = ap need len ∙ omega arith in
    record {
      first_word = sym first_is ∙ omega (arith, len, size);
      size_fits = omega (arith, size);
      second_word = sym second_is ∙ omega arith;
      lock_fits = omega arith;
      owner_fits = omega arith;
      h_offset_fits = omega arith;
      body = ap (λ (n : ℕ). seen lock owner (slice_range image (at + 8) (at + 8 + n))) len;
      inside = omega (arith, size);
    }

pub fixed_decoded : (image : List ℕ) (at first second count : ℕ) → first ≡ u32_at image at → second ≡ u32_at image (at + 4) → second < 2 ^ 32 → first / 2 ^ 24 ≤ 7 → 8 + first / 2 ^ 24 ≤ first % 2 ^ 24 → count ≡ first % 2 ^ 24 - (8 + first / 2 ^ 24) → first % 2 ^ 24 % 8 ≡ 0 → at + first % 2 ^ 24 ≤ length image
    → second / 2 ^ 28 ≡ 15 → second % 2 ^ 24 ≡ 0 → IsLive image at (seen fixed_lock (second / 2 ^ 24 % 16) (slice_range image (at + 8) (at + 8 + count))) fixed_lock (second / 2 ^ 24 % 16) 0
fixed_decoded image at first second count a b c d e f g h lock way =
    subst (λ (k : ℕ). IsLive image at (seen fixed_lock (second / 2 ^ 24 % 16) (slice_range image (at + 8) (at + 8 + count))) fixed_lock (second / 2 ^ 24 % 16) k) way
    (subst (λ (k : ℕ). IsLive image at (seen k (second / 2 ^ 24 % 16) (slice_range image (at + 8) (at + 8 + count))) k (second / 2 ^ 24 % 16) (second % 2 ^ 24)) lock (live_decoded image at first second count a b c d e f g h))

pub movable_decoded : (image : List ℕ) (at first second count : ℕ) → first ≡ u32_at image at → second ≡ u32_at image (at + 4) → second < 2 ^ 32 → first / 2 ^ 24 ≤ 7 → 8 + first / 2 ^ 24 ≤ first % 2 ^ 24 → count ≡ first % 2 ^ 24 - (8 + first / 2 ^ 24) → first % 2 ^ 24 % 8 ≡ 0 → at + first % 2 ^ 24 ≤ length image
    → second / 2 ^ 28 < 15 → IsLive image at (slice_range image (at + 8) (at + 8 + count)) (second / 2 ^ 28) (second / 2 ^ 24 % 16) (second % 2 ^ 24)
movable_decoded image at first second count a b c d e f g h low =
    subst (λ (x : List ℕ). IsLive image at x (second / 2 ^ 28) (second / 2 ^ 24 % 16) (second % 2 ^ 24)) (seen-movable (second / 2 ^ 28) (second / 2 ^ 24 % 16) (slice_range image (at + 8) (at + 8 + count)) low) (live_decoded image at first second count a b c d e f g h)
