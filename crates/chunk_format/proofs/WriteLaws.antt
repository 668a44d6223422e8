-- A header that was written is spelled.
use Rattle.std.proofs.Common.{◌≡◌, ℕ, ◌+◌, ◌-◌, ◌*◌, ◌%◌, ◌^◌, ◌<◌, ◌≤◌, List, ◌++◌, length, refl, sym, ap, subst, ◌∙◌, arith, length-take, length-drop}
use Rattle.std.specs.Prelude.{slice_range}
use Rattle.heap_model.specs.Memory.{Memory}
use Rattle.heap_model.specs.Bytes.{u32_at, u32_bytes, overwritten}
use Rattle.heap_model.specs.Chunk.{free, movable, fixed, need, slot_named, seen, IsFree, IsLive}
use Rattle.laws_heap.proofs.Chunks.{length-seen}
use Rattle.laws_heap.proofs.Frames.{length-u32_bytes, length-overwritten, overwritten-behind, u32_at-written, u32_at-below}
use Rattle.chunk_format.specs.declared.header.Header.{Header}
use Rattle.chunk_format.specs.declared.header.Header.TheVariants as headers
use Rattle.chunk_format.specs.Header.{size_by, HasHeader, IsWritableHeader, live_words, h_offset_to, header_words}

-- two words, one after the other
pub two_words : (old one two : Memory) (at first second : ℕ) → at + 8 ≤ length old.bytes → one ≡ record old { bytes = overwritten old.bytes at (u32_bytes first) }
    → two ≡ record one { bytes = overwritten one.bytes (at + 4) (u32_bytes second) } → two ≡ record old { bytes = overwritten old.bytes at (u32_bytes first ++ u32_bytes second) }
two_words old one two at first second inside e f =
    let a = length-u32_bytes first in
    let b = length-u32_bytes second in
    f ∙ ap (λ (m : Memory). record m { bytes = overwritten m.bytes (at + 4) (u32_bytes second) }) e
    ∙ ap (λ (bytes : List ℕ). record old { bytes = bytes }) (overwritten-behind old.bytes at (u32_bytes first) (u32_bytes second) (at + 4) (omega arith) (omega arith))

-- what the two words of a live chunk read as
pub record ReadsLive (image : List ℕ) (at first second size : ℕ) : Type 0 where
  pub len : length image ≡ size
  pub first_is : u32_at image at ≡ first
  pub second_is : u32_at image (at + 4) ≡ second

words_read : (old : List ℕ) (at first second : ℕ) → at + 8 ≤ length old → first < 2 ^ 32 → second < 2 ^ 32 → ReadsLive (overwritten old at (u32_bytes first ++ u32_bytes second)) at first second (length old)
words_read old at first second inside fits_first fits_second =
    let a = length-u32_bytes first in
    let b = length-u32_bytes second in
    let one : List ℕ = overwritten old at (u32_bytes first) in
    let len : length one ≡ length old = length-overwritten old at (u32_bytes first) (omega arith) in
    let both = overwritten-behind old at (u32_bytes first) (u32_bytes second) (at + 4) (omega arith) (omega arith) in
    subst (λ (image : List ℕ). ReadsLive image at first second (length old)) both record {
      len = length-overwritten one (at + 4) (u32_bytes second) (omega arith) ∙ len;
      first_is = u32_at-below at (at + 4) one (u32_bytes second) (omega arith) (omega arith) ∙ u32_at-written first at old (omega arith) fits_first;
      second_is = u32_at-written second (at + 4) one (omega arith) fits_second;
    }

-- the value of the body of `count` bytes after those words
abbrev behind_words : List ℕ → ℕ → ℕ → ℕ → ℕ → ℕ → List ℕ
behind_words old at count lock owner h_offset = seen lock owner (slice_range (overwritten old at (live_words count lock owner h_offset)) (at + 8) (at + 8 + count))

-- the chunk of `count` bytes after those words
live_written : (old : List ℕ) (at count lock owner h_offset : ℕ) → at + need count ≤ length old → need count < 2 ^ 24 → lock < 16 → owner < 16 → h_offset < 2 ^ 24
    → IsLive (overwritten old at (live_words count lock owner h_offset)) at (behind_words old at count lock owner h_offset) lock owner h_offset
    × (length (behind_words old at count lock owner h_offset) ≡ count)
live_written old at count lock owner h_offset inside fits lock_fits owner_fits way_fits =
    let image : List ℕ = overwritten old at (live_words count lock owner h_offset) in
    let r = words_read old at ((need count - 8 - count) * 2 ^ 24 + need count) (lock * 2 ^ 28 + owner * 2 ^ 24 + h_offset) (omega arith) (omega arith) (omega arith) in
    let total = r.len in
    let raw : length (slice_range image (at + 8) (at + 8 + count)) ≡ count = simp (length-take, length-drop) (omega arith) in
    let len : length (behind_words old at count lock owner h_offset) ≡ count = length-seen lock owner (slice_range image (at + 8) (at + 8 + count)) ∙ raw in
    let same_need : need (length (behind_words old at count lock owner h_offset)) ≡ need count = ap need len in (
      record {
        first_word = r.first_is ∙ ap (λ (n : ℕ). (need n - 8 - n) * 2 ^ 24 + need n) (sym len);
        size_fits = omega arith;
        second_word = r.second_is;
        lock_fits = lock_fits;
        owner_fits = owner_fits;
        h_offset_fits = way_fits;
        body = ap (λ (n : ℕ). seen lock owner (slice_range image (at + 8) (at + 8 + n))) len;
        inside = omega arith;
      },
      len,
    )

-- the distance to a slot leads back to it
pub slot_named-h_offset_to : (at slot : ℕ) → at < 2 ^ 24 → slot < 2 ^ 24 → slot % 2 ≡ at % 2 → slot ≡ slot_named at (h_offset_to at slot)
slot_named-h_offset_to at slot low small even = omega arith

free_written : (old : List ℕ) (at size : ℕ) → at + size ≤ length old → 8 ≤ size → size % 8 ≡ 0 → size < 2 ^ 24 → IsFree (overwritten old at (u32_bytes (2 ^ 31 + size))) at size
free_written old at size inside header whole fits =
    let a = length-u32_bytes (2 ^ 31 + size) in
    let word : u32_at (overwritten old at (u32_bytes (2 ^ 31 + size))) at ≡ 2 ^ 31 + size = u32_at-written (2 ^ 31 + size) at old (omega arith) (omega arith) in
    let len = length-overwritten old at (u32_bytes (2 ^ 31 + size)) (omega arith) in
    record { free_bit = omega arith; size_field = omega arith; header_fits = header; whole = whole; inside = omega arith }

pub header_written : (old new : List ℕ) (at : ℕ) (h : Header) → at + size_by h ≤ length old → length old < 2 ^ 24 → IsWritableHeader at h → new ≡ overwritten old at (header_words at h) → HasHeader new at h
header_written old new at (headers.Free size) inside small w is =
    subst (λ (image : List ℕ). HasHeader image at (headers.Free size)) (sym is) record { chunk = free size; spelled = free_written old at size inside w.0 w.1 w.2; header_is = refl }
header_written old new at (headers.Movable count lock owner slot) inside small w is =
    let low : lock < 15 = w.1 in
    let own : owner ≤ 15 = w.2 in
    let fits : need count < 2 ^ 24 = w.0 in
    let h : ℕ = h_offset_to at slot in
    let live = live_written old at count lock owner h inside w.0 (omega arith) (omega arith) (omega arith) in
    let image : List ℕ = overwritten old at (live_words count lock owner h) in
    subst (λ (image : List ℕ). HasHeader image at (headers.Movable count lock owner slot)) (sym is) record {
      chunk = movable (behind_words old at count lock owner h) lock owner slot;
      spelled = (h, live.0, w.1, w.3, slot_named-h_offset_to at slot (omega arith) w.4 w.5);
      header_is = ap (λ (n : ℕ). headers.Movable n lock owner slot) (sym live.1);
    }
header_written old new at (headers.Fixed count owner) inside small w is =
    let own : owner ≤ 15 = w.1 in
    let live = live_written old at count 15 owner 0 inside w.0 (omega arith) (omega arith) (omega arith) in
    let image : List ℕ = overwritten old at (live_words count 15 owner 0) in
    subst (λ (image : List ℕ). HasHeader image at (headers.Fixed count owner)) (sym is) record {
      chunk = fixed (behind_words old at count 15 owner 0) owner;
      spelled = live.0;
      header_is = ap (λ (n : ℕ). headers.Fixed n owner) (sym live.1);
    }
