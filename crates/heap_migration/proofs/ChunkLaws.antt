-- The chunks of a migrated image.
use Rattle.std.proofs.Common.{true, false, ◌≡◌, ℕ, ◌+◌, ◌-◌, ◌^◌, ◌<◌, ◌≤◌, List, [], ◌∷◌, ◌++◌, length, slice_index, take, drop, refl, sym, ap, subst, ◌∙◌, arith, length-take, length-drop}
use Rattle.heap_model.specs.Bytes.{u32_at, u32_bytes, overwritten}
use Rattle.heap_model.specs.Chunk.{Chunk, free, movable, fixed, need, size_of, total, Spelled, SpelledAll}
use Rattle.heap_model.specs.Slots.{area_start}
use Rattle.heap_model.specs.Heap.{HeapAccepted}
use Rattle.heap_model.specs.Placed.{EveryPlaced}
use Rattle.heap_model.specs.Reading.{chunks_of}
use Rattle.heap_model.specs.Migration.{StandFurther, StandsFurther, lowered_word}
use Rattle.laws_heap.proofs.Frames.{u32_at-written}
use Rattle.laws_heap.proofs.Writes.{WroteWithin, wrote_word, wrote_part}
use Rattle.laws_heap.proofs.Chunks.{Spelled-size, SpelledAll-end, SpelledAll-push}
use Rattle.laws_heap.proofs.Placed.{EveryPlaced-push}
use Rattle.laws_heap.proofs.Runs.{chunk_there, chunks_of-area}
use Rattle.chunk_format.specs.declared.header.Header.{Header}
use Rattle.chunk_format.specs.Header.{header_of, size_by, HasHeader}
use Rattle.chunk_format.proofs.HeaderLaws.{size_by-header_of}
use Rattle.heap_migration.specs.Writing.{AreSame, is_movable_header, WroteChunk, WroteUpTo, WroteChunks}
use Rattle.heap_migration.proofs.HeadLaws.{same_word, copied_at}

-- ---- one chunk

pub lowered_fits : (by word : ℕ) → by ≤ 8 → word < 2 ^ 32 → lowered_word by word < 2 ^ 32
lowered_fits by word few small = omega arith

stands_movable : (old was new : List ℕ) (by at : ℕ) (bytes : List ℕ) (lock owner slot : ℕ) → by ≤ 8 → length was ≡ length old + by → StandFurther old was by at (length old) → Spelled old at (movable bytes lock owner slot)
    → new ≡ overwritten was (at + 4 + by) (u32_bytes (lowered_word by (u32_at old (at + 4)))) → StandsFurther old new by at (movable bytes lock owner slot) × WroteWithin was new (at + 4 + by) (at + 4 + by + 4)
stands_movable old was new by at bytes lock owner slot few len copied s e =
    let live = s.1 in
    let inside = live.inside in
    let second = live.second_word in
    let lock_fits = live.lock_fits in
    let owner_fits = live.owner_fits in
    let way_fits = live.h_offset_fits in
    let small : u32_at old (at + 4) < 2 ^ 32 = omega arith in
    let w : WroteWithin was new (at + 4 + by) (at + 4 + by + 4) = wrote_word was new (at + 4 + by) (lowered_word by (u32_at old (at + 4))) e (omega arith) in
    let there : at + by + 4 ≡ at + 4 + by = omega arith in (
      (
        λ k low high. sym (w.below.same (k + by) (omega arith) (omega arith)) ∙ copied k (omega arith) (omega arith),
        ap (u32_at new) there ∙ ap (λ (xs : List ℕ). u32_at xs (at + 4 + by)) e ∙ u32_at-written (lowered_word by (u32_at old (at + 4))) (at + 4 + by) was (omega arith) (lowered_fits by (u32_at old (at + 4)) few small),
        λ k low high. sym (w.above.same (k + by) (omega arith) (omega arith)) ∙ copied k (omega arith) (omega arith),
      ),
      w,
    )

pub chunk_lowered : (old was new : List ℕ) (by at : ℕ) (header : Header) → by ≤ 8 → length was ≡ length old + by → StandFurther old was by at (length old) → HasHeader old at header → is_movable_header header ≡ true
    → new ≡ overwritten was (at + 4 + by) (u32_bytes (lowered_word by (u32_at old (at + 4)))) → WroteChunk old was new by at (size_by header)
chunk_lowered old was new by at header few len copied found is e = by_chunk found.chunk found.spelled found.header_is where
  by_chunk : (c : Chunk) → Spelled old at c → header ≡ header_of c → WroteChunk old was new by at (size_by header)
  by_chunk (free size) s h = let no : true ≡ false = sym is ∙ ap is_movable_header h in absurd cc
  by_chunk (fixed bytes owner) s h = let no : true ≡ false = sym is ∙ ap is_movable_header h in absurd cc
  by_chunk (movable bytes lock owner slot) s h =
      let m = stands_movable old was new by at bytes lock owner slot few len copied s e in
      let size : size_by header ≡ need (length bytes) = ap size_by h ∙ size_by-header_of (movable bytes lock owner slot) in
      record {
        chunk = movable bytes lock owner slot;
        spelled = s;
        size_is = size;
        further = m.0;
        len = m.1.len;
        front = λ k low high. sym (m.1.below.same k (omega arith) (omega arith));
        back = λ k low high. sym (m.1.above.same k (omega arith) (omega arith));
      }

pub chunk_copied : (old was : List ℕ) (by at : ℕ) (header : Header) → StandFurther old was by at (length old) → HasHeader old at header → is_movable_header header ≡ false → WroteChunk old was was by at (size_by header)
chunk_copied old was by at header copied found is = by_chunk found.chunk found.spelled found.header_is where
  all_of : (c : Chunk) → Spelled old at c → header ≡ header_of c → StandsFurther old was by at c → WroteChunk old was was by at (size_by header)
  all_of c s h f = record { chunk = c; spelled = s; size_is = ap size_by h ∙ size_by-header_of c; further = f; len = refl; front = λ k low high. refl; back = λ k low high. refl }

  by_chunk : (c : Chunk) → Spelled old at c → header ≡ header_of c → WroteChunk old was was by at (size_by header)
  by_chunk (free size) s h = let inside = s.inside in all_of (free size) s h (λ k low high. copied k low (omega arith))
  by_chunk (fixed bytes owner) s h = let inside = s.inside in all_of (fixed bytes owner) s h (λ k low high. copied k low (omega arith))
  by_chunk (movable bytes lock owner slot) s h = let no : true ≡ false = sym (ap is_movable_header h) ∙ is in absurd cc

-- ---- chunks before the bytes that are written

further_same : (old now new : List ℕ) (by at end : ℕ) (c : Chunk) → AreSame now new 0 (end + by) → at + size_of c ≤ end → StandsFurther old now by at c → StandsFurther old new by at c
further_same old now new by at end (free size) same inside f = λ k low high. same (k + by) (omega arith) (omega arith) ∙ f k low high
further_same old now new by at end (fixed bytes owner) same inside f = λ k low high. same (k + by) (omega arith) (omega arith) ∙ f k low high
further_same old now new by at end (movable bytes lock owner slot) same inside f = (
  λ k low high. same (k + by) (omega arith) (omega arith) ∙ f.0 k low high,
  same_word now new 0 (end + by) (at + by + 4) same (omega arith) (omega arith) ∙ f.1,
  λ k low high. same (k + by) (omega arith) (omega arith) ∙ f.2 k low high,
)

all_same : (old now new : List ℕ) (by at end : ℕ) (cs : List Chunk) → AreSame now new 0 (end + by) → at + total cs ≤ end → EveryPlaced (StandsFurther old now by) at cs → EveryPlaced (StandsFurther old new by) at cs
all_same old now new by at end [] same inside f = tt
all_same old now new by at end (c ∷ cs) same inside f = (further_same old now new by at end c same (omega arith) f.0, all_same old now new by (at + size_of c) end cs same (omega arith) f.1)

-- ---- the walk

pub wrote_start : (old was : List ℕ) (by : ℕ) → HeapAccepted old → StandFurther old was by (area_start old) (length old) → WroteUpTo old was was by (area_start old)
wrote_start old was by h copied =
    let fits = h.1.tiles.head.a_chunk_fits in
    record { chunks = []; spelled = refl; inside = omega arith; further = tt; copied = copied; len = refl; front = λ k low high. refl }

pub wrote_there : (old was now : List ℕ) (by at : ℕ) → HeapAccepted old → WroteUpTo old was now by at → at < length old → (c : Chunk) × Spelled old at c
wrote_there old was now by at h w inside = chunk_there old h.0 w.chunks at h.1.tiles w.spelled inside

pub wrote_more : (old was now new : List ℕ) (by at size : ℕ) → length was ≡ length old + by → WroteUpTo old was now by at → WroteChunk old now new by at size → WroteUpTo old was new by (at + size)
wrote_more old was now new by at size len w c =
    let end = SpelledAll-end old (area_start old) w.chunks at w.spelled in
    let is = c.size_is in
    let sizes = Spelled-size old at c.chunk c.spelled in
    let inside = sizes.1 in
    let l1 = w.len in
    let l2 = c.len in
    record {
      chunks = w.chunks ++ c.chunk ∷ [];
      spelled = SpelledAll-push old (area_start old) w.chunks at c.chunk (at + size) w.spelled c.spelled (omega arith);
      inside = omega arith;
      further = EveryPlaced-push (StandsFurther old new by) (area_start old) w.chunks c.chunk at end (all_same old now new by (area_start old) at w.chunks c.front (omega arith) w.further) c.further;
      copied = λ k low high. c.back (k + by) (omega arith) (omega arith) ∙ w.copied k (omega arith) high;
      len = c.len ∙ w.len;
      front = λ k low high. c.front k low (omega arith) ∙ w.front k low high;
    }

pub wrote_size : (old now new : List ℕ) (by at size : ℕ) → WroteChunk old now new by at size → (8 ≤ size) × (at + size ≤ length old)
wrote_size old now new by at size c =
    let is = c.size_is in
    let sizes = Spelled-size old at c.chunk c.spelled in
    let least = sizes.0 in
    let inside = sizes.1 in
    (omega arith, omega arith)

pub wrote_all : (old was now : List ℕ) (by at : ℕ) → WroteUpTo old was now by at → length old ≤ at → WroteChunks old was now by
wrote_all old was now by at w beyond =
    let inside = w.inside in
    let end : at ≡ length old = omega arith in
    let are : chunks_of old ≡ w.chunks = chunks_of-area old w.chunks (subst (λ (n : ℕ). SpelledAll old (area_start old) w.chunks n) end w.spelled) in
    record { further = subst (λ (cs : List Chunk). EveryPlaced (StandsFurther old now by) (area_start old) cs) (sym are) w.further; len = w.len; front = w.front }

-- ---- the copy

area_copied : (old was new : List ℕ) (by start n : ℕ) → start + n ≡ length old → length was ≡ length old + by → new ≡ overwritten was (start + by) (take (start + n - start) (drop start old)) → StandFurther old new by start (length old)
area_copied old was new by start n end len e k low high =
    let up : start + by + (k - start) ≡ k + by = omega arith in
    let there : start + (k - start) ≡ k = omega arith in
    ap (λ (xs : List ℕ). slice_index xs (k + by)) e
    ∙ sym (ap (slice_index (overwritten was (start + by) (take (start + n - start) (drop start old)))) up)
    ∙ copied_at old was start (start + by) n (k - start) (omega arith) (omega arith) (omega arith)
    ∙ ap (slice_index old) there

front_kept : (was new part : List ℕ) (at : ℕ) → new ≡ overwritten was at part → at + length part ≤ length was → AreSame was new 0 at
front_kept was new part at e inside k low high = let w = wrote_part was new at part e inside in sym (w.below.same k low high)

-- all chunks are copied, and nothing before them is written
pub area_written : (old was new : List ℕ) (by start len : ℕ) → HeapAccepted old → length was ≡ length old + by → start ≡ area_start old → len ≡ length old
    → new ≡ overwritten was (start + by) (take (start + (len - start) - start) (drop start old)) → StandFurther old new by (area_start old) (length old) × AreSame was new 0 (area_start old + by)
area_written old was new by start len h many there all e =
    let fits = h.1.tiles.head.a_chunk_fits in
    let part : List ℕ = take (start + (len - start) - start) (drop start old) in
    let size : length part ≡ len - start = simp (length-take, length-drop) (omega arith) in (
      subst (λ (n : ℕ). StandFurther old new by n (length old)) there (area_copied old was new by start (len - start) (omega arith) many e),
      subst (λ (n : ℕ). AreSame was new 0 (n + by)) there (front_kept was new part (start + by) e (omega arith)),
    )

pub wrote_after : (old was mid new : List ℕ) (by : ℕ) → length mid ≡ length was → AreSame was mid 0 (area_start old + by) → WroteChunks old mid new by → WroteChunks old was new by
wrote_after old was mid new by len same w = record { further = w.further; len = w.len ∙ len; front = λ k low high. w.front k low high ∙ same k low high }
