-- What a space keeps when bytes of a chunk's body are written, or a chunk is put into room.
use Rattle.heap_compact.proofs.Words.{◌≡◌, ℕ, ◌+◌, ◌-◌, ◌≤◌, List, length, refl, sym, ap, subst, ◌∙◌, arith, length-take, length-drop, Memory, HeapAccepted, changed_every, IsWithin, Chunk, need, size_of, LendsOther, chunks_of, Alters, Becomes, Claims, with_bytes, WritesPlain, KnowsTables, Remembered, Found, IsOne, CutsRoom, Fills, HasLists, IsSpace, overwritten, bytes_inside, one_body_within, written_holds, slice_range, cut_claims, claims_same, same_lents}
use Rattle.heap_place.proofs.AlterLaws.{written_there}
use Rattle.raw_region.proofs.ChangeLaws.{length-changed_every}
use Rattle.heap_place.proofs.WithinLaws.{body_lists}
use Rattle.heap_compact.proofs.KeptLaws.{viewed_kept, viewed_heap}

-- The bytes `part` were written at `at` in the body of a found chunk. The lists of free chunks and
-- the remembered tables are right in the new image too.
pub record BodyWritten (old new heads : List ℕ) (known : Remembered) (found : Found) (at : ℕ) (part : List ℕ) : Type 0 where
  pub fits : at + length part ≤ found.length
  pub made : Alters old new (found.place.0 - 8) (with_bytes at part)
  pub plain : WritesPlain old new
  pub lists : HasLists new heads
  pub tables : KnowsTables new known

-- The same, of a body that isn't lent.
pub record SpaceWritten (old : List ℕ) (new : Memory) (heads : List ℕ) (known : Remembered) (found : Found) (at : ℕ) (part : List ℕ) : Type 0 where
  pub made : Alters old new.bytes (found.place.0 - 8) (with_bytes at part)
  pub plain : WritesPlain old new.bytes
  pub space : IsSpace new heads known

module _ {old region : Memory} {heads : List ℕ} {known : Remembered} {found : Found} (view : region ≡ old) (s : IsSpace region heads known) (f : IsOne old.bytes found) where
  -- what is written may depend on the bytes that were there
  pub body_written : {new : List ℕ} (at place : ℕ) (part : List ℕ → List ℕ)
      → place ≡ found.place.0 + at
      → at + length (part old.bytes) ≤ found.length
      → new ≡ overwritten region.bytes place (part region.bytes)
      → BodyWritten old.bytes new heads known found at (part old.bytes)
  body_written at place part e fits is =
      let heap = viewed_heap view s.heap in
      let whole = is ∙ ap (λ (n : ℕ). overwritten region.bytes n (part region.bytes)) e in
      let mine = whole ∙ ap (λ (m : Memory). overwritten region.bytes (found.place.0 + at) (part m.bytes)) view in
      let shown = whole ∙ ap (λ (m : Memory). overwritten m.bytes (found.place.0 + at) (part m.bytes)) view in
      let there = written_there _ _ found at (part old.bytes) heap.accepted f fits shown in record {
        fits = fits;
        made = there.0;
        plain = there.1;
        lists = body_lists _ _ _ _ found at (part old.bytes) view heap.accepted f fits mine s.lists;
        tables = viewed_kept known view there.0.frame s.tables;
      }

  module _ (other : LendsOther old found.place.0) where
    pub space_written : (new : Memory) (at : ℕ) (part : List ℕ → List ℕ) → at + length (part old.bytes) ≤ found.length → new.bytes ≡ overwritten region.bytes (found.place.0 + at) (part region.bytes) → new.lents ≡ region.lents
        → SpaceWritten old.bytes new heads known found at (part old.bytes)
    space_written new at part fits is same =
        let w = body_written at _ part refl fits is in
        let heap = written_holds _ new found _ _ (viewed_heap view s.heap) (same ∙ same_lents view) f w.made w.fits other in
        record { made = w.made; plain = w.plain; space = record { heap = heap; lists = w.lists; tables = w.tables } }

    -- such bytes may be written
    pub body_within : (at n : ℕ) → at + n ≤ found.length → IsWithin region (found.place.0 + at) n
    body_within at n fits =
        let heap = viewed_heap view s.heap in
        subst (λ (m : Memory). IsWithin m (found.place.0 + at) n) (sym view) (one_body_within old _ at n heap.accepted heap.lent f other fits)

-- ---- a chunk is put into room that was found

-- the room is taken from its lists, the chunk is put there, and all lists are built
pub room_claimed : {old region : Memory} {taken mid new : List ℕ} {at room size : ℕ} (count : ℕ) (chunk : Chunk) → region ≡ old → size ≡ need count → size_of chunk ≡ need count
    → Becomes region.bytes taken (chunks_of region.bytes) → CutsRoom region.bytes taken at room size → Fills taken mid at (need count) chunk → Becomes mid new (chunks_of mid) → Claims old.bytes new at room chunk
room_claimed {new} {at} {room} count chunk view e is same cut fills built =
    let makes = cut_claims _ _ _ _ room _ _ is same (rw e at cut) fills in
    subst (λ m. Claims m.bytes new at room chunk) view (claims_same _ _ _ _ _ _ makes built)

-- ---- bytes at equal distances are changed

-- the bytes that take their place
abbrev pub changed_part : List ℕ → Found → ℕ → ℕ → ℕ → ℕ → (ℕ → ℕ) → List ℕ
changed_part image found at count skip step change = changed_every change step skip (slice_range image (found.place.0 + at) (found.place.0 + at + count))

pub length-changed_part : (image : List ℕ) (found : Found) (at count skip step : ℕ) (change : ℕ → ℕ) → HeapAccepted image → IsOne image found → at + count ≤ found.length → length (changed_part image found at count skip step change) ≡ count
length-changed_part image found at count skip step change h f within =
    let inside = bytes_inside _ found h f in
    let part : List ℕ = slice_range image (found.place.0 + at) (found.place.0 + at + count) in
    let many : length part ≡ count = simp (length-take, length-drop) (omega arith) in
    length-changed_every change step skip part ∙ many
