-- The look-up of a slot gives the body under it, and so the directory and the headers.
use Rattle.store_check.proofs.Terms.{◌≡◌, ◌≢◌, ℕ, ◌+◌, ◌-◌, ◌*◌, ◌<◌, List, [], length, get_or, Option, Some, None, MatchOption, refl, sym, ap, subst, ◌∙◌, arith, inl, inr, cases_eq, slice_get-get_or, slice_range, IsSome, u32_at, Chunk, movable, HasChunk, managers_owner, IsSlot, HeapAccepted, directory_of, bytes_of, owner_of, bytes_under, owner_under, directory_bytes, directory_owner, owned_slot, listed_at, listed_count, header_at, IsGoodDirectory, AreListed, HasBody, body_if_movable, Body}
use Rattle.std.specs.Option.{option_map}
use Rattle.heap_model.specs.Reading.{chunk_at, chunks_of, held}
use Rattle.heap_model.specs.declared.names.Place.{Place}
use Rattle.laws_heap.proofs.Meanings.{held-is, held-zero, empty_unheld}
use Rattle.laws_heap.proofs.Shapes.{chunk_at-spelled}
use Rattle.laws_heap.proofs.FoundChunks.{read_heap, InSlot, in_slot, finds_held, finds_spelled, finds_body, finds_read}
use Rattle.chunk_format.specs.declared.header.Header.{Header}
use Rattle.chunk_format.specs.declared.header.Header.TheVariants as headers
use Rattle.chunk_format.specs.Header.{header_of, HasHeader}

-- the slot of a chunk of the manager's holds its place
pub managers_held : (image : List ℕ) (slot place : ℕ) → HeapAccepted image
    → owner_under image slot ≡ managers_owner → place ≡ u32_at image slot → InSlot image slot place
unfolding owner_under
managers_held image slot place h own is = in_slot _ _ _ h s (sym is) (elim (cases_eq (u32_at image
    slot) 0) [ inl empty ↦ absurd (none empty) | inr some ↦ omega arith ]) where
      s : IsSlot image slot
      s = owned_slot image slot h (inl own)

      none : u32_at image slot ≡ 0 → ⊥
      none empty =
          let nothing : owner_of (held image slot) ≡ 16 = ap owner_of
          (held-is _ _ slot (read_heap _ h) ∙ empty_unheld _ _ _ (read_heap _ h) s empty) in
          omega arith

pub held_chunk : (image : List ℕ) (slot place : ℕ) → HeapAccepted image → InSlot image slot place
    → HasChunk image (place - 8)
held_chunk image slot place h s =
    let chunk : Chunk = movable s.live.bytes s.live.lock s.live.owner s.named in
    record { chunk = chunk; spelled = finds_spelled image slot s.live chunk (place - 8) h s.finds }

slot_header : (image : List ℕ) (name place : ℕ) → HeapAccepted image → (s : InSlot image name place)
    → option_map header_of (chunk_at image (place - 8))
    ≡ Some (headers.Movable (length s.live.bytes) s.live.lock s.live.owner s.named)
slot_header image name place h s = ap (option_map header_of) (finds_read _ _ _ _ _ h s.finds)

movable_in : (image : List ℕ) (slot : ℕ) (place : Place) → HeapAccepted image
    → (s : InSlot image slot place.0)
    → HasBody image slot (record { place = place; length = length s.live.bytes })
unfolding bytes_under
movable_in image slot place h s =
    let is = finds_held image slot s.live _ (place.0 - 8) h s.finds in
    let body = finds_body image slot s.live _ (place.0 - 8) h s.finds in
    let low = s.behind_header in
    let e : place.0 - 8 + 8 ≡ place.0 = omega arith in
    let inside = body.inside in
    record {
      bytes = ap bytes_of is ∙ sym body.bytes
          ∙ ap (λ (p : ℕ). slice_range image p (p + length s.live.bytes)) e;
      inside = omega arith;
    }

-- a header that stands there is the one that is read
header_read : (image : List ℕ) (at : ℕ) (header : Header) → HasHeader image at header
    → Some header ≡ option_map header_of (chunk_at image at)
header_read image at header h = ap (λ (x : Header). Some x) h.header_is
    ∙ sym (ap (option_map header_of) (chunk_at-spelled _ at h.chunk h.spelled))

header_found : (image : List ℕ) (slot : ℕ) (place : Place) (header : Header) → HeapAccepted image
    → HasHeader image (place.0 - 8) header → InSlot image slot place.0
    → MatchOption (body_if_movable header place) ⊥ (HasBody image slot)
header_found image slot place header h there s =
    subst (λ (x : Header). MatchOption (body_if_movable x place) ⊥ (HasBody image slot))
    (sym (same (header_read image (place.0 - 8) header there ∙ slot_header image slot place.0 h s)))
    (movable_in image slot place h s) where
      same : Some header ≡ Some (headers.Movable (length s.live.bytes) s.live.lock s.live.owner
          s.named) → header ≡ headers.Movable (length s.live.bytes) s.live.lock s.live.owner s.named
      same e = cc

pub body_found : (image : List ℕ) (slot : ℕ) (place : Place) (header : Header) (found : Option Body)
    → HeapAccepted image → HasHeader image (place.0 - 8) header
    → found ≡ body_if_movable header place → InSlot image slot place.0
    → MatchOption found ⊥ (HasBody image slot)
body_found image slot place header found h there is s =
    subst (λ (o : Option Body). MatchOption o ⊥ (HasBody image slot)) (sym is)
    (header_found image slot place header h there s)

-- what holds of the value that is there
pub is_some_matched : (P : Body → Type 0) (found : Option Body) → MatchOption found ⊥ P
    → IsSome found
is_some_matched P None m = absurd m
is_some_matched P (Some body) m = refl

pub matched_value : (P : Body → Type 0) (found : Option Body) (body : Body) → found ≡ Some body
    → MatchOption found ⊥ P → P body
matched_value P found body e m = subst (λ (o : Option Body). MatchOption o ⊥ P) e m

-- ---- the directory and the headers

pub no_directory : (image : List ℕ) → HeapAccepted image → directory_of image ≡ 0
    → [] ≡ directory_bytes image
unfolding directory_bytes bytes_under
no_directory image h e = sym (ap (λ (s : ℕ). bytes_under image s) e ∙ ap bytes_of (held-zero _ h))

pub some_directory : (image : List ℕ) (slot : ℕ) → HeapAccepted image → slot ≡ directory_of image
    → slot ≢ 0 → owner_under image slot ≡ managers_owner
some_directory image slot h is some =
    ap (owner_under image) is ∙ directory_owner image h (omega arith)

pub the_directory : (image : List ℕ) (slot : ℕ) → slot ≡ directory_of image
    → bytes_under image slot ≡ directory_bytes image
unfolding directory_bytes
the_directory image slot e = ap (bytes_under image) e

-- the word of an index in the bytes of the directory
pub word_listed : (image directory : List ℕ) (index : ℕ) → directory ≡ directory_bytes image
    → u32_at directory (4 * index) ≡ listed_at image index
word_listed image directory index e = ap (λ (b : List ℕ). u32_at b (4 * index)) e

pub header_owner : (image directory : List ℕ) (db slot : ℕ) → IsGoodDirectory image directory
    → db < listed_count image → slot ≡ u32_at directory (4 * db)
    → owner_under image slot ≡ managers_owner
header_owner image directory db slot l below e =
    ap (owner_under image) (e ∙ word_listed image _ db l.bytes) ∙ (l.headers db below).owner

-- where the header under that word is
pub listed_body : (image directory : List ℕ) (db slot : ℕ) (body : Body)
    → IsGoodDirectory image directory → slot ≡ u32_at directory (4 * db) → HasBody image slot body
    → HasBody image (listed_at image db) body
listed_body image directory db slot body l e h = rw (e ∙ word_listed image _ db l.bytes) at h

-- and its bytes
pub header_bytes : (image bytes : List ℕ) (db : ℕ) (body : Body)
    → HasBody image (listed_at image db) body
    → bytes ≡ slice_range image body.place.0 (body.place.0 + body.length)
    → bytes ≡ header_at image db
unfolding header_at
header_bytes image bytes db body h is = is ∙ sym h.bytes

-- the header of an index in a table
pub header_noted : (image : List ℕ) (headers : List Body) (db : ℕ) (none : Body)
    → AreListed image headers → db < length headers
    → HasBody image (listed_at image db) (get_or headers db none)
header_noted image headers db none l below =
    l.each db (get_or headers db none) (slice_get-get_or headers db none below)
