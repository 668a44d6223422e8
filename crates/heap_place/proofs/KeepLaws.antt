-- What keeps the free chunks with their two words: chunks that are replaced by others keep all but
-- those among them, and the second word of a free chunk is written.
use Rattle.heap_place.proofs.Words.{◌≡◌, ◌≢◌, ℕ, ◌+◌, ◌%◌, ◌^◌, ◌<◌, ◌≤◌, List, [], ◌∷◌, ◌++◌, refl, sym, ap, subst, ◌∙◌, arith, inl, inr, slice_index, slice_set, u32_at, u32_bytes, overwritten, Chunk, free, total, IsFree, area_start, HeapAccepted, Tiles, IsHeap, chunks_of, EveryPlaced, AnyPlaced, IsFreeAt, BeginsFree, WritesPlain, u32_at-written, chunks_of-tiled, TakesBytes, SpelledAll-takes, EveryPlaced-split, AnyPlaced-left, AnyPlaced-right, AnyPlaced-split, AnyPlaced-mid, Replaces, replaced_total, same_start, wrote_none, wrote_word, wrote_wider, wrote_word_apart, WroteArea, area_replaces, wrote_slots, free_replaced, frame_start, becomes_heap, free_inside, free_word, IsOfClass, class_count, ButAt, Outside, KeepsFree, IsFreeChunk, Links, Pushes, cases_eq}
use Rattle.heap_place.proofs.FoundLaws.{heap_in_parts, middle_of, chunk_middle}

-- ---- chunks that are replaced

-- no free one of some chunks that stand from an offset on begins there
abbrev pub NotAmong : ℕ → List Chunk → ℕ → Type 0
NotAmong at mid there = AnyPlaced (IsFreeAt there) at mid → ⊥

pub keeps_tiled : {old new : List ℕ} {before mid others after : List Chunk} {at : ℕ} → chunks_of old ≡ before ++ (mid ++ after) → Tiles new (before ++ (others ++ after)) → Replaces old new before mid others after at
    → KeepsFree (NotAmong at mid) old new
keeps_tiled {old} {new} {before} {mid} {others} {after} {at} was now r there apart b =
    elim (AnyPlaced-split (IsFreeAt there) start before (mid ++ after) found) [
      | inl front ↦ record {
        begins = is (AnyPlaced-left (IsFreeAt there) start before (others ++ after) front);
        first = free_word old new there start before r.front.words front;
        second = r.front.seconds there front;
      }
      | inr rest ↦ elim (AnyPlaced-split (IsFreeAt there) (start + total before) mid after rest) [
        | inl these ↦ absurd (apart (subst (λ n. AnyPlaced (IsFreeAt there) n mid) (sym begins) these))
        | inr back ↦
            let behind = rw (← begins) at back in let moved = rw (← sums) at back in record {
              begins = is (AnyPlaced-right (IsFreeAt there) start before (others ++ after) (AnyPlaced-right (IsFreeAt there) (start + total before) others after moved));
              first = free_word old new there (at + total mid) after r.back.words behind;
              second = r.back.seconds there behind;
            }
      ]
    ] where
      start : ℕ
      start = area_start old

      begins : at ≡ start + total before
      begins = r.there

      sums : total others ≡ total mid
      sums = replaced_total old new before mid others after at r

      found : AnyPlaced (IsFreeAt there) (area_start old) (before ++ (mid ++ after))
      found = subst (λ cs. AnyPlaced (IsFreeAt there) (area_start old) cs) was b

      is : AnyPlaced (IsFreeAt there) (area_start old) (before ++ (others ++ after))
          → BeginsFree new there
      is a = rw (← (same_start old new r.head)) at (rw (← (chunks_of-tiled new _ now)) at a)

pub keeps_replaced : (old new : List ℕ) (before mid others after : List Chunk) (at : ℕ) → HeapAccepted old → chunks_of old ≡ before ++ (mid ++ after) → IsHeap new (before ++ (others ++ after)) → Replaces old new before mid others after at
    → KeepsFree (NotAmong at mid) old new
keeps_replaced old new before mid others after at h was now r = keeps_tiled was now.tiles r

-- what lies outside of them is not among them
pub outside_apart : (image : List ℕ) (before mid after : List Chunk) (at there : ℕ) → IsHeap image (before ++ (mid ++ after)) → at ≡ area_start image + total before → Outside at (total mid) there → NotAmong at mid there
outside_apart image before mid after at there h is o these =
    let sizes = SpelledAll-takes _ at mid _ (middle_of _ _ mid _ at h is).spelled in
    let f = free_inside there at mid sizes these in
    elim o [ inl front ↦ omega arith | inr back ↦ omega arith ]

-- no live chunk is free
pub live_apart : (at there : ℕ) (c : Chunk) → ((size : ℕ) → c ≡ free size → ⊥)
    → NotAmong at (c ∷ []) there
live_apart at there (free size) live these = live size refl
live_apart at there c live these = elim these [ inl here ↦ here | inr none ↦ none ]

-- a free chunk has no other
pub other_apart : (at size there : ℕ) → there ≢ at → NotAmong at (free size ∷ []) there
other_apart at size there apart these = elim these [ inl here ↦ apart (sym here) | inr none ↦ none ]

-- a free chunk other than one in parts of the image lies outside of it
pub others_outside : {image : List ℕ} (before : List Chunk) (size : ℕ) (after : List Chunk) {at : ℕ} (there : ℕ) → HeapAccepted image → chunks_of image ≡ before ++ free size ∷ after → at ≡ area_start image + total before → BeginsFree image there → there ≢ at → Outside at size there
others_outside {image} before size after there h was is b apart =
    elim (AnyPlaced-split (IsFreeAt there) (area_start image) before (free size ∷ after) found) [
      | inl front ↦ let f = free_inside there _ before sizes.0 front in inl (omega arith)
      | inr rest ↦ elim rest [
        | inl here ↦ absurd (apart (omega arith))
        | inr back ↦ let f = free_inside there _ after sizes.1.1 back in inr (omega arith)
      ]
    ] where
      found : AnyPlaced (IsFreeAt there) (area_start image) (before ++ free size ∷ after)
      found = subst (λ cs. AnyPlaced (IsFreeAt there) (area_start image) cs) was b

      sizes : EveryPlaced TakesBytes (area_start image) before × EveryPlaced TakesBytes (area_start image + total before) (free size ∷ after)
      sizes = EveryPlaced-split _ _ _ _ (SpelledAll-takes _ _ _ _ (heap_in_parts _ _ h was).tiles.area)

-- ---- the second word of a free chunk

pub free_there : (image : List ℕ) (at size : ℕ) → HeapAccepted image → IsFreeChunk image at size
    → IsFree image at size
free_there image at size h f = (chunk_middle h f).spelled.0

pub begins_there : {image : List ℕ} {at size : ℕ} → IsFreeChunk image at size → BeginsFree image at
begins_there {image} {at} {size} f = rw (← f.chunks) at (AnyPlaced-mid (IsFreeAt at) (area_start image) f.before (free size) f.after (sym f.there))

pub linked : {old new : List ℕ} {at size : ℕ} (word : ℕ) → HeapAccepted old → IsFreeChunk old at size → word < 2 ^ 32 → new ≡ overwritten old (at + 4) (u32_bytes word) → Links old new at word
linked {old} {new} {at} {size} word h f small is =
    let heap = heap_in_parts old (f.before ++ free size ∷ f.after) h f.chunks in
    let m = middle_of old f.before (free size ∷ []) f.after at heap f.there in
    let was : IsFree old at size = m.spelled.0 in
    let wrote = wrote_word old new (at + 4) word is (omega arith) in
    let all = wrote_wider old new (at + 4) (at + 4 + 4) at (at + (size + 0)) wrote (omega arith) (omega arith) in
    let len = all.len in
    let same = wrote_word_apart old new (at + 4) (at + 4 + 4) at wrote (inl (omega arith)) in
    let spelled : IsFree new at size = record {
      free_bit = subst (λ w. 2 ^ 31 ≤ w) (sym same) was.free_bit;
      size_field = ap (λ w. w % 2 ^ 24) same ∙ was.size_field;
      header_fits = was.header_fits;
      whole = was.whole;
      inside = subst (λ n. at + size ≤ n) (sym len) was.inside;
    } in
    let area : WroteArea old new at (at + (size + 0)) = record { mid = new; slot = at; area = all; word = wrote_none new at (at + 4); is_slot = inl refl; there = omega arith; fits = omega arith } in
    let replaces = area_replaces old new f.before (free size ∷ [])
    (free size ∷ []) f.after at heap.tiles tt f.there m.inside area (spelled, omega arith) in
    let slots = wrote_slots old new f.before (free size ∷ []) f.after at heap.tiles tt f.there all in
    let now = free_replaced old new f.before (free size ∷ []) (free size ∷ []) f.after at heap replaces slots tt tt in
    let keeps : KeepsFree (ButAt at) old new = λ x apart b. keeps_replaced old new f.before (free size ∷ []) (free size ∷ []) f.after at h f.chunks now replaces x (λ these. elim these [ inl here ↦ apart (sym here) | inr none ↦ none ]) b in
    record {
      frame = (becomes_heap old new (f.before ++ ((free size ∷ []) ++ f.after)) replaces.head now).frame;
      chunks = chunks_of-tiled new (f.before ++ ((free size ∷ []) ++ f.after)) now.tiles ∙ sym f.chunks;
      firsts = λ x b. elim (cases_eq x at) [ inl e ↦ subst (λ y. u32_at new y ≡ u32_at old y) (sym e) same | inr apart ↦ (keeps x apart b).first ];
      keeps = keeps;
      second = ap (λ image. u32_at image (at + 4)) is ∙ u32_at-written word (at + 4) old (omega arith) small;
    }

pub links_start : {old new : List ℕ} {at word : ℕ} → Links old new at word
    → area_start new ≡ area_start old
links_start {old} {new} l = frame_start old new l.frame

pub links_begin : {old new : List ℕ} {at word : ℕ} (there : ℕ) → Links old new at word
    → BeginsFree new there → BeginsFree old there
links_begin there l b = rw l.chunks at (rw (links_start l) at b)

pub links_plain : (old new : List ℕ) (at word : ℕ) → Links old new at word → WritesPlain old new
links_plain old new at word l there b = let was = links_begin _ l b in inr (was, l.firsts there was)

pub links_chunk : {old new : List ℕ} {at word there size : ℕ} → Links old new at word
    → IsFreeChunk old there size → IsFreeChunk new there size
links_chunk {there} l f = record { before = f.before; after = f.after; chunks = l.chunks ∙ f.chunks; there = f.there ∙ ap (λ n. n + total f.before) (sym (links_start l)) }

pub was_pushed : {old new : List ℕ} (heads : List ℕ) {after : List ℕ} {at size class : ℕ} → HeapAccepted old → IsFreeChunk old at size → class < class_count → IsOfClass class size → slice_index heads class < 2 ^ 32 → new ≡ overwritten old (at + 4) (u32_bytes (slice_index heads class)) → after ≡ slice_set heads class at
    → Pushes old new heads after at
was_pushed {new} heads {at} {size} {class} h f below of_class small is head =
    let l = linked (slice_index heads class) h f small is in let now = links_chunk l f in
    let spelled = free_there new at size l.frame.accepted now in record {
      class = class;
      below = below;
      links = l;
      free = record { begins = begins_there now; of_class = rw (← spelled.size_field) at of_class; positive = omega arith };
      is_head = head;
    }
