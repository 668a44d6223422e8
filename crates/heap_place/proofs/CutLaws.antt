-- What the writes of cutting off room and of claiming it do to an accepted heap.
use Rattle.heap_place.proofs.Words.{◌≡◌, ℕ, zero, suc, ◌+◌, ◌-◌, ◌*◌, ◌%◌, ◌^◌, ◌<◌, ◌≤◌, List, [], ◌∷◌, ◌++◌, length, take, drop, replicate, refl, sym, ap, subst, ◌∙◌, arith, inl, inr, length-append, slice_range, length-replicate, drop_all, append-nil, u32_at, u32_bytes, Chunk, free, movable, fixed, fixed_lock, need, total, IsFree, Spelled, SpelledAll, IsSlot, TablesLie, area_start, HeapAccepted, chunks_of, AnyPlaced, merged, Becomes, gap, IsSpot, IsPlain, IsFreeAt, WritesPlain, u32_at-written, slice-same, slice-overwritten, length-u32_bytes, Spelled-same, seen-movable, plain-callers, chunks_of-tiled, slot_facts, free_hold_none, slot_beside, replaced_total, WroteWithin, wrote_none, wrote_part, wrote_word, wrote_wider, wrote_then, wrote_apart, wrote_word_apart, WroteArea, area_replaces, wrote_slots, area_slots, beside_same, beside_word, table_kept, free_replaced, OtherSlots, claimed, merged-left, merged-right, runs-merged, becomes_heap, becomes_alike, gap_free, free_plain, lives_plain, replaced_plain, overwritten_body, claimed_fixed, header_of, HasHeader, header_words, live_words, h_offset_to, WroteRest, IsFreeChunk, KeepsFree, Outside, ButAt}
use Rattle.heap_model.specs.Bytes.{overwritten}
use Rattle.chunk_format.specs.declared.header.Header.TheVariants as headers
use Rattle.heap_place.proofs.FoundLaws.{heap_in_parts, middle_of, chunk_middle}
use Rattle.heap_place.proofs.KeepLaws.{keeps_replaced, outside_apart, other_apart}

-- ---- headers of free chunks

pub free_header : (size : ℕ) (c : Chunk) → headers.Free size ≡ header_of c → c ≡ free size
free_header size (free n) e = let same : size ≡ n = cc in ap free (sym same)
free_header size c e = absurd cc

pub has_free : (image : List ℕ) (at size : ℕ) → HasHeader image at (headers.Free size)
    → IsFree image at size
has_free image at size h = rw (free_header size h.chunk h.header_is) at h.spelled

-- ---- a run is carved

pub gap_spelled : (old : List ℕ) {mid new : List ℕ} {at : ℕ} (size at_rest rest end : ℕ) → at_rest ≡ at + size → end ≡ at_rest + rest → 8 ≤ size → end ≤ length new → length new ≡ length mid → WroteWithin mid new at (at + 8) → WroteRest old mid at_rest rest → SpelledAll new at_rest (gap rest) end
gap_spelled old size at_rest zero end e f least inside len w r = omega arith
gap_spelled old {mid} {new} {at} size at_rest (suc n) end e f least inside len w r = elim r [
  | inl none ↦ absurd (omega arith)
  | inr some ↦
      let there = has_free mid at_rest (suc n) some.1.1 in
      (Spelled-same mid new at_rest (free (suc n)) (wrote_apart mid new at (at + 8) at_rest (at_rest + suc n) w (inr (omega arith, omega arith))) len there, omega arith)
]

pub rest_within : (old mid : List ℕ) (at_rest rest low high : ℕ) → WroteRest old mid at_rest rest → low ≤ at_rest → at_rest + rest ≤ high → high ≤ length old → rest % 8 ≡ 0 → WroteWithin old mid low high
rest_within old mid at_rest rest low high r a b c whole = elim r [
  | inl none ↦ subst (λ image. WroteWithin old image low high) (sym none.1) (wrote_none old low _)
  | inr some ↦ wrote_wider _ _ _ _ _ _ (wrote_word _ mid _ _ some.1.0 (omega arith)) a (omega arith)
]

-- what is left has a plain first word
pub gap_plain : (old : List ℕ) {mid new : List ℕ} {at : ℕ} (size at_rest rest : ℕ) → at_rest ≡ at + size → 8 ≤ size → at_rest + rest ≤ length mid → rest < 2 ^ 24 → rest % 8 ≡ 0 → WroteWithin mid new at (at + 8) → WroteRest old mid at_rest rest → length mid ≡ length old
    → (there : ℕ) → AnyPlaced (IsFreeAt there) at_rest (gap rest) → IsPlain (u32_at new there)
gap_plain old size at_rest zero e least inside small whole w r len there h = absurd h
gap_plain old {mid} {new} {at} size at_rest (suc n) e least inside small whole w r len there h = elim r [
  | inl none ↦ absurd (omega arith)
  | inr some ↦ free_plain new _ _ [] (wrote_word_apart mid new at _ _ w (inr (omega arith, omega arith)) ∙ ap (λ x. u32_at x at_rest) some.1.0 ∙ u32_at-written _ _ old (omega arith) (omega arith)) small (λ there none. absurd none) there h
]

-- and so has what was cut off
cut_plain : (old mid : List ℕ) {new : List ℕ} (at size rest : ℕ) → 8 ≤ size → at + size + rest ≤ length mid → size + rest < 2 ^ 24 → rest % 8 ≡ 0 → new ≡ overwritten mid at (u32_bytes (2 ^ 31 + size)) → WroteRest old mid (at + size) rest → length mid ≡ length old
    → (there : ℕ) → AnyPlaced (IsFreeAt there) at (free size ∷ gap rest)
    → IsPlain (u32_at new there)
cut_plain old mid {new} at size rest least inside small whole is r len =
    free_plain new at size _ (ap (λ x. u32_at x at) is ∙ u32_at-written _ at mid (omega arith) (omega arith)) (omega arith)
    (gap_plain old size _ rest refl least inside (omega arith) whole (wrote_wider mid new at _ at _ (wrote_word mid new at _ is (omega arith)) (omega arith) (omega arith)) r len)

pub was_cut : {old : List ℕ} (mid : List ℕ) {new : List ℕ} {at room : ℕ} (size : ℕ) → HeapAccepted old → (r : IsSpot old at room) → 8 ≤ size → size % 8 ≡ 0 → size ≤ room → WroteRest old mid (at + size) (room - size)
    → new ≡ overwritten mid at (u32_bytes (2 ^ 31 + size)) → HasHeader new at (headers.Free size) → Becomes old new (chunks_of old) × (chunks_of new ≡ r.before ++ (free size ∷ (gap (room - size) ++ r.after))) × KeepsFree (Outside at room) old new × WritesPlain old new
was_cut {old} mid {new} {at} {room} size accepted r least whole within wrote is header =
    let heap = heap_in_parts old (r.before ++ (r.run ++ r.after)) accepted r.chunks in
    let m = middle_of old r.before r.run r.after at heap r.there in
    let sums : room ≡ total r.run = r.sums in let rest : ℕ = room - size in
    let first = rest_within old mid (at + size) rest at (at + room) wrote (omega arith) (omega arith) (omega arith) (omega arith) in
    let len_mid = first.len in
    let second = wrote_word mid new at (2 ^ 31 + size) is (omega arith) in
    let all = wrote_then old mid new at _ first (wrote_wider mid new at (at + 4) at (at + room) second (omega arith) (omega arith)) in
    let area : WroteArea old new at (at + room) = record { mid = new; slot = at; area = all; word = wrote_none new at (at + 4); is_slot = inl refl; there = omega arith; fits = omega arith } in
    let others : List Chunk = free size ∷ gap rest in
    let spelled : SpelledAll new at others (at + total r.run) = (has_free new at size header, gap_spelled old size (at + size) rest (at + total r.run) refl (omega arith) least (omega arith) (second.len) (wrote_wider mid new at (at + 4) at (at + 8) second (omega arith) (omega arith)) wrote) in
    let replaces = area_replaces old new r.before r.run others r.after at heap.tiles
    (free_hold_none r.run r.all_free) r.there m.inside (rw sums at area) spelled in
    let slots = wrote_slots old new r.before r.run r.after at heap.tiles (free_hold_none r.run r.all_free) r.there (rw sums at all) in
    let new_heap = free_replaced old new r.before r.run others r.after at heap replaces slots r.all_free (gap_free rest) in
    let sizes = replaced_total old new r.before r.run others r.after at replaces in
    let alike = merged-left others r.run r.after (runs-merged others r.run (gap_free rest) r.all_free (omega arith) sizes) in
    let all_alike = merged-right r.before (others ++ r.after) (r.run ++ r.after) alike ∙ ap merged (sym r.chunks) in
    let becomes = becomes_alike old new (r.before ++ (others ++ r.after)) (chunks_of old) all_alike
    (becomes_heap old new (r.before ++ (others ++ r.after)) replaces.head new_heap) in (
      becomes,
      chunks_of-tiled new (r.before ++ (others ++ r.after)) new_heap.tiles,
      λ there out b. keeps_replaced old new r.before r.run others r.after at accepted r.chunks new_heap replaces there
          (outside_apart old r.before r.run r.after at there heap r.there (rw sums at out)) b,
      replaced_plain old new r.before r.run others r.after at r.chunks new_heap replaces (cut_plain old mid at size rest least (omega arith) (omega arith) (omega arith) is wrote len_mid),
    )

-- where room lies
pub room_facts : (image : List ℕ) (at size : ℕ) → HeapAccepted image → IsSpot image at size
    → (at + size ≤ length image) × (size % 8 ≡ 0) × (length image ≤ 16777208)
room_facts image at size accepted r =
    let m = middle_of image _ r.run r.after at (heap_in_parts image _ accepted r.chunks) r.there in
    (omega arith, omega arith, m.most)

pub rest_length : (old new : List ℕ) (at size : ℕ) → WroteRest old new at size
    → at + size ≤ length old → size % 8 ≡ 0 → length new ≡ length old
rest_length old new at size w inside whole = (rest_within old new at size at _ w (omega arith) (omega arith) inside whole).len

-- ---- a free chunk is claimed

-- where a free chunk lies that was cut off
pub cut_facts : {image : List ℕ} {size at : ℕ} → HeapAccepted image → IsFreeChunk image at size → (at + size ≤ length image) × (area_start image ≤ at) × (at % 8 ≡ 0) × (length image ≤ 16777208)
cut_facts accepted r =
    let m = chunk_middle accepted r in (omega arith, omega arith, m.start_whole, m.most)

pub header_movable : (count lock owner slot : ℕ) (c : Chunk) → headers.Movable count lock owner slot ≡ header_of c → (bytes : List ℕ) × ((c ≡ movable bytes lock owner slot) × (length bytes ≡ count))
header_movable count lock owner slot (free n) e = absurd cc
header_movable count lock owner slot (fixed bytes v) e = absurd cc
header_movable count lock owner slot (movable bytes l v s) e =
    let n : count ≡ length bytes = cc in (bytes, (cc, sym n))

-- the header of a chunk, and zeros after it
zeroed : {h : List ℕ} (new : List ℕ) {at : ℕ} (count lock owner slot : ℕ) → HasHeader h at (headers.Movable count lock owner slot) → length new ≡ length h → u32_at new at ≡ u32_at h at → u32_at new (at + 4) ≡ u32_at h (at + 4)
    → slice_range new (at + 8) (at + 8 + count) ≡ replicate count 0
    → Spelled new at (movable (replicate count 0) lock owner slot)
zeroed {h} new {at} count lock owner slot found len first second body =
    let m = header_movable count lock owner slot found.chunk found.header_is in
    let s = subst (λ c. Spelled h at c) m.1.0 found.spelled in
    let zeros : length (replicate {A = ℕ} count 0) ≡ count = length-replicate count 0 in
    let same : length (replicate {A = ℕ} count 0) ≡ length m.0 = zeros ∙ sym m.1.1 in
    let inside : at + need (length m.0) ≤ length h = s.1.inside in
    let fits : need (length m.0) < 2 ^ 24 = s.1.size_fits in (
      s.0,
      record {
        first_word = first ∙ s.1.first_word ∙ ap (λ n. (need n - 8 - n) * 2 ^ 24 + need n) (sym same);
        size_fits = omega arith;
        second_word = second ∙ s.1.second_word;
        lock_fits = s.1.lock_fits;
        owner_fits = s.1.owner_fits;
        h_offset_fits = s.1.h_offset_fits;
        body = seen-movable lock _ _ s.2 ∙ ap (λ n. slice_range new (at + 8) (at + 8 + n)) zeros ∙ body;
        inside = omega arith;
      },
      s.2,
      s.3,
      s.4,
    )

pub live_words_length : (count lock owner h : ℕ) → length (live_words count lock owner h) ≡ 8
live_words_length count lock owner h =
    let a = length-u32_bytes ((need count - 8 - count) * 2 ^ 24 + need count) in
    let b = length-u32_bytes (lock * 2 ^ 28 + owner * 2 ^ 24 + h) in
    simp length-append (omega arith)

-- the header and the bytes of the claimed chunk lie among the chunks
pub claimed_area : (old : List ℕ) {h z : List ℕ} (at count owner slot : ℕ) → at + need count ≤ length old → h ≡ overwritten old at (live_words count 0 owner (h_offset_to at slot)) → z ≡ overwritten h (at + 8) (replicate count 0) → WroteWithin old z at (at + need count)
claimed_area old {h} {z} at count owner slot inside h_is z_is =
    let words : List ℕ = live_words count 0 owner (h_offset_to at slot) in
    let eight = live_words_length count 0 owner (h_offset_to at slot) in
    let zeros : length (replicate {A = ℕ} count 0) ≡ count = length-replicate count 0 in
    let header = wrote_wider old h at (at + length words) at (at + need count)
    (wrote_part old h at words h_is (omega arith)) (omega arith) (omega arith) in
    let body = wrote_part h z (at + 8) (replicate count 0) z_is (omega arith) in
    wrote_then old h z at (at + need count) header (wrote_wider h z (at + 8) (at + 8 + length (replicate count 0)) at (at + need count) body (omega arith) (omega arith))

-- what is written among the chunks leaves the tables where they are
pub claimed_table : {old h z : List ℕ} {at : ℕ} (count owner : ℕ) {slot : ℕ} → HeapAccepted old → (r : IsFreeChunk old at (need count)) → IsSlot old slot → h ≡ overwritten old at (live_words count 0 owner (h_offset_to at slot)) → z ≡ overwritten h (at + 8) (replicate count 0) → TablesLie z × IsSlot z slot
claimed_table {old} {z} {at} count owner {slot} accepted r s h_is z_is =
    let size : ℕ = need count in
    let heap = heap_in_parts old (r.before ++ free size ∷ r.after) accepted r.chunks in
    let facts = cut_facts accepted r in let e : size ≡ size + 0 = omega arith in
    table_kept old z r.before (free size ∷ []) r.after at slot heap.tiles tt r.there
    (rw e at (claimed_area old at count owner slot facts.0 h_is z_is)) s

pub claimed_write : {old h z new : List ℕ} {at : ℕ} (count owner : ℕ) {slot : ℕ} → HeapAccepted old
    → (r : IsFreeChunk old at (need count)) → IsSlot old slot → u32_at old slot ≡ 0
    → h ≡ overwritten old at (live_words count 0 owner (h_offset_to at slot)) → HasHeader h at (headers.Movable count 0 owner slot) → z ≡ overwritten h (at + 8) (replicate count 0) → new ≡ overwritten z slot (u32_bytes (at + 8))
    → Becomes old new (r.before ++ movable (replicate count 0) 0 owner slot ∷ r.after) × KeepsFree (ButAt at) old new × WritesPlain old new
claimed_write {old} {h} {z} {new} {at} count owner {slot} accepted r s empty h_is header z_is new_is =
    let size : ℕ = need count in
    let heap = heap_in_parts old (r.before ++ free size ∷ r.after) accepted r.chunks in
    let facts = cut_facts accepted r in let inside = facts.0 in
    let slot_inside = (slot_facts old _ slot accepted.1.tiles s).inside in
    let beside = slot_beside old r.before (free size ∷ []) r.after at slot heap.tiles tt r.there s in
    let eight = live_words_length count 0 owner (h_offset_to at slot) in
    let zeros : length (replicate {A = ℕ} count 0) ≡ count = length-replicate count 0 in
    let w1 = wrote_wider old h at (at + length (live_words count 0 owner (h_offset_to at slot))) at (at + size) (wrote_part old h at (live_words count 0 owner (h_offset_to at slot)) h_is (omega arith)) (omega arith) (omega arith) in
    let w2' = wrote_part h z (at + 8) (replicate count 0) z_is (omega arith) in
    let w2 = wrote_wider h z (at + 8) (at + 8 + length (replicate count 0)) at (at + size) w2' (omega arith) (omega arith) in
    let area = claimed_area old at count owner slot inside h_is z_is in
    let word = wrote_word z new slot (at + 8) new_is (omega arith) in
    let first = beside_word z new slot at (at + (size + 0)) at word beside (omega arith) (omega arith) (omega arith) ∙ wrote_word_apart h z (at + 8) (at + 8 + length (replicate count 0)) at w2' (inl (omega arith)) in
    let second = beside_word z new slot at (at + (size + 0)) (at + 4) word beside (omega arith) (omega arith) (omega arith) ∙ wrote_word_apart h z (at + 8) (at + 8 + length (replicate count 0)) (at + 4) w2' (inl (omega arith)) in
    let body : slice_range new (at + 8) (at + 8 + count) ≡ replicate count 0 =
    sym (slice-same (at + 8) (at + 8 + count) z new (beside_same z new slot at (at + (size + 0)) (at + 8) (at + 8 + count) word beside (omega arith) (omega arith) (omega arith)) (omega arith) (omega arith))
    ∙ ap (λ x. take (at + 8 + count - (at + 8)) (drop (at + 8) x)) z_is
    ∙ slice-overwritten h (at + 8) (replicate count 0) count zeros (omega arith) in
    let spelled = zeroed new count 0 owner slot header (omega arith) first second body in
    let is : at ≡ area_start old + total r.before = r.there in
    let wrote = subst (λ n. WroteArea old new at (at + n)) (let e : size ≡ size + 0 = omega arith in e)
    record { mid = z; slot = slot; area = area; word = word; is_slot = inr s; there = omega arith; fits = omega arith } in
    let replaces = area_replaces old new r.before (free size ∷ []) (movable (replicate count 0) 0 owner slot ∷ []) r.after at heap.tiles tt is (omega arith) wrote (spelled, omega arith) in
    let now = ap (λ x. u32_at x slot) new_is ∙ u32_at-written (at + 8) slot z (omega arith) (omega arith) in
    let others : OtherSlots old new slot = record { same = λ t ts ne. area_slots old new r.before (free size ∷ []) r.after at t heap.tiles tt is wrote ts (λ e. ne (sym e)) } in
    let c = claimed old new r.before r.after at (free size) (replicate count 0) owner slot tt heap replaces s empty now others in (
      becomes_heap old new (r.before ++ movable (replicate count 0) 0 owner slot ∷ r.after) replaces.head c,
      λ there apart b. keeps_replaced old new r.before (free size ∷ []) (movable (replicate count 0) 0 owner slot ∷ []) r.after at accepted r.chunks c replaces there (other_apart at size there apart) b,
      replaced_plain old new r.before (free size ∷ []) (movable (replicate count 0) 0 owner slot ∷ []) r.after at r.chunks c replaces (lives_plain new at (movable (replicate count 0) 0 owner slot ∷ []) refl),
    )

-- ---- a fixed chunk is claimed

pub header_fixed : (count owner : ℕ) (c : Chunk) → headers.Fixed count owner ≡ header_of c
    → (bytes : List ℕ) × ((c ≡ fixed bytes owner) × (length bytes ≡ count))
header_fixed count owner (free n) e = absurd cc
header_fixed count owner (movable bytes l v s) e = absurd cc
header_fixed count owner (fixed bytes v) e =
    let n : count ≡ length bytes = cc in (bytes, (cc, sym n))

overwritten_whole : (old part : List ℕ) → length part ≡ length old → overwritten old 0 part ≡ part
unfolding overwritten
overwritten_whole old part len = let all : length old ≤ 0 + length part = omega arith in rw (drop_all (0 + length part) old all) (append-nil part)

pub wrote_words : (old new : List ℕ) (at count lock owner way : ℕ) → at + need count ≤ length old
    → new ≡ overwritten old at (live_words count lock owner way) → WroteWithin old new at (at + 8)
wrote_words old new at count lock owner way inside is =
    let eight = live_words_length count lock owner way in
    subst (λ n. WroteWithin old new at (at + n)) eight (wrote_part old new at _ is (omega arith))

pub fixed_claimed : {old mid new : List ℕ} {at : ℕ} (count owner : ℕ) → HeapAccepted old → (r : IsFreeChunk old at (need count)) → 0 < owner → owner < 15 → mid ≡ overwritten old at (header_words at (headers.Fixed count owner)) → HasHeader mid at (headers.Fixed count owner)
    → new ≡ overwritten mid (at + 8) (replicate count 0) → Becomes old new (r.before ++ fixed (replicate count 0) owner ∷ r.after) × KeepsFree (ButAt at) old new × WritesPlain old new
fixed_claimed {old} {mid} {new} {at} count owner h r some most mid_is header new_is =
    let heap = heap_in_parts old (r.before ++ free (need count) ∷ r.after) h r.chunks in
    let facts = cut_facts h r in let inside = facts.0 in
    let zeros : length (replicate {A = ℕ} count 0) ≡ count = length-replicate count 0 in
    let m = header_fixed count owner header.chunk header.header_is in
    let s = subst (λ c. Spelled mid at c) m.1.0 header.spelled in
    let len : length m.0 ≡ count = m.1.1 in let front : at + 8 ≡ at + 8 + 0 = omega arith in
    let b = overwritten_body mid new at 0 m.0 (replicate count 0) _ owner 0 (plain-callers fixed_lock owner some) s (omega arith) (new_is ∙ ap (λ n. overwritten mid n (replicate count 0)) front) in
    let spelled = rw (overwritten_whole m.0 (replicate count 0) (zeros ∙ sym len)) at b.0 in
    let first = wrote_wider old mid at (at + 8) at (at + need count)
    (wrote_words old mid at count fixed_lock owner 0 inside mid_is) (omega arith) (omega arith) in
    let both = wrote_then old mid new at (at + need count) first (rw len at b.1) in
    let size : need count + 0 ≡ need count = omega arith in
    let area = subst (λ n. WroteArea old new at (at + n)) (sym size) record { mid = new; slot = at; area = both; word = wrote_none new at (at + 4); is_slot = inl refl; there = omega arith; fits = omega arith } in
    let replaces = area_replaces old new r.before (free (need count) ∷ []) (fixed (replicate count 0) owner ∷ []) r.after at heap.tiles tt r.there (omega arith) area (spelled, omega arith) in
    let c =
    claimed_fixed old new r.before r.after at (need count) (replicate count 0) owner heap replaces
    (wrote_slots old new r.before (free (need count) ∷ []) r.after at heap.tiles tt r.there (rw (← size) at both)) some most in (
      becomes_heap old new (r.before ++ fixed (replicate count 0) owner ∷ r.after) replaces.head c,
      λ there apart b. keeps_replaced old new r.before (free (need count) ∷ []) (fixed (replicate count 0) owner ∷ []) r.after at h r.chunks c replaces there (other_apart at (need count) there apart) b,
      replaced_plain old new r.before (free (need count) ∷ []) (fixed (replicate count 0) owner ∷ []) r.after at r.chunks c replaces (lives_plain new at (fixed (replicate count 0) owner ∷ []) refl),
    )
