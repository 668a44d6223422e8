-- The bytes before the chunks of a migrated image.
use Rattle.std.proofs.Common.{Bool, true, false, ◌≡◌, ℕ, ◌+◌, ◌-◌, ◌*◌, ◌/◌, ◌%◌, ◌^◌, ◌<◌, ◌≤◌, List, ◌++◌, length, slice_index, get_or, take, drop, replicate, refl, sym, ap, subst, ◌∙◌, arith, inl, inr, lit<, length-append, length-take, length-drop}
use Rattle.std.proofs.lemmas.Bool.{cases_eq}
use Rattle.std.proofs.lemmas.List.{get_or-take, get_or-drop, get_or_append_left, get_or-append_right, length-take-le}
use Rattle.std.specs.Prelude.{◌==◌, if◌then◌else◌}
use Rattle.heap_model.specs.Bytes.{u32_at, u32_bytes, overwritten}
use Rattle.heap_model.specs.Slots.{is_chained, table_end, area_start, IsSlot}
use Rattle.heap_model.specs.Heap.{HeapAccepted}
use Rattle.laws_heap.proofs.Frames.{SameBetween, u32_at-same, u32_at-written, slice_index-zeros}
use Rattle.laws_heap.proofs.Writes.{WroteWithin, wrote_part, wrote_word, wrote_word_apart}
use Rattle.laws_heap.proofs.Chunks.{SpelledAll-end}
use Rattle.laws_heap.proofs.Tables.{none_behind}
use Rattle.laws_heap.proofs.OneTable.{one_stands, one_number, one_total}
use Rattle.laws_heap.proofs.Slots.{stands_slot, slot_stands, stands_below}
use Rattle.laws_heap.proofs.Bodies.{IsBody-high}
use Rattle.heap_migration.specs.Writing.{AreSame, raised_place, HasHead, WroteFrame, RaisedUpTo, RaisedSlots}

-- ---- bytes that are the same

pub as_same : (old new : List ℕ) (start end : ℕ) → AreSame old new start end → SameBetween start end new old
as_same old new start end f = record { same = f }

pub same_word : (old new : List ℕ) (start end at : ℕ) → AreSame old new start end → start ≤ at → at + 4 ≤ end → u32_at new at ≡ u32_at old at
same_word old new start end at f low high = u32_at-same at new old start end (as_same old new start end f) low high

-- bytes that are copied from one list into another
pub copied_at : (src was : List ℕ) (from to n i : ℕ) → from + n ≤ length src → to + n ≤ length was → i < n → slice_index (overwritten was to (take (from + n - from) (drop from src))) (to + i) ≡ slice_index src (from + i)
unfolding overwritten
copied_at src was from to n i in_src in_was low =
    let part : List ℕ = take (from + n - from) (drop from src) in
    let many : length part ≡ n = simp (length-take, length-drop) (omega arith) in
    let front : length (take to was) ≡ to = length-take-le to was (omega arith) in
    let both = length-append (take to was) part in
    let within = get_or_append_left (take to was ++ part) (drop (to + length part) was) 0 (to + i) (omega (arith, both, front, many)) in
    let behind = get_or-append_right (take to was) part to (to + i) 0 front (omega arith) in
    let there : to + i - to ≡ i = omega arith in
    let taken = get_or-take (from + n - from) (drop from src) i 0 (omega arith) ∙ get_or-drop from src i 0 in
    within ∙ behind ∙ ap (λ (j : ℕ). get_or part j 0) there ∙ taken

-- ---- the frame

frame_copied : (old was : List ℕ) (k : ℕ) → 16 ≤ length old → 16 ≤ length was → k < 16 → slice_index (overwritten was 0 (take (0 + 16 - 0) (drop 0 old))) k ≡ slice_index old k
frame_copied old was k in_old in_was high =
    let there : 0 + k ≡ k = omega arith in
    sym (ap (slice_index (overwritten was 0 (take (0 + 16 - 0) (drop 0 old)))) there) ∙ copied_at old was 0 0 16 k in_old in_was high ∙ ap (slice_index old) there

pub frame_written : (old was one two new : List ℕ) → 16 ≤ length old → 16 ≤ length was → length was < 2 ^ 32 → one ≡ overwritten was 0 (take (0 + 16 - 0) (drop 0 old)) → two ≡ overwritten one 0 (u32_bytes 0x50484932) → new ≡ overwritten two 4 (u32_bytes (length two)) → WroteFrame old was new
frame_written old was one two new in_old in_was small a b c =
    let part : List ℕ = take (0 + 16 - 0) (drop 0 old) in
    let many : length part ≡ 16 = simp (length-take, length-drop) (omega arith) in
    let first : WroteWithin was one 0 (0 + length part) = wrote_part was one 0 part a (omega arith) in
    let l1 = first.len in
    let second : WroteWithin one two 0 4 = wrote_word one two 0 0x50484932 b (omega arith) in
    let l2 = second.len in
    let third : WroteWithin two new 4 8 = wrote_word two new 4 (length two) c (omega arith) in
    let l3 = third.len in
    record {
      len = l3 ∙ l2 ∙ l1;
      magic = wrote_word_apart two new 4 8 0 third (inl (omega arith)) ∙ ap (λ (xs : List ℕ). u32_at xs 0) b ∙ u32_at-written 0x50484932 0 one (omega arith) (lit< tt);
      size = ap (λ (xs : List ℕ). u32_at xs 4) c ∙ u32_at-written (length two) 4 two (omega arith) (omega arith) ∙ sym l3;
      frame = λ k low high. sym (third.above.same k (omega arith) (omega arith)) ∙ sym (second.above.same k (omega arith) (omega arith)) ∙ ap (λ (xs : List ℕ). slice_index xs k) a ∙ frame_copied old was k in_old in_was high;
      rest = λ k low high. sym (third.above.same k (omega arith) (omega arith)) ∙ sym (second.above.same k (omega arith) (omega arith)) ∙ sym (first.above.same k (omega arith) (omega arith));
    }

-- ---- the slots

-- a word of the table is a slot
slot_of_table : (image : List ℕ) (slot : ℕ) → is_chained image ≡ false → 16 ≤ slot → slot % 4 ≡ 0 → slot < table_end image → IsSlot image slot
slot_of_table image slot plain low whole high =
    let there : slot ≡ 16 + 4 * ((slot - 16) / 4) = omega arith in
    stands_slot image slot ((slot - 16) / 4) (one_stands image slot ((slot - 16) / 4) plain (omega arith) there)

-- what a slot holds lies within the image
pub slot_fits : (image : List ℕ) (slot : ℕ) → HeapAccepted image → is_chained image ≡ false → 16 ≤ slot → slot % 4 ≡ 0 → slot < table_end image → u32_at image slot < 2 ^ 24
slot_fits image slot h plain low whole high = elim (cases_eq (u32_at image slot) 0) [
  | inl empty ↦ omega arith
  | inr used ↦
      let s = slot_of_table image slot plain low whole high in
      let body = (h.1.tied slot (u32_at image slot) (omega arith)).0 (s, refl) in
      let within = IsBody-high (area_start image) h.0 slot (u32_at image slot) body in
      let end = SpelledAll-end image (area_start image) h.0 (length image) h.1.tiles.area in
      let most = h.1.tiles.head.most in
      omega arith
]

pub raised_fits : (by place : ℕ) → by ≤ 8 → place < 2 ^ 24 → raised_place by place < 2 ^ 32
raised_fits by place few small = by_test (place == 0) where
  by_test : (b : Bool) → (if b then 0 else place + by) < 2 ^ 32
  by_test true = omega arith
  by_test false = omega arith

pub raised_none : (old was : List ℕ) (by : ℕ) → RaisedUpTo old was was by 16
raised_none old was by = record {
  len = refl;
  low = omega arith;
  high = omega arith;
  whole = refl;
  front = λ k low high. refl;
  back = λ k low high. refl;
  slots = λ slot low whole high. absurd (omega arith);
}

pub raised_more : (old was now new : List ℕ) (by slot : ℕ) → RaisedUpTo old was now by slot → slot < table_end old → table_end old ≤ length was → raised_place by (u32_at old slot) < 2 ^ 32 → new ≡ overwritten now slot (u32_bytes (raised_place by (u32_at old slot)))
    → RaisedUpTo old was new by (slot + 4)
raised_more old was now new by slot r here inside fits e =
    let len = r.len in
    let low = r.low in
    let whole = r.whole in
    let w : WroteWithin now new slot (slot + 4) = wrote_word now new slot (raised_place by (u32_at old slot)) e (omega arith) in
    record {
      len = w.len ∙ r.len;
      low = omega arith;
      high = omega arith;
      whole = omega arith;
      front = λ k a b. sym (w.below.same k (omega arith) (omega arith)) ∙ r.front k a b;
      back = λ k a b. sym (w.above.same k (omega arith) (omega arith)) ∙ r.back k (omega arith) b;
      slots = λ s a b c. elim (cases_eq s slot) [
        | inl is ↦ subst (λ (n : ℕ). u32_at new n ≡ raised_place by (u32_at old n)) (sym is) (ap (λ (xs : List ℕ). u32_at xs slot) e ∙ u32_at-written (raised_place by (u32_at old slot)) slot now (omega arith) fits)
        | inr other ↦ wrote_word_apart now new slot (slot + 4) s w (inl (omega arith)) ∙ r.slots s a b (omega arith)
      ];
    }

-- ---- both

pub head_written : (old was mid new : List ℕ) (by : ℕ) → HeapAccepted old → is_chained old ≡ false → was ≡ replicate (length old + by) 0 → length was ≡ length old + by → WroteFrame old was mid → RaisedSlots old mid new by → HasHead old new by
head_written old was mid new by h plain zeros many f r =
    let l1 = f.len in
    let l2 = r.len in
    let fits = h.1.tiles.head.a_chunk_fits in
    let none = none_behind old plain in
    record {
      len = r.len ∙ f.len ∙ many;
      magic = same_word mid new 0 16 0 r.front (omega arith) (omega arith) ∙ f.magic;
      size = same_word mid new 0 16 4 r.front (omega arith) (omega arith) ∙ f.size ∙ sym l2;
      frame = λ k a b. r.front k (omega arith) (omega arith) ∙ f.frame k a b;
      slots = λ slot s.
          let k = slot_stands old slot s in
          let there = one_number old slot k.0 plain k.1 in
          let below = stands_below old slot k.0 k.1 in
          let total = one_total old plain in
          r.slots slot (omega arith) (omega arith) (omega arith);
      zeros = λ k a b. r.back k (omega arith) (omega arith) ∙ f.rest k (omega arith) (omega arith) ∙ ap (λ (xs : List ℕ). slice_index xs k) zeros ∙ slice_index-zeros (length old + by) k;
    }
