-- A blank image is an accepted heap that holds nothing.
use Rattle.std.proofs.Common.{false, ◌≡◌, ℕ, ◌+◌, ◌-◌, ◌^◌, ◌≤◌, List, [], ◌∷◌, length, replicate, refl, sym, ap, subst, ◌∙◌, arith, inl, inr, lit<}
use Rattle.std.proofs.lemmas.List.{length-replicate}
use Rattle.std.specs.Prelude.{◌==◌}
use Rattle.heap_model.specs.Memory.{Memory}
use Rattle.heap_model.specs.Bytes.{u16_at, u32_at, u16_bytes, u32_bytes, overwritten}
use Rattle.heap_model.specs.Chunk.{free, IsFree}
use Rattle.heap_model.specs.Slots.{slot_count, is_chained, behind_table, head_end, area_start, start_behind}
use Rattle.heap_model.specs.Frame.{magic}
use Rattle.heap_model.specs.Heap.{IsHead, Tiles, IsHeap, IsBody}
use Rattle.laws_heap.proofs.Slots.{slot_facts, slot_beside, start_counted}
use Rattle.laws_heap.proofs.Tables.{no_chain, none_behind}
use Rattle.laws_heap.proofs.Plain.{plain_word}
use Rattle.laws_heap.proofs.Frames.{SameBetween, SameBetween-within, SameBetween-then, u32_at-same, u16_at-same, length-overwritten, overwritten-below, overwritten-above, u32_at-written, u16_at-written, length-u32_bytes, length-u16_bytes, u32_at-below, u32_at-zeros, u16_at-zeros, slice_index-zeros, u16_at-below}
use Rattle.laws_heap.proofs.Meanings.{held-is}
use Rattle.chunk_format.specs.Blank.{framed, IsPlanned, IsBlank}

-- zeros, and over them the frame and the first word of a chunk
unfoldable pub written : ℕ → ℕ → ℕ → ℕ → List ℕ
written size slots start word = overwritten (framed (replicate size 0) size slots) start (u32_bytes word)

pub all_writes : (zeros one two : Memory) (size slots start word : ℕ) → zeros.bytes ≡ replicate size 0 → one ≡ record zeros { bytes = framed zeros.bytes size slots }
    → two ≡ record one { bytes = overwritten one.bytes start (u32_bytes word) } → two.bytes ≡ written size slots start word
unfolding written
all_writes zeros one two size slots start word z a b =
    let bytes : Memory → List ℕ = λ memory. memory.bytes in
    let first : one.bytes ≡ framed (replicate size 0) size slots = ap bytes a ∙ ap (λ (x : List ℕ). framed x size slots) z in
    ap bytes b ∙ ap (λ (x : List ℕ). overwritten x start (u32_bytes word)) first

-- what they read as
pub record Reads (size slots start word : ℕ) (image : List ℕ) : Type 0 where
  pub len : length image ≡ size
  pub magic_is : u32_at image 0 ≡ magic
  pub size_is : u32_at image 4 ≡ size
  pub slots_are : u16_at image 8 ≡ slots
  pub front : SameBetween 10 start (replicate size 0) image
  pub chunk : u32_at image start ≡ word
  pub back : SameBetween (start + 4) size (replicate size 0) image

reads : (size slots start word : ℕ) → IsPlanned size slots start → word ≡ 2 ^ 31 + (size - start) → Reads size slots start word (written size slots start word)
unfolding written
reads size slots start word plan word_is =
    let i0 : List ℕ = replicate size 0 in
    let i1 : List ℕ = overwritten i0 0 (u32_bytes magic) in
    let i2 : List ℕ = overwritten i1 4 (u32_bytes size) in
    let i3 : List ℕ = overwritten i2 8 (u16_bytes slots) in
    let i4 : List ℕ = overwritten i3 start (u32_bytes word) in
    let start_is = plan.start_is in
    let fits : start_behind slots + 8 ≤ size = plan.room.a_chunk_fits in
    let some_slot = plan.room.some_slot in
    let most = plan.size_right.most in
    let least = plan.size_right.least in
    let b4 = length-u32_bytes size in
    let bm = length-u32_bytes magic in
    let b2 = length-u16_bytes slots in
    let bw = length-u32_bytes word in
    let l0 : length i0 ≡ size = length-replicate size 0 in
    let l1 : length i1 ≡ size = length-overwritten i0 0 (u32_bytes magic) (omega arith) ∙ l0 in
    let l2 : length i2 ≡ size = length-overwritten i1 4 (u32_bytes size) (omega arith) ∙ l1 in
    let l3 : length i3 ≡ size = length-overwritten i2 8 (u16_bytes slots) (omega arith) ∙ l2 in
    let s1 = overwritten-above i0 0 (u32_bytes magic) size (omega arith) in
    let s2 = overwritten-above i1 4 (u32_bytes size) size (omega arith) in
    let s3 = overwritten-above i2 8 (u16_bytes slots) size (omega arith) in
    let zeros : SameBetween 10 size i0 i3 =
    SameBetween-then 10 size i0 i2 i3
    (SameBetween-then 10 size i0 i1 i2
    (SameBetween-within (0 + length (u32_bytes magic)) size 10 size i0 i1 s1 (omega arith) (omega arith))
    (SameBetween-within (4 + length (u32_bytes size)) size 10 size i1 i2 s2 (omega arith) (omega arith)))
    (SameBetween-within (8 + length (u16_bytes slots)) size 10 size i2 i3 s3 (omega arith) (omega arith)) in
    record {
      len = length-overwritten i3 start (u32_bytes word) (omega arith) ∙ l3;
      magic_is = u32_at-below 0 start i3 (u32_bytes word) (omega arith) (omega arith) ∙ u32_at-below 0 8 i2 (u16_bytes slots) (omega arith) (omega arith)
          ∙ u32_at-below 0 4 i1 (u32_bytes size) (omega arith) (omega arith) ∙ u32_at-written magic 0 i0 (omega arith) (lit< tt);
      size_is = u32_at-below 4 start i3 (u32_bytes word) (omega arith) (omega arith) ∙ u32_at-below 4 8 i2 (u16_bytes slots) (omega arith) (omega arith) ∙ u32_at-written size 4 i1 (omega arith) (omega arith);
      slots_are = u16_at-below 8 start i3 (u32_bytes word) (omega arith) (omega arith) ∙ u16_at-written slots 8 i2 (omega arith) plan.slots_fit;
      front = SameBetween-then 10 start i0 i3 i4 (SameBetween-within 10 size 10 start i0 i3 zeros (omega arith) (omega arith))
          (SameBetween-within 0 start 10 start i3 i4 (overwritten-below i3 start (u32_bytes word) (omega arith)) (omega arith) (omega arith));
      chunk = u32_at-written word start i3 (omega arith) (omega arith);
      back = SameBetween-then (start + 4) size i0 i3 i4 (SameBetween-within 10 size (start + 4) size i0 i3 zeros (omega arith) (omega arith))
          (SameBetween-within (start + length (u32_bytes word)) size (start + 4) size i3 i4 (overwritten-above i3 start (u32_bytes word) size (omega arith)) (omega arith) (omega arith));
    }

no_body : (at size slot place : ℕ) → IsBody at (free size ∷ []) slot place → ⊥
no_body at size slot place b = elim b [ inl here ↦ here | inr later ↦ later ]

blank_heap : (size slots start word : ℕ) (image : List ℕ) → IsPlanned size slots start → word ≡ 2 ^ 31 + (size - start) → Reads size slots start word image → IsHeap image (free (size - start) ∷ [])
blank_heap size slots start word image plan word_is r =
    let start_is = plan.start_is in
    let fits : start_behind slots + 8 ≤ size = plan.room.a_chunk_fits in
    let some_slot = plan.room.some_slot in
    let most = plan.size_right.most in
    let size_whole = plan.size_right.whole in
    let len = r.len in
    let slots_are : slot_count image ≡ slots = r.slots_are in
    let plain : is_chained image ≡ false = ap (λ (m : ℕ). m == 0x50484932) r.magic_is in
    let none : behind_table image ≡ 0 = none_behind image plain in
    let area : area_start image ≡ start = start_counted image slots plain slots_are ∙ sym start_is in
    let zeros : List ℕ = replicate size 0 in
    let chunk = r.chunk in
    let head : IsHead image = record {
      magic_is = inl r.magic_is;
      size_is = r.size_is ∙ sym len;
      least = omega (arith, plan.size_right.least);
      most = omega arith;
      whole = rw len plan.size_right.whole;
      some_slot = omega (arith, slots_are, some_slot);
      a_chunk_fits = omega (arith, area, len, fits, start_is);
      reserved = sym (u16_at-same 10 zeros image 10 start r.front (omega arith) (omega arith)) ∙ u16_at-zeros 10 size;
      padding = λ ne. sym (u32_at-same (head_end image) zeros image 10 start r.front (omega arith) (omega (arith, none, area))) ∙ u32_at-zeros (head_end image) size;
    } in
    let spelled : IsFree image (area_start image) (size - start) = rw area record { free_bit = omega arith; size_field = omega arith; header_fits = omega arith; whole = omega arith; inside = omega arith } in
    let tiles : Tiles image (free (size - start) ∷ []) = record { head = head; area = (spelled, omega arith); chain = no_chain image (free (size - start) ∷ []) plain } in
    record {
      tiles = tiles;
      tied = λ slot place positive. (
        λ h.
            let facts = slot_facts image (free (size - start) ∷ []) slot tiles h.0 in
            let low = facts.low in
            let inside = facts.inside in
            let front : slot + 4 ≤ area_start image = elim (slot_beside image [] (free (size - start) ∷ []) [] (area_start image) slot tiles tt (omega arith) h.0) [ inl before ↦ before | inr behind ↦ absurd (omega arith) ] in
            let empty : u32_at image slot ≡ 0 = sym (u32_at-same slot zeros image 10 start r.front (omega arith) (omega arith)) ∙ u32_at-zeros slot size in
            let same = h.1 in
            absurd (omega arith),
        λ h. absurd (no_body (area_start image) (size - start) slot place h),
      );
      fixed_are_known = (tt, tt);
      directory = inl (sym (u32_at-same 12 zeros image 10 start r.front (omega arith) (omega arith)) ∙ u32_at-zeros 12 size);
    }

pub blank_written : (size slots start : ℕ) (image : List ℕ) → IsPlanned size slots start → image ≡ written size slots start (2 ^ 31 + (size - start)) → IsBlank size slots image
blank_written size slots start image plan is =
    let word : ℕ = 2 ^ 31 + (size - start) in
    let r : Reads size slots start word image = subst (λ (i : List ℕ). Reads size slots start word i) (sym is) (reads size slots start word plan refl) in
    let heap = blank_heap size slots start word image plan refl r in
    let start_is : start ≡ start_behind slots = plan.start_is in
    record {
      size_is = r.len;
      unchained = ap (λ (m : ℕ). m == 0x50484932) r.magic_is;
      slots_are = r.slots_are;
      heap = subst (λ (n : ℕ). IsHeap image (free (size - n) ∷ [])) start_is heap;
      nothing = λ name. held-is image (free (size - start) ∷ []) name heap;
      plain = plain_word (u32_at image (start_behind slots)) (size - start) (subst (λ (n : ℕ). u32_at image n ≡ word) start_is r.chunk) (let most = plan.size_right.most in omega arith);
      zeros = λ k low high. sym (r.back.same k (omega arith) high) ∙ slice_index-zeros size k;
    }
