-- After the slide and the write of the free header, chunks are lifted and none is mended yet.
use Rattle.heap_compact.proofs.Words.{◌≡◌, ℕ, ◌+◌, ◌-◌, ◌%◌, ◌^◌, ◌≤◌, List, [], ◌∷◌, ◌++◌, length, take, drop, refl, ap, ◌∙◌, append_assoc, arith, inl, length-take, length-drop, u32_at, u32_bytes, overwritten, free, total, IsFree, SpelledAll, area_start, IsHeap, HeapAccepted, HasHeader, all_carried, Lift, Lifting, HasFreeBehind, SameBetween-within, u32_at-written, total-append, SpelledAll-split, loose_hold_none, both_hold_none, head_tables, head_slots, same_directory, replaced_tiles, wrote_part, wrote_word, wrote_wider, wrote_then, WroteArea, area_replaces, wrote_slot, Carries, Carries-then, slid_up, heap_in_parts, Middle, middle_of, has_free}
use Rattle.chunk_format.specs.declared.header.Header.TheVariants as headers
use Rattle.heap_compact.proofs.CarriedLaws.{SpelledAll-carried}

-- where the chunks that are lifted lie, and the free one after them
pub record Liftable {old : List ℕ} {start end gap : ℕ} (b : HasFreeBehind old start end gap) : Type 0 where
  pub heap : IsHeap old (b.before ++ (b.mid ++ free gap ∷ b.after))
  pub heap_in_two : IsHeap old (b.before ++ ((b.mid ++ free gap ∷ []) ++ b.after))
  pub middle : Middle old b.before (b.mid ++ free gap ∷ []) b.after start
  pub sizes : total (b.mid ++ free gap ∷ []) ≡ total b.mid + gap
  pub starts : area_start old ≤ start
  pub chunks : SpelledAll old start b.mid (start + total b.mid)
  pub is_free : IsFree old (start + total b.mid) gap

module _ {old : List ℕ} {start end gap : ℕ} (h : HeapAccepted old) (b : HasFreeBehind old start end gap) where
  pub liftable : Liftable b
  liftable =
      let heap = heap_in_parts _ _ h b.chunks in
      let two : IsHeap old (b.before ++ ((b.mid ++ free gap ∷ []) ++ b.after)) = rw (← (append_assoc b.mid (free gap ∷ []) b.after)) at heap in
      let m = middle_of _ b.before (b.mid ++ free gap ∷ []) b.after _ two b.from in
      let both = total-append b.mid (free gap ∷ []) in
      let parts = SpelledAll-split old _ _ _ _ m.spelled in let there = b.from in
      record { heap = heap; heap_in_two = two; middle = m; sizes = omega arith; starts = omega arith; chunks = parts.0; is_free = parts.1.0 }

  -- what is lifted
  abbrev pub lift_of : Lift gap
  lift_of = record { old = old; before = b.before; after = b.after }

  abbrev end_then : ℕ
  end_then = start + total (b.mid ++ free gap ∷ [])

  pub carried_up : {slid new : List ℕ} → slid ≡ overwritten old (start + gap) (take (start + (end - start) - start) (drop start old)) → new ≡ overwritten slid start (u32_bytes (2 ^ 31 + gap)) → HasHeader new start (headers.Free gap)
      → Lifting lift_of new [] b.mid (start + gap)
  carried_up {slid} {new} slid_is new_is header =
      let f = liftable in let n : ℕ = end - start in
      let part : List ℕ = take (start + n - start) (drop start old) in
      let inside : end_then ≤ length old = f.middle.inside in
      let least : 8 ≤ gap = f.is_free.header_fits in
      let count : n ≡ total b.mid = omega (arith, b.to) in
      let last : start + n ≡ start + total b.mid = omega (arith, b.to) in
      let many : length part ≡ n = simp (length-take, length-drop) (omega (arith, inside, f.sizes, count)) in
      let copied = wrote_part old _ (start + gap) part slid_is (omega (arith, many, inside, f.sizes, count)) in
      let word = wrote_word slid _ start (2 ^ 31 + gap) new_is (omega (arith, inside, f.sizes, copied.len, least)) in
      let up : Carries gap start (start + n) old slid = rw (← slid_is) at (slid_up old start gap n (omega (arith, inside, f.sizes, count))) in
      let kept = SameBetween-within _ _ (start + gap) (start + n + gap) _ _ word.above
      (omega (arith, least)) (omega (arith, inside, f.sizes, copied.len, count)) in
      let carry : Carries gap start (start + total b.mid) old new = rw last at (Carries-then _ _ _ _ _ _ up kept) in
      let spelled = SpelledAll-carried _ b.mid carry (omega (arith, inside, f.sizes, copied.len, word.len)) f.chunks in
      let e : start + total b.mid + gap ≡ end_then = omega (arith, f.sizes) in
      let all : SpelledAll new start (free gap ∷ all_carried gap b.mid) end_then = (has_free _ _ _ header, rw e at spelled) in
      let w : WroteArea old new start end_then = record {
        mid = slid;
        slot = start;
        area = wrote_wider _ _ _ _ start end_then copied (omega arith) (omega (arith, many, f.sizes, count));
        word = word;
        is_slot = inl refl;
        there = f.starts;
        fits = omega (arith, f.sizes, least);
      } in
      let none = both_hold_none b.mid (free gap ∷ []) (loose_hold_none b.mid b.loose) tt in
      let r = area_replaces _ _ b.before (b.mid ++ free gap ∷ [])
      (free gap ∷ all_carried gap b.mid) b.after _ f.heap_in_two.tiles none b.from inside w all in
      let whole = wrote_then _ _ new _ _ w.area (wrote_wider _ _ _ _ start end_then word (omega arith) (omega (arith, f.sizes, least))) in
      record {
        heap = f.heap;
        there = omega (arith, b.from);
        tiles = replaced_tiles _ _ _ _ _ _ _ f.heap_in_two.tiles r;
        len = r.head.len;
        tables = head_tables _ _ r.head;
        slots = head_slots _ _ r.head;
        directory = same_directory _ _ r.head;
        lifted = λ slot s low high. absurd (omega (arith, low, high, b.from));
        kept = λ slot s out. wrote_slot _ _ b.before (b.mid ++ free gap ∷ []) b.after _ _ f.heap_in_two.tiles none b.from whole s;
        plain = rw b.from at (ap (λ (image : List ℕ). u32_at image start) new_is ∙ u32_at-written (2 ^ 31 + gap) start slid (omega (arith, inside, f.sizes, copied.len, least)) (omega (arith, inside, f.sizes, f.middle.most)));
        front = r.front.words;
        back = rw (let same : end_then ≡ start + gap + total b.mid = omega (arith, f.sizes) in same) at r.back.words;
      }

-- the numbers of it
pub record LiftBounds (old : List ℕ) (start end gap : ℕ) : Type 0 where
  pub up : start ≤ end
  pub inside : end + gap ≤ length old
  pub most : length old ≤ 16777208
  pub least : 8 ≤ gap
  pub whole : gap % 8 ≡ 0

pub lift_bounds : {old : List ℕ} {start end gap : ℕ} → HeapAccepted old
    → HasFreeBehind old start end gap → LiftBounds old start end gap
lift_bounds h b =
    let f = liftable h b in
    record { up = omega (arith, b.to); inside = omega (arith, f.middle.inside, b.to, f.sizes); most = f.middle.most; least = f.is_free.header_fits; whole = f.is_free.whole }
