-- Lifting chunks touches no lent part, and each lent part stays a body.
use Rattle.heap_compact.proofs.Words.{◌≡◌, ℕ, ◌+◌, ◌-◌, ◌≤◌, ◌<◌, List, [], ◌∷◌, ◌++◌, length, sym, ap, subst, ◌∙◌, append_assoc, arith, Memory, Lent, Misses, IsWithin, Chunk, free, total, IsSlot, TablesLie, HasTable, tables_of, slots_of, slot_size, EveryOne, chunks_of, NoneStays, HoldsHeap, Lifting, HasFreeBehind, Lifts, AreCarried, MendedUpTo, Walks, total-append, none_stays-append, each_slot, tables_lie, same_slots, ends_listed, part_within, part_misses, run_within, loose_lends}
use Rattle.heap_compact.proofs.ExactLaws.{exactly_becomes}
use Rattle.heap_compact.proofs.LiftedWalkLaws.{some_size}

-- ---- the chunks that are lifted, and the free one after them

in_parts : {image : List ℕ} {start end gap : ℕ} (b : HasFreeBehind image start end gap)
    → chunks_of image ≡ b.before ++ ((b.mid ++ free gap ∷ []) ++ b.after)
in_parts {gap} b = b.chunks ∙ ap (λ cs. b.before ++ cs) (sym (append_assoc b.mid (free gap ∷ []) b.after))

none_stay : {image : List ℕ} {start end gap : ℕ} (b : HasFreeBehind image start end gap)
    → NoneStays (b.mid ++ free gap ∷ [])
none_stay {gap} b = (none_stays-append b.mid (free gap ∷ [])).1 (b.loose, tt)

pub lifted_within : {m : Memory} {start end gap : ℕ} → HoldsHeap m
    → HasFreeBehind m.bytes start end gap → IsWithin m start (end - start + gap)
lifted_within {m} {start} {end} {gap} h b =
    let sizes = total-append b.mid (free gap ∷ []) in
    part_within _ _ _ start (end - start + gap)
    (run_within m _ _ b.after _ h.accepted h.lent (in_parts b) b.from (none_stay b)) (omega arith) (omega (arith, b.to, sizes))

pub lifted_holds : {old new : Memory} {start end gap : ℕ} → HoldsHeap old → new.lents ≡ old.lents → HasFreeBehind old.bytes start end gap → Lifts old.bytes new.bytes start end gap → HoldsHeap new
lifted_holds {old} {new} {gap} h same b lifts =
    let sizes = total-append b.mid (free gap ∷ []) in let x = lifts b in record {
      accepted = x.frame.accepted;
      lent = loose_lends old new b.before _ (free gap ∷ b.mid) b.after h.lent same (in_parts b)
          (exactly_becomes x) (omega (arith, sizes)) (none_stay b);
    }

-- ---- the tables, while the chunks are mended

-- in a memory as long with the same tables
pub table_still : {old : Memory} (new : Memory) → HasTable old → new.lents ≡ old.lents
    → length new.bytes ≡ length old.bytes → tables_of new.bytes ≡ tables_of old.bytes → HasTable new
table_still {old} new t same len tables = record {
  lie = tables_lie _ new.bytes len tables t.lie;
  first_misses = rw (← same) at (rw (← (ends_listed old.bytes new.bytes tables)) at t.first_misses);
  slots_miss = subst (λ x. EveryOne (λ slot. Misses x slot slot_size) (slots_of new.bytes)) (sym same)
      (rw (← (same_slots old.bytes new.bytes tables)) at t.slots_miss);
}

pub walk_table : {first : Memory} (now : Memory) {gap start at end : ℕ} → Walks first.bytes now.bytes gap start at end → AreCarried first.bytes gap start end → now.lents ≡ first.lents → HasTable first → HasTable now
walk_table now w a same t =
    let s = w a.lift a.done a.rest a.lifting a.ends in
    table_still now t same (s.lifting.len ∙ sym a.lifting.len) (s.lifting.tables ∙ sym a.lifting.tables)

-- a slot, once the header of a chunk is written
pub slot_again_within : {old : Memory} (new : Memory) {slot : ℕ} → HasTable old → IsSlot old.bytes slot → new.lents ≡ old.lents → TablesLie new.bytes → IsSlot new.bytes slot → IsWithin new slot 4
slot_again_within {old} new t s same lie again = record {
  inside = each_slot (λ n. n + slot_size ≤ length new.bytes) _ lie.slots _ again;
  misses = rw (← same) at (each_slot (λ n. Misses old.lents n slot_size) _ t.slots_miss _ s);
}

-- ---- the header at which the walk has come

pub walk_misses : {first image : List ℕ} (lents : List Lent) {gap start at end : ℕ} → Walks first image gap start at end → AreCarried first gap start end → at < end → Misses lents start (end - start) → Misses lents at 8
walk_misses {image} lents {at} {end} w a more m = by_back s.back s.lifting s.ends where
  s : MendedUpTo a.lift image a.done a.rest at end
  s = w a.lift a.done a.rest a.lifting a.ends

  by_back : (back : List Chunk) → Lifting a.lift image (a.done ++ s.front) back at
      → end ≡ at + total back → Misses lents at 8
  by_back [] l e = absurd (omega (arith, e, more))
  by_back (c ∷ back) l e =
      let was = a.lifting.there in let t = total-append a.done s.front in
      part_misses _ _ _ at 8 m (omega (arith, was, l.there, t)) (omega (arith, was, l.there, t, e, some_size l))
