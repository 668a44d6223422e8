-- The step of the call that makes a further table.
use Rattle.mem_manager.proofs.Words.{◌≡◌, ℕ, ◌+◌, ◌≤◌, List, [], ◌∷◌, sym, ap, subst, ◌∙◌, arith, IsSome, Memory, slots_total, area_start, chunks_of, held, MovesNothing, moved_bytes, SlidesOneStretch, Does, slot_unheld, slides_alike, same_moved, used_fewer, used_more_slots, starts_gained, TableStart, IsManaged, HoldsHeap, KeepsLoan, keeps_then}
use Rattle.heap_model.specs.MoreTables.{gained, gained_slots, HasNoMore, PutsTable}
use Rattle.heap_model.specs.declared.call.MemoryCall.TheVariants.{MoreSlots}
use Rattle.heap_model.specs.declared.call.Reply.TheVariants.{Done}
use Rattle.laws_heap.proofs.AddedTables.{slots_more}
use Rattle.laws_heap.proofs.MoreTables.{gains_after, gains_free, gains_slot}
use Rattle.mem_manager.proofs.KeptLoans.{lent_there, keeps_map}
use Rattle.mem_manager.proofs.StepWords.{OnlyBytes, still_unmoved, same_lents}
use Rattle.mem_manager.proofs.SlidChunks.{BytesAndSlid, rest_then, still_then}

-- what is lent stays so where a table is put
keeps_put : (old new : Memory) {place : ℕ} → new.lents ≡ old.lents
    → PutsTable old.bytes new.bytes place → KeepsLoan old new
keeps_put old new same p = λ name count is.
    (record { lent = lent_there old new name same (p.places name) is.lent; live = is.live; is_held = p.map name ∙ is.is_held; many = is.many }, p.places name)

pub more_made : {old : Memory} (mid new : Memory) {place : ℕ} → HoldsHeap old
    → (HasNoMore old.bytes → ⊥) → SlidesOneStretch old.bytes mid.bytes → BytesAndSlid old mid
    → PutsTable mid.bytes new.bytes place → OnlyBytes mid new → Does old MoreSlots Done new
more_made {old} mid new {place} h can slides first p rest =
    let alike = slides_alike old.bytes mid.bytes h.accepted slides in
    let more = gains_free mid.bytes new.bytes place slides.becomes.frame.accepted p.gains p.map in
    let same = alike.slots in record {
      before = h.accepted;
      step = ((can, tt), ((tt, omega arith), λ name. p.map name ∙ alike.holds name));
      frame = (place, gains_after old.bytes mid.bytes new.bytes place slides.becomes.frame p.gains);
      still = still_then new.bytes alike
          (still_unmoved mid.bytes new.bytes (λ name was is. p.places name));
      loan = keeps_then old mid new (keeps_map mid h (same_lents first) alike.stays alike.holds)
          (keeps_put mid new (same_lents rest) p);
      asks = tt;
      rest = rest_then old mid new first rest;
    }

-- the slots in use stay so, where no more of them are counted than there were
pub used_gained : {start : TableStart} {freed : ℕ} {names : List ℕ} {old new : Memory} {used : ℕ} (fewer : ℕ) → IsManaged old used start freed names → HoldsHeap new → fewer ≤ used → fewer ≤ slots_total old.bytes → Does old MoreSlots Done new → IsManaged new fewer start freed names
used_gained {start} {freed} {old} {new} {used} fewer m h most few d =
    let g = d.frame.1 in
    let same : (name : ℕ) → held new.bytes name ≡ held old.bytes name = d.step.1.1 in record {
      heap = h;
      in_use = used_more_slots old.bytes new.bytes fewer (gained_slots d.frame.0)
          (slots_more old.bytes new.bytes d.frame.0 g.count g.further) few
          (λ slot is some empty. some ((slot_unheld old.bytes slot m.heap.accepted is).1 (sym (same slot) ∙ (slot_unheld new.bytes slot g.accepted (gains_slot old.bytes new.bytes d.frame.0 slot g is)).0 empty)))
          (used_fewer old.bytes used fewer most m.in_use);
      starts = starts_gained old.bytes new.bytes
          (gained d.frame.0 ∷ []) start.place start.before g.count g.further m.starts;
      free = λ some. gains_slot old.bytes new.bytes d.frame.0 freed g (m.free some);
      known = λ name is. subst IsSome (sym (same name)) (m.known name is);
    }

-- ---- what moves

-- what was slid is what has moved
pub more_once : (old mid new : Memory) {place : ℕ} → PutsTable mid.bytes new.bytes place
    → OnlyBytes mid new → mid.slid ≡ old.slid + moved_bytes old.bytes mid.bytes
    → new.slid ≡ old.slid + moved_bytes old.bytes new.bytes
more_once old mid new p rest once =
    let same : moved_bytes old.bytes new.bytes ≡ moved_bytes old.bytes mid.bytes = same_moved new.bytes mid.bytes (area_start old.bytes) (chunks_of old.bytes) (λ slot there body. p.places slot) in
    let kept : new.slid ≡ mid.slid = ap (λ (m : Memory). m.slid) rest in
    omega (arith, same, kept, once)

pub puts_move_nothing : {old new : List ℕ} {place : ℕ} → PutsTable old new place
    → MovesNothing old new
puts_move_nothing p name was is = p.places name
