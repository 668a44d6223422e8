-- The step of compaction, and what there is where chunks of one stretch have slid.
use Rattle.mem_manager.proofs.Words.{◌≡◌, ℕ, ◌+◌, List, Option, Some, None, refl, sym, ap, subst, ◌∙◌, arith, ◌==◌, ◌↔◌, if◌then◌else◌, IsSome, u32_at, IsSlot, LiveChunk, updated, Memory, HeapAccepted, chunks_of, held, moved_bytes, Still, MovesNothing, MovesOneStretch, SameFrame, Becomes, packed, SlidesOneStretch, Does, slot_alike, frame_slots, ChangesName, held_updated, packed_alike, slot_unheld, slides_alike, slides_move_one, changes_move_nothing, moves_then_nothing, nothing_moves_one, unmoved_bytes, moved_with, used_still, IsNextEmpty, HoldsHeap}
use Rattle.heap_model.specs.declared.call.MemoryCall.TheVariants.{Compact}
use Rattle.heap_model.specs.declared.call.Reply.TheVariants.{Number}
use Rattle.laws_heap.specs.Laws.{SlidAlike}
use Rattle.mem_manager.proofs.KeptLoans.{keeps_map}
use Rattle.mem_manager.proofs.StepWords.{OnlyBytes, none_there, same_lents}

-- of a region's value its bytes and the count of slid ones have changed
abbrev pub BytesAndSlid : Memory → Memory → Type 0
BytesAndSlid old new = new ≡ record old { bytes = new.bytes; slid = new.slid }

pub compacted : {old : Memory} (new : Memory) {count : ℕ} → HoldsHeap old → Becomes old.bytes new.bytes (packed (chunks_of old.bytes)) → count ≡ moved_bytes old.bytes new.bytes → BytesAndSlid old new → Does old Compact (Number count) new
compacted {old} new h b moved rest =
    let alike = packed_alike old.bytes new.bytes h.accepted b in record {
      before = h.accepted;
      step = (tt, (moved, alike.holds));
      frame = b.frame;
      still = alike.stays;
      loan = keeps_map new h (same_lents rest) alike.stays alike.holds;
      asks = tt;
      rest = rest;
    }

-- ---- chunks slide, and what they stand for stays

slots_slid : {old new : List ℕ} {slot : ℕ} → HeapAccepted old → SameFrame old new
    → SlidAlike old new → IsSlot old slot → (u32_at old slot ≡ 0) ↔ (u32_at new slot ≡ 0)
slots_slid {old} {new} {slot} h frame alike s =
    let was = slot_unheld old slot h s in
    let is =
    slot_unheld new slot frame.accepted (slot_alike old new slot (frame_slots old new frame) s) in
    (λ e. is.1 (alike.holds slot ∙ was.0 e), λ e. was.1 (sym (alike.holds slot) ∙ is.0 e))

-- and the first empty one is the same
pub first_slid : {old new : List ℕ} {slot before : ℕ} → HeapAccepted old → SlidesOneStretch old new
    → IsNextEmpty old slot before → IsNextEmpty new slot before
first_slid {old} {new} {slot} {before} h s first =
    let alike = slides_alike old new h s in let frame = s.becomes.frame in record {
      is_slot = slot_alike old new slot (frame_slots old new frame) first.is_slot;
      empty = (slots_slid h frame alike first.is_slot).0 first.empty;
      used = used_still old new before (frame_slots old new frame)
          (λ other t some empty. some ((slots_slid h frame alike t).1 empty)) first.used;
    }

-- ---- chunks of one stretch slide, and then one name changes

pub rest_then : (old mid new : Memory) → BytesAndSlid old mid → OnlyBytes mid new
    → BytesAndSlid old new
rest_then old mid new first second =
    second ∙ ap (λ (m : Memory). record m { bytes = new.bytes }) first ∙ ap (λ (n : ℕ). record old { bytes = new.bytes; slid = n }) (sym (ap (λ (m : Memory). m.slid) second))

pub held_then : {old mid new : List ℕ} {name : ℕ} {now : Option LiveChunk} {there : Option ℕ}
    → SlidAlike old mid → ChangesName mid new name now there → (n : ℕ)
    → held new n ≡ updated (held old) name now n
held_then {mid} {new} {name} {now} {there} alike ch n =
    held_updated mid new name now there ch n
    ∙ ap (λ (x : Option LiveChunk). if n == name then now else x) (alike.holds n)

some_there : {x : Option LiveChunk} {live : LiveChunk} → x ≡ Some live → IsSome x
some_there e = subst (λ (y : Option LiveChunk). IsSome y) (sym e) refl

pub still_then : {old mid : List ℕ} (new : List ℕ) → SlidAlike old mid → Still mid new
    → Still old new
still_then new alike s n live e locked is =
    s n live (alike.holds n ∙ e) locked is
    ∙ alike.stays n live e locked (some_there (alike.holds n ∙ e))

-- a name that stood for nothing is made
pub made_moves_nothing : {old new : List ℕ} {name : ℕ} {now : Option LiveChunk} {there : Option ℕ}
    → held old name ≡ None → ChangesName old new name now there → MovesNothing old new
made_moves_nothing {old} {new} {name} {now} {there} none ch =
    changes_move_nothing old new name now there ch (λ was is. absurd (none_there none was))

pub one_stretch_then : {old mid : List ℕ} (new : List ℕ) → HeapAccepted old
    → SlidesOneStretch old mid → MovesNothing mid new → MovesOneStretch old new
one_stretch_then {old} {mid} new h s nothing =
    let alike = slides_alike old mid h s in
    moves_then_nothing old mid new (slides_move_one old mid s)
    (λ name was is. rw (← (alike.holds name)) at was) nothing

pub nothing_then : {old mid : Memory} (new : Memory) → mid ≡ old → MovesNothing mid.bytes new.bytes
    → MovesNothing old.bytes new.bytes
nothing_then new same moved = subst (λ (m : Memory). MovesNothing m.bytes new.bytes) same moved

-- a call that leaves the region as it is
pub itself_one : (image : List ℕ) → MovesOneStretch image image
itself_one image = nothing_moves_one image image (λ name was is. refl)

-- ---- what was slid is what has moved

pub nothing_slides : {region : Memory} → HoldsHeap region
    → region.slid ≡ region.slid + moved_bytes region.bytes region.bytes
nothing_slides {region} h =
    let moved = unmoved_bytes region.bytes h.accepted in omega (arith, moved)

-- one stretch has slid, and then a name changes that stood for nothing
pub once_then : {old : Memory} (mid new : Memory) {name : ℕ} {now : Option LiveChunk} {there : Option ℕ} → HoldsHeap old → SlidesOneStretch old.bytes mid.bytes → held mid.bytes name ≡ None → ChangesName mid.bytes new.bytes name now there → OnlyBytes mid new
    → mid.slid ≡ old.slid + moved_bytes old.bytes mid.bytes
    → new.slid ≡ old.slid + moved_bytes old.bytes new.bytes
once_then {old} mid new {name} {now} {there} h slides none ch rest once =
    let same = moved_with old.bytes mid.bytes new.bytes name now there h.accepted slides none ch in
    let kept : new.slid ≡ mid.slid = ap (λ (m : Memory). m.slid) rest in
    omega (arith, same, kept, once)
