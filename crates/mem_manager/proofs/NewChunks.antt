-- The steps of calls that make chunks and free them.
use Rattle.mem_manager.proofs.Words.{◌≡◌, ◌≢◌, ℕ, zero, suc, ◌+◌, ◌<◌, ◌≤◌, List, length, replicate, Option, Some, None, refl, sym, ap, subst, ◌∙◌, arith, inl, inr, ◌-◌, length-replicate, cases_eq, eq-eqb, nat_tests, ◌↔◌, ◌==◌, count_by, IfSome, IsSome, Result, Ok, Err, IfOk, IfErr, OnOk, OnErr, EmptySlot, Memory, Alters, layout_of, Becomes, owned_freed, IsSpot, Claims, freed_changes, movable, fixed, fixed_lock, need, is_owned_by, HeapAccepted, LiveChunk, chunks_of, held, updated, callers_map, gone, Short, SlidesOneStretch, Does, IsNoCaller, reply_of, LendsOf, Name, Refusal, NotAmong, UsedBefore, IsStart, used_fewer, used_apart, cond-true, cond-false, held-is, empty_unheld, ChangesName, fixed_name, fixed_has_name, fixed_place, owned-merged, owned_held, owned_place, Found, u32_at, slot_alike, each_first_slot, every_first_slot, frame_then, frame_slots, slides_alike, starts_still, TableStart, IsManaged, IsNextEmpty, IsSlotOrNone, MakesNew, HasNoRoomFor, IsCallers, IsLent, HoldsHeap, KeepsLoan, keeps_then, unheld_here, IsKnown, Remembers, Leaves, IsFound}
use Rattle.heap_model.specs.Layout.{freed as emptied}
use Rattle.heap_model.specs.Rooms.{Lowers}
use Rattle.heap_model.specs.declared.call.MemoryCall.TheVariants.{HandleNew, PtrNew, Free, FreeByOwner}
use Rattle.heap_model.specs.declared.call.Reply.TheVariants.{Refused, Done, Named, Number}
use Rattle.heap_model.specs.declared.refusal.Refusal.TheVariants.{NotEnoughSpace}
use Rattle.laws_heap.proofs.Accepted.{heap_of_read}
use Rattle.laws_heap.proofs.Spots.{claims_change, spot_unheld}
use Rattle.laws_heap.proofs.LoweredRoom.{claimed_lowers}
use Rattle.mem_manager.proofs.SlidChunks.{BytesAndSlid, rest_then, held_then, still_then, first_slid}
use Rattle.mem_manager.proofs.KeptLoans.{keeps_others, keeps_map, keeps_owned}
use Rattle.mem_manager.proofs.StepWords.{refused, OnlyBytes, still_others, with_names, not_out, managed_alike, managed_changed, not_locked, no_data, has_chunk, same_lents}
use Rattle.mem_manager.proofs.RememberedNames.{remembered_held}

-- ---- free

pub gives_back : {old new : List ℕ} {name : ℕ} {found : Found} → HeapAccepted old
    → (f : IsFound old name found) → Alters old new (found.place.0 - 8) emptied
    → ChangesName old new name None None
gives_back {old} {new} {name} {found} h f x =
    freed_changes old new name (found.place.0 - 8) f.live f.chunk h f.finds x

pub freed : {old new : Memory} {name : Name} {found : Found} → IsCallers old name.0 found
    → found.owner ≢ 15 → (0 < found.lock → found.lock < 15 → ⊥) → (IsLent old name.0 → ⊥)
    → Leaves old.bytes new.bytes (gone (held old.bytes) name.0) → KeepsLoan old new
    → OnlyBytes old new → Does old (Free name) Done new
freed o other unlocked here leaves loan rest = record {
  before = o.heap.accepted;
  step = ((has_chunk o, (no_data o other, (not_locked o unlocked, (not_out o here, tt)))), (tt, leaves.map));
  frame = leaves.frame;
  still = leaves.still;
  loan = loan;
  asks = tt;
  rest = rest;
}

-- the first so many slots are in use still, where the name's is not one of them
pub managed_freed : {start : TableStart} {was freed used fewer name : ℕ} {names left : List ℕ} {old new : Memory} → IsManaged old used start was names → HoldsHeap new → IsSlotOrNone old.bytes freed → fewer ≤ used → NotAmong old.bytes fewer name
    → ((other : ℕ) → (IsKnown left other ↔ (IsKnown names other × (other ≢ name))))
    → ChangesName old.bytes new.bytes name None None → IsManaged new fewer start freed left
managed_freed {start} {freed = freed} {used = used} {fewer = fewer} {name = name} {old = old} {new = new} m h slot most apart forgets ch = record {
  heap = h;
  in_use = used_apart old.bytes new.bytes fewer name ch.frame.slots ch.slots apart
      (used_fewer old.bytes used fewer most m.in_use);
  starts = starts_still old.bytes new.bytes start.place start.before ch.frame.tables m.starts;
  free = λ some. slot_alike old.bytes new.bytes freed ch.frame.slots (slot some);
  known = λ other is. let was = (forgets other).0 is in
      subst IsSome (sym (ch.others other was.1)) (m.known other was.0);
}

-- ---- a new handle

-- a chunk of zeros
abbrev pub zeros : ℕ → ℕ → ℕ → LiveChunk
zeros size lock owner = record { bytes = replicate size 0; lock = lock; owner = owner }

pub new_left : {old mid new : List ℕ} (size owner : ℕ) {name : ℕ} {there : Option ℕ}
    → HeapAccepted old → held mid name ≡ None → SlidesOneStretch old mid
    → ChangesName mid new name (Some (zeros size 0 owner)) there → MakesNew old new name size owner
new_left {old} {mid} {new} size owner {name} h empty slides ch =
    let alike = slides_alike old mid h slides in record {
      fresh = sym (alike.holds name) ∙ empty;
      leaves = record {
        map = held_then alike ch;
        frame = frame_then old mid new slides.becomes.frame ch.frame;
        still = still_then new alike (still_others ch (inl empty));
      };
    }

-- the step, where the owner is one for callers
pub new_step : {old new : Memory} (size owner : ℕ) (result : Result Name Refusal)
    → HeapAccepted old.bytes → (IsNoCaller owner → ⊥)
    → IfOk result (λ name. MakesNew old.bytes new.bytes name.0 size owner)
    → OnOk result (HasNoRoomFor old.bytes size → ⊥) → OnErr result (HasNoRoomFor old.bytes size)
    → IfErr result (λ refusal. refusal ≡ NotEnoughSpace) → OnErr result (new ≡ old)
    → KeepsLoan old new → BytesAndSlid old new
    → Does old (HandleNew size owner) (reply_of (λ name. Named name) result) new
new_step size owner (Ok name) h caller made had no_room refusal same loan rest = record {
  before = h;
  step = ((caller, (had, tt)), (made.fresh, made.leaves.map));
  frame = made.leaves.frame;
  still = made.leaves.still;
  loan = loan;
  asks = tt;
  rest = rest;
}
new_step {old = old} size owner (Err brought) h caller made had no_room refusal same loan rest =
    subst (λ (m : Memory). Does old (HandleNew size owner) (Refused brought) m) (sym same)
    (refused h (inr (caller, inl (no_room, refusal))))

-- what changes is its name, which stood for nothing
pub new_changes : {old : List ℕ} (new : List ℕ) {at room : ℕ} (size owner slot : ℕ)
    → HeapAccepted old → IsSpot old at room → need size ≤ room → held old slot ≡ None
    → Claims old new at room (movable (replicate size 0) 0 owner slot)
    → ChangesName old new slot (Some (zeros size 0 owner)) (Some (at + 8))
new_changes {old} new {at} {room} size owner slot h r fits none x =
    let takes : need (length (replicate {A = ℕ} size 0)) ≡ need size =
    ap need (length-replicate size 0) in
    claims_change old new at room slot (zeros size 0 owner)
    (movable (replicate size 0) 0 owner slot) h (omega arith) r none x (omega arith) (refl, refl)

-- ---- the slot of a new handle

pub slot_unheld : {image : List ℕ} {slot before : ℕ} → HeapAccepted image
    → IsNextEmpty image slot before → held image slot ≡ None
slot_unheld {image} {slot} h first =
    let heap = heap_of_read image h.0 h.1 in
    held-is image (chunks_of image) slot heap
    ∙ empty_unheld image (chunks_of image) slot heap first.is_slot first.empty

-- it is none of those before it
not_among-next : {image : List ℕ} {slot before : ℕ} → IsNextEmpty image slot before
    → NotAmong image before slot
not_among-next {image} {slot} {before} next = every_first_slot (λ other. other ≢ slot) image before (λ other j s below same. each_first_slot (λ t. u32_at image t ≢ 0) image other j before s below next.used (ap (u32_at image) same ∙ next.empty))

-- the slots before it stay in use
pub used_made : {old new : List ℕ} {slot before : ℕ} {now : Option LiveChunk} {there : Option ℕ} → IsNextEmpty old slot before → ChangesName old new slot now there → UsedBefore new before
used_made {old} {new} {slot} {before} next ch = used_apart old new before slot (frame_slots old new ch.frame) ch.slots (not_among-next next) next.used

-- and what is remembered stands for a chunk still
some_made : (old : List ℕ) (made : LiveChunk) (name other : ℕ) → IsSome (held old other)
    → IsSome (updated (held old) name (Some made) other)
some_made old made name other some = elim (cases_eq other name) [
  | inl same ↦ subst IsSome (sym (cond-true (other == name) _ _ (eq-eqb other name same))) refl
  | inr apart ↦ subst IsSome (sym (cond-false (other == name) _ _ (grind (arith, nat_tests)))) some
]

pub managed_made : {start table : TableStart} {used freed before name size owner : ℕ} {names : List ℕ} {old new : Memory} → IsManaged old used start freed names → HoldsHeap new → UsedBefore new.bytes before → IsStart new.bytes table → MakesNew old.bytes new.bytes name size owner → IsManaged new before table freed names
managed_made {freed = freed} {name = name} {old = old} {new = new} m h in_use starts made = record {
  heap = h;
  in_use = in_use;
  starts = starts;
  free = λ some. slot_alike old.bytes new.bytes freed made.leaves.frame.slots (m.free some);
  known = λ other is. subst IsSome (sym (made.leaves.map other))
      (some_made old.bytes _ name other (m.known other is));
}

-- the table of the slot is where it was
pub start_made : {old new : List ℕ} (table : TableStart) {name size owner : ℕ} → IsStart old table
    → MakesNew old new name size owner → IsStart new table
start_made {old} {new} table starts made =
    starts_still old new table.place table.before made.leaves.frame.tables starts

-- ---- a new fixed chunk

pub ptr_made : {old : Memory} (mid new : Memory) (size owner : ℕ) {name : Name} {there : Option ℕ}
    → HoldsHeap old → (IsNoCaller owner → ⊥) → (Short old.bytes (need size) → ⊥)
    → held mid.bytes name.0 ≡ None → SlidesOneStretch old.bytes mid.bytes → BytesAndSlid old mid
    → ChangesName mid.bytes new.bytes name.0 (Some (zeros size fixed_lock owner)) there
    → OnlyBytes mid new → Does old (PtrNew size owner) (Named name) new
ptr_made {old} mid new size owner {name} h caller room empty slides first ch rest =
    let alike = slides_alike old.bytes mid.bytes h.accepted slides in record {
      before = h.accepted;
      step = ((caller, (room, tt)), (sym (alike.holds name.0) ∙ empty, held_then alike ch));
      frame = frame_then old.bytes mid.bytes new.bytes slides.becomes.frame ch.frame;
      still = still_then new.bytes alike (still_others ch (inl empty));
      loan = keeps_then old mid new (keeps_map mid h (same_lents first) alike.stays alike.holds)
          (keeps_others mid new (same_lents rest) ch (unheld_here mid name.0 empty));
      asks = tt;
      rest = rest_then old mid new first rest;
    }

-- its owner is a caller's
some_owner : (owner : ℕ) → (IsNoCaller owner → ⊥) → 0 < owner
some_owner zero caller = absurd (caller (inl refl))
some_owner (suc owner) caller = omega arith

pub ptr_changes : {old : List ℕ} (new : List ℕ) {at room : ℕ} (size owner : ℕ) → HeapAccepted old
    → (IsNoCaller owner → ⊥) → IsSpot old at room → need size ≤ room
    → Claims old new at room (fixed (replicate size 0) owner)
    → ChangesName old new (fixed_name at) (Some (zeros size fixed_lock owner)) (Some (at + 8))
ptr_changes {old} new {at} {room} size owner h caller r fits x =
    let takes : need (length (replicate {A = ℕ} size 0)) ≡ need size =
    ap need (length-replicate size 0) in
    claims_change old new at room (fixed_name at) (zeros size fixed_lock owner) (fixed (replicate size 0) owner) h (omega arith) r (spot_unheld old at room h (omega arith) r) x (omega arith) (fixed_has_name at (replicate size 0) owner (some_owner owner caller))

-- ---- all chunks of an owner

pub owner_freed : {old : Memory} (new : Memory) (owner : ℕ) {count : ℕ} → HoldsHeap old → (IsNoCaller owner → ⊥) → (LendsOf old (callers_map old.bytes) owner → ⊥) → Becomes old.bytes new.bytes (owned_freed owner (layout_of old.bytes)) → count ≡ count_by (is_owned_by owner) (layout_of old.bytes) → OnlyBytes old new → Does old (FreeByOwner owner) (Number count) new
owner_freed {old} new owner h caller here b counted rest = record {
  before = h.accepted;
  step = ((caller, (here, tt)), (counted ∙ owned-merged owner (chunks_of old.bytes), λ name. owned_held old.bytes new.bytes owner name h.accepted b));
  frame = b.frame;
  still = λ name live held_there locked is_there. owned_place old.bytes new.bytes owner name
      h.accepted b is_there;
  loan = keeps_owned old new owner h.accepted h.lent caller (same_lents rest) here b;
  asks = tt;
  rest = rest;
}

-- nothing is known then
pub managed_anew : {new : Memory} {names : List ℕ} {start : TableStart} → HoldsHeap new
    → IsStart new.bytes start → ((name : ℕ) → IsKnown names name → ⊥)
    → IsManaged new 0 start 0 names
managed_anew h starts none = record { heap = h; in_use = tt; starts = starts; free = λ some. absurd (omega (arith, some)); known = λ name is. absurd (none name is) }

-- ---- where chunks of one stretch have slid before

pub new_claimed : {old mid : List ℕ} (new : List ℕ) {at room : ℕ} (size owner : ℕ) {slot before : ℕ}
    → HeapAccepted old → SlidesOneStretch old mid → IsNextEmpty old slot before → IsSpot mid at room
    → need size ≤ room → Claims mid new at room (movable (replicate size 0) 0 owner slot)
    → ChangesName mid new slot (Some (zeros size 0 owner)) (Some (at + 8))
new_claimed new size owner {slot} h s first r fits x =
    new_changes new size owner slot s.becomes.frame.accepted r fits
    (slot_unheld s.becomes.frame.accepted (first_slid h s first)) x

pub new_unheld : {old mid : List ℕ} {slot before : ℕ} → HeapAccepted old → SlidesOneStretch old mid
    → IsNextEmpty old slot before → held mid slot ≡ None
new_unheld h s first = slot_unheld s.becomes.frame.accepted (first_slid h s first)

-- one room is lower by what the chunk takes
pub new_lowers : {old mid : List ℕ} (new : List ℕ) {at room : ℕ} (size owner : ℕ) {slot before : ℕ}
    → HeapAccepted old → SlidesOneStretch old mid → IsNextEmpty old slot before → IsSpot mid at room
    → need size ≤ room → Claims mid new at room (movable (replicate size 0) 0 owner slot)
    → Lowers old new (need size)
new_lowers {old} {mid} new {at} {room} size owner {slot} h s first r fits x =
    let takes : need (length (replicate {A = ℕ} size 0)) ≡ need size =
    ap need (length-replicate size 0) in
    subst (λ (taken : ℕ). Lowers old new taken) takes (claimed_lowers old mid new at room (replicate size 0) owner slot h s (slot_unheld h first) r (omega arith) x)

-- the slot that was found
pub as_next : (image : List ℕ) {found : Option EmptySlot} (slot : EmptySlot) → found ≡ Some slot
    → IfSome found (λ slot. IsNextEmpty image slot.name.0 slot.before)
    → IsNextEmpty image slot.name.0 slot.before
as_next image slot is next = rw is at next

pub as_start : (image : List ℕ) {found : Option EmptySlot} (slot : EmptySlot) → found ≡ Some slot
    → IfSome found (λ slot. IsStart image slot.table) → IsStart image slot.table
as_start image slot is starts = rw is at starts

pub ptr_unheld : {old mid : List ℕ} {at room : ℕ} (size : ℕ) → SlidesOneStretch old mid
    → IsSpot mid at room → need size ≤ room → held mid (fixed_name at) ≡ None
ptr_unheld {mid} {at} {room} size s r fits =
    spot_unheld mid at room s.becomes.frame.accepted (omega arith) r

pub ptr_claimed : {old mid : List ℕ} (new : List ℕ) {at room : ℕ} (size owner : ℕ) {name : ℕ}
    → name ≡ at + 8 → (IsNoCaller owner → ⊥) → SlidesOneStretch old mid → IsSpot mid at room
    → need size ≤ room → Claims mid new at room (fixed (replicate size 0) owner)
    → ChangesName mid new name (Some (zeros size fixed_lock owner)) (Some (at + 8))
ptr_claimed {mid} new {at} size owner is caller s r fits x =
    subst (λ (n : ℕ). ChangesName mid new n (Some (zeros size fixed_lock owner)) (Some (at + 8)))
    (fixed_place at ∙ sym is) (ptr_changes new size owner s.becomes.frame.accepted caller r fits x)

-- the same slots are in use
pub managed_ptr : {start : TableStart} {used freed at room owner name : ℕ} {names more : List ℕ} {old mid new : Memory} (size : ℕ) → IsManaged old used start freed names → HoldsHeap mid → HoldsHeap new → name ≡ at + 8 → Remembers names more name
    → (IsNoCaller owner → ⊥) → SlidesOneStretch old.bytes mid.bytes → IsSpot mid.bytes at room
    → need size ≤ room → Claims mid.bytes new.bytes at room (fixed (replicate size 0) owner)
    → IsManaged new used start freed more
managed_ptr {at = at} {owner = owner} {old = old} {mid = mid} {new = new} size m k h is remembers caller s r fits x =
    let ch = ptr_changes new.bytes size owner s.becomes.frame.accepted caller r fits x in
    let now = managed_changed (managed_alike m k s.becomes.frame (slides_alike old.bytes mid.bytes m.heap.accepted s).holds) h ch in
    let here =
    subst IsSome (sym (ap (held new.bytes) (is ∙ sym (fixed_place at)) ∙ ch.here)) refl in
    with_names now (remembered_held new.bytes now.known remembers here)
