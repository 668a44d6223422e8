-- The words of the steps: what callers may name, calls that leave the region as it is, and what
-- there is where one name is changed.
use Rattle.mem_manager.proofs.Words.{◌≡◌, ◌≢◌, ℕ, ◌+◌, ◌<◌, ◌≤◌, List, Bool, true, false, Option, Some, None, refl, sym, ap, subst, ◌∙◌, arith, inl, inr, cases_eq, ◌⊎◌, if◌then◌else◌, IsSome, Result, Ok, Err, IfOk, OnOk, IfErr, OnTrue, Memory, HeapAccepted, LiveChunk, held, callers_map, updated, changed, changed_at, Still, MovesNothing, Leaves, FirstBrings, Check, MemoryCall, Does, MemoryStep, Frames, Of, ReachesBeyond, row_of, may_slide, reply_of, IsLocked, Reply, Refusal, keeps_itself, slot_alike, callers_some, ChangesName, held_updated, changes_move_nothing, slot_unheld, slots_of, tables_of, SameFrame, HoldsHeap, IsLent, KeepsLoan, Name, used_still, name_held, one_placed, Found, IsFound, IsOne, starts_still, TableStart, IsManaged, IsCallers, KnowsHeld}
use Rattle.std.specs.Result.{IsErr, IsErrAnd}
use Rattle.heap_model.specs.declared.call.Reply.TheVariants.{Refused}
use Rattle.laws_heap.proofs.CallFrames.{frames_same}
pub use Rattle.heap_place.proofs.Words.{same_lents, same_lock, same_owner}

-- ---- what callers may name

-- what was found is the chunk of its own name
pub one_of : {image : List ℕ} {name : ℕ} {found : Found} → IsFound image name found
    → IsOne image found
one_of {image} {name} {found} f = subst (λ (n : ℕ). IsFound image n found) (sym f.name_is) f

-- a name's chunk, as the store has it
pub known : {image : List ℕ} {name : ℕ} {found : Found} → HeapAccepted image
    → (f : IsFound image name found) → 1 ≤ found.owner → callers_map image name ≡ Some f.live
known {image} {name} {found} h f positive =
    callers_some image name f.live (name_held image name found h f)
    (let e = f.owner_is in λ none. let n : f.live.owner ≡ 0 = none in omega arith)

pub of_known : {map : Option LiveChunk} {live : LiveChunk} (P : LiveChunk → Type 0)
    → map ≡ Some live → P live → Of map P
of_known P e p = subst (λ (x : Option LiveChunk). Of x P) (sym e) p

pub not_of_known : {map : Option LiveChunk} {live : LiveChunk} (P : LiveChunk → Type 0)
    → map ≡ Some live → (P live → ⊥) → Of map P → ⊥
not_of_known P e none of = none (subst (λ (x : Option LiveChunk). Of x P) e of)

pub is_known : {map : Option LiveChunk} {live : LiveChunk} → map ≡ Some live → map ≡ None → ⊥
is_known e none = let n = sym e ∙ none in absurd cc

-- ---- what checks say of a caller's chunk that was found

module _ {m : Memory} {name : Name} {found : Found} (o : IsCallers m name.0 found) where
  its : callers_map m.bytes name.0 ≡ Some o.is.live
  its = known o.heap.accepted o.is o.callers

  pub has_chunk : callers_map m.bytes name.0 ≡ None → ⊥
  has_chunk = is_known its

  pub has : (P : LiveChunk → Type 0) → P o.is.live → Of (callers_map m.bytes name.0) P
  has P p = of_known P its p

  pub has_not : (P : LiveChunk → Type 0) → (P o.is.live → ⊥) → Of (callers_map m.bytes name.0) P → ⊥
  has_not P none = not_of_known P its none

  pub has_lock : (lock : ℕ) → found.lock ≡ lock
      → Of (callers_map m.bytes name.0) (λ live. live.lock ≡ lock)
  has_lock lock is = has (λ live. live.lock ≡ lock) (sym o.is.lock_is ∙ is)

  pub no_lock : (lock : ℕ) → found.lock ≢ lock
      → Of (callers_map m.bytes name.0) (λ live. live.lock ≡ lock) → ⊥
  no_lock lock other = has_not (λ live. live.lock ≡ lock) (λ e. other (o.is.lock_is ∙ e))

  pub is_data : found.owner ≡ 15 → Of (callers_map m.bytes name.0) (λ live. live.owner ≡ 15)
  is_data is = has (λ live. live.owner ≡ 15) (sym o.is.owner_is ∙ is)

  pub no_data : found.owner ≢ 15 → Of (callers_map m.bytes name.0) (λ live. live.owner ≡ 15) → ⊥
  no_data other = has_not (λ live. live.owner ≡ 15) (λ e. other (o.is.owner_is ∙ e))

  pub is_out : IsLent m name.0 → Of (callers_map m.bytes name.0) (λ live. IsLent m name.0)
  is_out lent = has (λ live. IsLent m name.0) lent

  pub not_out : (IsLent m name.0 → ⊥) → Of (callers_map m.bytes name.0) (λ live. IsLent m name.0)
      → ⊥
  not_out here = has_not (λ live. IsLent m name.0) here

  pub is_locked : 0 < found.lock → found.lock < 15 → Of (callers_map m.bytes name.0) IsLocked
  is_locked some below = let lock = o.is.lock_is in has IsLocked (omega arith, omega arith)

  pub not_locked : (0 < found.lock → found.lock < 15 → ⊥) → Of (callers_map m.bytes name.0) IsLocked
      → ⊥
  not_locked unlocked =
      let lock = o.is.lock_is in has_not IsLocked
      (λ l. let some = l.0 in let below = l.1 in unlocked (omega arith) (omega arith))

  pub reaches : (at count : ℕ) → found.length < at + count
      → Of (callers_map m.bytes name.0) (ReachesBeyond at count)
  reaches at count beyond = let long = o.is.count in has (ReachesBeyond at count) (omega arith)

  pub stays_within : (at count : ℕ) → (found.length < at + count → ⊥)
      → Of (callers_map m.bytes name.0) (ReachesBeyond at count) → ⊥
  stays_within at count inside = let long = o.is.count in
      has_not (ReachesBeyond at count) (λ beyond. inside (omega arith))

-- the refusal that a method returns is the first of these checks
pub refuses : {A : Type 0} {brought refusal : Refusal} (checks : List Check) (result : Result A Refusal) → IsErr result × IsErrAnd result (λ answer. answer ≡ brought) → brought ≡ refusal → FirstBrings checks refusal → IfErr result (FirstBrings checks)
refuses checks (Ok a) is same why = let no = is.0 in absurd cc
refuses checks (Err e) is same why = subst (FirstBrings checks) (sym (is.1 ∙ same)) why

-- what is returned unless the manager owns it is a caller's
pub found_callers : {m : Memory} {name : ℕ} {found : Found} (result : Result Found Refusal)
    → HoldsHeap m → IsFound m.bytes name found → IfOk result (λ own. own ≡ found)
    → OnOk result (1 ≤ found.owner) → IfOk result (IsCallers m name)
found_callers {m} {name} (Ok own) h f is positive =
    subst (IsCallers m name) (sym is) (record { heap = h; is = f; callers = positive })
found_callers (Err refusal) h f is positive = tt

-- what was found in the heap's value was found in its region
pub callers_viewed : {inside value : Memory} {name : ℕ} {found : Found} → inside ≡ value
    → HoldsHeap inside → IsFound value.bytes name found → 1 ≤ found.owner
    → IsCallers inside name found
callers_viewed {name = name} {found = found} view h f positive = record {
  heap = h;
  is = rw (← view) at f;
  callers = positive;
}

-- ---- calls that leave the region as it is

-- of a region's value its bytes alone have changed
abbrev pub OnlyBytes : Memory → Memory → Type 0
OnlyBytes old new = new ≡ record old { bytes = new.bytes }

asks_same : {A : Type 0} (asks : Bool) (x : A) → OnTrue asks (x ≡ x)
asks_same true x = refl
asks_same false x = tt

nothing_slid : (slides : Bool) (region : Memory)
    → region ≡ record region { slid = if slides then region.slid else region.slid }
nothing_slid true region = refl
nothing_slid false region = refl

pub unchanged : (region : Memory) (call : MemoryCall) (reply : Reply) → HeapAccepted region.bytes
    → MemoryStep region call reply region → Does region call reply region
unchanged region call reply h step = record {
  before = h;
  step = step;
  frame = frames_same region call reply h step;
  still = λ name live held_there locked there. refl;
  loan = keeps_itself region;
  asks = asks_same (row_of region call).only_asks region;
  rest = nothing_slid (may_slide call) region;
}

pub refused : {region : Memory} {call : MemoryCall} {refusal : Refusal} → HeapAccepted region.bytes
    → FirstBrings (row_of region call).refusals refusal → Does region call (Refused refusal) region
refused {region} {call} {refusal} h brings =
    unchanged region call (Refused refusal) h
    (brings, record { map = λ name. refl; free = refl; slots = refl })

-- what a method replies that returns the refusal of a check, where its heap's value is that of its region
pub answers : {A : Type 0} {inside value : Memory} {call : MemoryCall} {brought refusal : Refusal} (f : A → Reply) (result : Result A Refusal) → inside ≡ value → IsErr result × IsErrAnd result (λ answer. answer ≡ brought) → brought ≡ refusal → HeapAccepted inside.bytes
    → FirstBrings (row_of inside call).refusals refusal → Does value call (reply_of f result) value
answers f (Ok answer) view is same h brings = let no = is.0 in absurd cc
answers {inside = inside} {call = call} f (Err answer) view is same h brings =
    rw view at (rw (← (is.1 ∙ same)) at (refused h brings))

-- the same, where the new value is that of the region
pub answers_inside : {A : Type 0} {inside value : Memory} {call : MemoryCall} {brought refusal : Refusal} (f : A → Reply) (result : Result A Refusal) → inside ≡ value → IsErr result × IsErrAnd result (λ answer. answer ≡ brought) → brought ≡ refusal → HeapAccepted inside.bytes
    → FirstBrings (row_of inside call).refusals refusal → Does value call (reply_of f result) inside
answers_inside {inside = inside} {call = call} f result view is same h brings =
    subst (λ (m : Memory). Does m call (reply_of f result) inside) view
    (answers f result refl is same h brings)

-- ---- one name is changed

pub none_there : {x : Option LiveChunk} → x ≡ None → IsSome x → ⊥
none_there e some = let no : IsSome {T = LiveChunk} None = rw e at some in absurd cc

pub still_unmoved : (old new : List ℕ) → MovesNothing old new → Still old new
still_unmoved old new nothing name live held_there locked there =
    nothing name (subst IsSome (sym held_there) refl) there

pub still_others : {old new : List ℕ} {name : ℕ} {now : Option LiveChunk} {there : Option ℕ}
    → ChangesName old new name now there → (held old name ≡ None) ⊎ (now ≡ None) → Still old new
still_others {old} {new} {name} {now} {there} ch gone_or_made =
    still_unmoved old new
    (changes_move_nothing old new name now there ch (λ was is. elim gone_or_made [
      | inl before ↦ absurd (none_there before was)
      | inr after ↦ absurd (none_there (ch.here ∙ after) is)
    ]))

-- a name's chunk that was found stays where it stands, and so does any other
pub stays_in_place : {old new : List ℕ} {name : ℕ} {found : Found} {now : Option LiveChunk}
    → HeapAccepted old → IsFound old name found → ChangesName old new name now (Some found.place.0)
    → MovesNothing old new
stays_in_place {old} {new} {name} {found} {now} h f ch =
    let place = rw f.name_is at (one_placed old found h (one_of f)) in
    changes_move_nothing old new name now (Some found.place.0) ch (λ was is. sym place)

-- a name's chunk is changed where it stands
pub record Altered (old new : Memory) (name : ℕ) (change : LiveChunk → LiveChunk) : Type 0 where
  pub leaves : Leaves old.bytes new.bytes (changed_at (held old.bytes) name change)
  pub rest : new ≡ record old { bytes = new.bytes }

pub altered : (old new : Memory) {name : ℕ} {found : Found} (change : LiveChunk → LiveChunk) → HeapAccepted old.bytes → (f : IsFound old.bytes name found) → ChangesName old.bytes new.bytes name (Some (change f.live)) (Some found.place.0) → OnlyBytes old new → Altered old new name change
altered old new {name} {found} change h f ch rest = record {
  leaves = record {
    map =
        λ n. held_updated old.bytes new.bytes name (Some (change f.live)) (Some found.place.0) ch n
        ∙ ap (λ (x : Option LiveChunk). updated (held old.bytes) name x n)
        (sym (ap (changed change) (name_held old.bytes name found h f)));
    frame = ch.frame;
    still = still_unmoved old.bytes new.bytes (stays_in_place h f ch);
  };
  rest = rest;
}

-- a call that changes it does its step
pub alters_does : {old new : Memory} {call : MemoryCall} {reply : Reply} {name : ℕ} {change : LiveChunk → LiveChunk} → HoldsHeap old → (a : Altered old new name change) → KeepsLoan old new → MemoryStep old call reply new
    → Frames call reply old.bytes new.bytes → OnTrue (row_of old call).only_asks (new ≡ old) → new ≡ record old { bytes = new.bytes; slid = if may_slide call then new.slid else old.slid } → Does old call reply new
alters_does h a loan step frame asks rest = record { before = h.accepted; step = step; frame = frame; still = a.leaves.still; loan = loan; asks = asks; rest = rest }

-- ---- what a heap has besides its region

none_back : (x y : Option LiveChunk) → (IsSome x → IsSome y) → y ≡ None → x ≡ None
none_back None y stays none = refl
none_back (Some live) y stays none = absurd (none_there none (stays refl))

-- the same slots are in use where the slots and tables are the same, and each name that has a chunk keeps one
pub managed_still : {start : TableStart} {used freed : ℕ} {names : List ℕ} {old new : Memory}
    → IsManaged old used start freed names → HoldsHeap new → slots_of new.bytes ≡ slots_of old.bytes
    → tables_of new.bytes ≡ tables_of old.bytes
    → ((name : ℕ) → IsSome (held old.bytes name) → IsSome (held new.bytes name))
    → IsManaged new used start freed names
managed_still {start} {used} {freed} {old = old} {new = new} m h slots tables stays = record {
  heap = h;
  in_use = used_still old.bytes new.bytes used slots
      (λ slot is some empty. some ((slot_unheld old.bytes slot m.heap.accepted is).1 (none_back _ _ (stays slot) ((slot_unheld new.bytes slot h.accepted (slot_alike old.bytes new.bytes slot slots is)).0 empty)))) m.in_use;
  starts = starts_still old.bytes new.bytes start.place start.before tables m.starts;
  free = λ some. slot_alike old.bytes new.bytes freed slots (m.free some);
  known = λ name is. stays name (m.known name is);
}

-- where all names stand for what they stood for
pub managed_alike : {start : TableStart} {used freed : ℕ} {names : List ℕ} {old new : Memory} → IsManaged old used start freed names → HoldsHeap new → SameFrame old.bytes new.bytes → ((name : ℕ) → held new.bytes name ≡ held old.bytes name) → IsManaged new used start freed names
managed_alike m h frame alike =
    managed_still m h frame.slots frame.tables (λ name some. subst IsSome (sym (alike name)) some)

-- where one name's chunk is another
pub managed_changed : {start : TableStart} {used freed : ℕ} {names : List ℕ} {old new : Memory} {name : ℕ} {now : LiveChunk} {there : Option ℕ} → IsManaged old used start freed names → HoldsHeap new → ChangesName old.bytes new.bytes name (Some now) there → IsManaged new used start freed names
managed_changed {old = old} {new = new} {name = name} m h ch =
    managed_still m h ch.frame.slots ch.frame.tables (λ other some. elim (cases_eq other name) [
      | inl same ↦ subst IsSome (sym (ap (held new.bytes) same ∙ ch.here)) refl
      | inr apart ↦ subst IsSome (sym (ch.others other apart)) some
    ])

-- where other names are remembered
pub with_names : {start : TableStart} {used freed : ℕ} {names more : List ℕ} {memory : Memory}
    → IsManaged memory used start freed names → KnowsHeld memory.bytes more
    → IsManaged memory used start freed more
with_names m known =
    record { heap = m.heap; in_use = m.in_use; starts = m.starts; free = m.free; known = known }
