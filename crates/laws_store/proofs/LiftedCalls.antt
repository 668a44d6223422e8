-- The memory manager's calls are steps of a store: what they do to all that is held, they do to
-- what callers may name.
use Rattle.laws_store.proofs.Words.{◌≡◌, ◌≢◌, ℕ, Bool, true, false, Option, Some, None, replicate, refl, sym, ap, ◌∙◌, inl, ne_eqb, ◌==◌, if◌then◌else◌, Memory, overwritten, sized_to, fixed_lock, LiveChunk, ChunkMap, held, updated, changed, made, not_owned, without_owner, callers_map, NoneHolds, Row, StepBy, becomes_named, MemoryCall, text_of, AsBefore, row_of, Does, Reply, Store, owner_of, databases, Accepted, store_of, lifted, DoesInStore, frames_head, frames_tables, cond-false}
use Rattle.std.specs.Prelude.{◌+◌, ◌-◌}
use Rattle.heap_model.specs.declared.call.MemoryCall.TheVariants.{HandleNew, PtrNew, Free, Lock, Unlock, Size, Owner, Locks, Read, Write, Set, StrCopy, Resize, SetOwner, Recover, FreeByOwner, FreeBytes, LargestStretch, Compact, MoreSlots}
use Rattle.heap_model.specs.declared.call.Call.TheVariants as calls
use Rattle.heap_model.specs.declared.call.Reply.TheVariants.{Refused, Done, Number, Named, Locked, Data, Database, Info, Made, Record, Resource}
use Rattle.heap_model.specs.StoreSteps as store
use Rattle.laws_store.proofs.Counts.{has_databases, databases_are, accepted_with}
use Rattle.laws_store.proofs.MemoryCalls.{known_owner, callers_owner, does_keeps}

-- ---- what callers may name, where one name is changed

abbrev none : Option LiveChunk
none = None

-- a chunk whose owner is not the manager is shown
shown : (live : LiveChunk) → live.owner ≢ 0 → not_owned 0 (Some live) ≡ Some live
shown live own = cond-false (live.owner == 0) none (Some live) (ne_eqb live.owner 0 own)

either : (b : Bool) (now callers there : Option LiveChunk) → not_owned 0 now ≡ callers
    → not_owned 0 (if b then now else there) ≡ (if b then callers else not_owned 0 there)
either true now callers there e = e
either false now callers there e = refl

pub update_lifts : (old new : ChunkMap) (name : ℕ) (now callers : Option LiveChunk)
    → not_owned 0 now ≡ callers → ((q : ℕ) → new q ≡ updated old name now q) → (q : ℕ)
    → without_owner new 0 q ≡ updated (without_owner old 0) name callers q
update_lifts old new name now callers e effect q =
    ap (not_owned 0) (effect q) ∙ either (q == name) now callers (old q) e

-- ---- the forms of effect

pub stay_lifts : (old new : ChunkMap) → ((q : ℕ) → new q ≡ old q) → (q : ℕ)
    → without_owner new 0 q ≡ without_owner old 0 q
stay_lifts old new same q = ap (not_owned 0) (same q)

-- a change that keeps the owner, of what callers may name and of what they may not
change_shown : (change : LiveChunk → LiveChunk)
    → ((live : LiveChunk) → (change live).owner ≡ live.owner) → (o : Option LiveChunk)
    → not_owned 0 (changed change o) ≡ changed change (not_owned 0 o)
change_shown change same None = refl
change_shown change same (Some live) =
    ap (λ owner. if owner == 0 then none else Some (change live)) (same live)
    ∙ inside (live.owner == 0) where
      inside : (b : Bool) → (if b then none else Some (change live))
          ≡ changed change (if b then none else Some live)
      inside true = refl
      inside false = refl

pub change_lifts : (old new : ChunkMap) (name : ℕ) (change : LiveChunk → LiveChunk)
    → ((live : LiveChunk) → (change live).owner ≡ live.owner)
    → ((q : ℕ) → new q ≡ updated old name (changed change (old name)) q) → (q : ℕ) → without_owner
    new 0 q ≡ updated (without_owner old 0) name (changed change (without_owner old 0 name)) q
change_lifts old new name change same = update_lifts old new name (changed change (old name))
    (changed change (not_owned 0 (old name))) (change_shown change same (old name))

-- a change of the owner to another caller
owner_shown : (change : LiveChunk → LiveChunk) → ((live : LiveChunk) → (change live).owner ≢ 0)
    → (o : Option LiveChunk) → owner_of o ≢ 0
    → not_owned 0 (changed change o) ≡ changed change (not_owned 0 o)
owner_shown change given None own = refl
owner_shown change given (Some live) own =
    shown (change live) (given live) ∙ ap (changed change) (sym (shown live own))

-- two owners' chunks go in either order
owners_swap : (one other : ℕ) (o : Option LiveChunk)
    → not_owned one (not_owned other o) ≡ not_owned other (not_owned one o)
owners_swap one other None = refl
owners_swap one other (Some live) = by (live.owner == one) (live.owner == other) refl refl where
  by : (a b : Bool) → (live.owner == one) ≡ a → (live.owner == other) ≡ b
      → not_owned one (not_owned other (Some live)) ≡ not_owned other (not_owned one (Some live))
  by true true p q = rw (q, p) refl
  by true false p q = rw (q, p) refl
  by false true p q = rw (q, p, q) refl
  by false false p q = rw (q, p, q) refl

made_lifts : (old new : ChunkMap) (size owner lock : ℕ) (reply : Reply) → owner ≢ 0
    → becomes_named (λ name all. made all name.0 size owner lock) reply old new → becomes_named
    (λ name all. made all name.0 size owner lock) reply (without_owner old 0) (without_owner new 0)
made_lifts old new size owner lock (Refused refusal) own p = absurd p
made_lifts old new size owner lock Done own p = absurd p
made_lifts old new size owner lock (Number count) own p = absurd p
made_lifts old new size owner lock (Named name) own p = update_lifts old new name.0
    (Some (record { bytes = replicate size 0; lock = lock; owner = owner }))
    (Some (record { bytes = replicate size 0; lock = lock; owner = owner }))
    (shown (record { bytes = replicate size 0; lock = lock; owner = owner }) own) p
made_lifts old new size owner lock (Locked place count) own p = absurd p
made_lifts old new size owner lock (Data bytes) own p = absurd p
made_lifts old new size owner lock (Database db) own p = absurd p
made_lifts old new size owner lock (Info info) own p = absurd p
made_lifts old new size owner lock (Made index name) own p = absurd p
made_lifts old new size owner lock (Record info) own p = absurd p
made_lifts old new size owner lock (Resource info) own p = absurd p

-- ---- the calls

effect_lifts : (old new : Memory) (call : MemoryCall) (reply : Reply)
    → NoneHolds (row_of old call).refusals
    → (row_of old call).effect reply (held old.bytes) (held new.bytes)
    → (row_of old call).effect reply (callers_map old.bytes) (callers_map new.bytes)
effect_lifts old new (HandleNew size owner) reply n p =
    made_lifts (held old.bytes) (held new.bytes) size owner 0 reply (callers_owner owner n.0).0 p
effect_lifts old new (PtrNew size owner) reply n p = made_lifts (held old.bytes)
    (held new.bytes) size owner fixed_lock reply (callers_owner owner n.0).0 p
effect_lifts old new (Free name) reply n p =
    update_lifts (held old.bytes) (held new.bytes) name.0 None None refl p
effect_lifts old new (Lock name) reply n p = change_lifts (held old.bytes) (held new.bytes) name.0
    (λ live. record live { lock = live.lock + 1 }) (λ live. refl) p
effect_lifts old new (Unlock name) reply n p = change_lifts (held old.bytes) (held new.bytes) name.0
    (λ live. record live { lock = live.lock - 1 }) (λ live. refl) p
effect_lifts old new (Size name) reply n p = stay_lifts (held old.bytes) (held new.bytes) p
effect_lifts old new (Owner name) reply n p = stay_lifts (held old.bytes) (held new.bytes) p
effect_lifts old new (Locks name) reply n p = stay_lifts (held old.bytes) (held new.bytes) p
effect_lifts old new (Read name at count) reply n p = stay_lifts (held old.bytes) (held new.bytes) p
effect_lifts old new (Write name at bytes) reply n p =
    change_lifts (held old.bytes) (held new.bytes) name.0
    (λ live. record live { bytes = overwritten live.bytes at bytes }) (λ live. refl) p
effect_lifts old new (Set name at count byte) reply n p =
    change_lifts (held old.bytes) (held new.bytes) name.0 (λ live.
    record live { bytes = overwritten live.bytes at (replicate count byte) }) (λ live. refl) p
effect_lifts old new (StrCopy name at text) reply n p =
    change_lifts (held old.bytes) (held new.bytes) name.0
    (λ live. record live { bytes = overwritten live.bytes at (text_of text) }) (λ live. refl) p
effect_lifts old new (Resize name size) reply n p = change_lifts (held old.bytes) (held new.bytes)
    name.0 (λ live. record live { bytes = sized_to live.bytes size }) (λ live. refl) p
effect_lifts old new (SetOwner name owner) reply n p =
    let own = callers_owner owner n.1.1.0 in
    let change : LiveChunk → LiveChunk = λ live. record live { owner = owner } in
    update_lifts (held old.bytes) (held new.bytes) name.0 (changed change (held old.bytes name.0))
    (changed change (callers_map old.bytes name.0))
    (owner_shown change (λ live. own.0) (held old.bytes name.0)
    (known_owner (held old.bytes name.0) n.0)) p
effect_lifts old new (Recover place) reply n p = stay_lifts (held old.bytes) (held new.bytes) p
effect_lifts old new (FreeByOwner owner) reply n p =
    λ q. ap (not_owned 0) (p q) ∙ owners_swap 0 owner (held old.bytes q)
effect_lifts old new FreeBytes reply n p = stay_lifts (held old.bytes) (held new.bytes) p
effect_lifts old new LargestStretch reply n p = stay_lifts (held old.bytes) (held new.bytes) p
effect_lifts old new Compact reply n p = stay_lifts (held old.bytes) (held new.bytes) p
effect_lifts old new MoreSlots reply n p = stay_lifts (held old.bytes) (held new.bytes) p

-- a step on a map is one on a store, where its effect is
step_lifts : (row : Row ChunkMap) (one other : Type 0) (was now : ChunkMap) (before after : Store)
    (reply : Reply) (region : Memory) → (one → other)
    → (NoneHolds row.refusals → row.effect reply was now → (lifted row).effect reply before after)
    → StepBy row one was reply region now → StepBy (lifted row) other before reply region after
step_lifts row one other was now before after (Refused refusal) region same lifts s =
    (s.0, same s.1)
step_lifts row one other was now before after Done region same lifts s =
    (s.0, (s.1.0, lifts s.0 s.1.1))
step_lifts row one other was now before after (Number count) region same lifts s =
    (s.0, (s.1.0, lifts s.0 s.1.1))
step_lifts row one other was now before after (Named name) region same lifts s =
    (s.0, (s.1.0, lifts s.0 s.1.1))
step_lifts row one other was now before after (Locked place count) region same lifts s =
    (s.0, (s.1.0, lifts s.0 s.1.1))
step_lifts row one other was now before after (Data bytes) region same lifts s =
    (s.0, (s.1.0, lifts s.0 s.1.1))
step_lifts row one other was now before after (Database db) region same lifts s =
    (s.0, (s.1.0, lifts s.0 s.1.1))
step_lifts row one other was now before after (Info info) region same lifts s =
    (s.0, (s.1.0, lifts s.0 s.1.1))
step_lifts row one other was now before after (Made index name) region same lifts s =
    (s.0, (s.1.0, lifts s.0 s.1.1))
step_lifts row one other was now before after (Record info) region same lifts s =
    (s.0, (s.1.0, lifts s.0 s.1.1))
step_lifts row one other was now before after (Resource info) region same lifts s =
    (s.0, (s.1.0, lifts s.0 s.1.1))

pub memory_call_steps : (old new : Memory) (call : MemoryCall) (reply : Reply) → Accepted old.bytes
    → Does old call reply new → DoesInStore old (calls.Memory call) reply new
unfolding store_of
memory_call_steps old new call reply a d =
    let has = does_keeps old new call reply (databases old.bytes) d (has_databases old.bytes a) in
    let head = frames_head call reply old.bytes new.bytes d.frame in
    let stored = databases_are new.bytes (databases old.bytes) has in
    let same : AsBefore old new → store.StoreAsBefore old new = λ before. record {
      store = record { map = stay_lifts _ (held new.bytes) before.map; databases = stored };
      free = before.free;
      slots = before.slots;
    } in
    record {
      before = a;
      step = step_lifts (row_of old call) (AsBefore old new) (store.StoreAsBefore old new)
          (held old.bytes) (held new.bytes) (store_of old.bytes) (store_of new.bytes) reply new same
          (λ n p. (effect_lifts old new call reply n p, stored)) d.step;
      accepted = accepted_with new.bytes (databases old.bytes) has;
      len = head.len;
      tables = frames_tables call reply old.bytes new.bytes d.frame;
      directory = inl head.directory;
      still = d.still;
      loan = d.loan;
      asks = d.asks;
      rest = d.rest;
    }
