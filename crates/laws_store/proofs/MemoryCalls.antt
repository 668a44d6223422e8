-- The memory manager's calls leave the databases of an image.
use Rattle.laws_store.proofs.Words.{◌≡◌, ◌≢◌, ℕ, ◌+◌, ◌-◌, List, replicate, Option, Some, None, refl, sym, ap, subst, ◌∙◌, arith, inl, inr, cases_eq, eq-eqb, ne_eqb, ◌⊎◌, ◌↔◌, ◌==◌, Memory, overwritten, sized_to, LiveChunk, ChunkMap, held, updated, changed, not_owned, callers_map, NoneHolds, Row, StepBy, MemoryCall, Of, IsNoCaller, text_of, AsBefore, row_of, Does, Reply, StoredDatabase, owner_of, owner_under, HasDatabases, KeepsHead, frames_head, cond-true, cond-false, KeepsManagers}
use Rattle.heap_model.specs.declared.call.MemoryCall.TheVariants.{HandleNew, PtrNew, Free, Lock, Unlock, Size, Owner, Locks, Read, Write, Set, StrCopy, Resize, SetOwner, Recover, FreeByOwner, FreeBytes, LargestStretch, Compact, MoreSlots}
use Rattle.heap_model.specs.declared.call.Reply.TheVariants.{Refused, Done, Number, Named, Locked, Data, Database, Info, Made, Record, Resource}
use Rattle.laws_store.proofs.KeptDatabases.{databases_kept}

-- ---- what stands under one name, before and after

record Kept (old new : Option LiveChunk) : Type 0 where
  managers : owner_of old ≡ 0 → new ≡ old
  owners : (owner_of new ≡ 0) ↔ (owner_of old ≡ 0)
  given : (owner_of new ≡ 15) ↔ (owner_of old ≡ 15)

kept-same : (old new : Option LiveChunk) → new ≡ old → Kept old new
kept-same old new e = record {
  managers = λ z. e;
  owners = (λ z. sym (ap owner_of e) ∙ z, λ z. ap owner_of e ∙ z);
  given = (λ z. sym (ap owner_of e) ∙ z, λ z. ap owner_of e ∙ z);
}

-- a caller's before and after, or nothing
kept-callers : (old new : Option LiveChunk) → owner_of old ≢ 0 → owner_of old ≢ 15
    → owner_of new ≢ 0 → owner_of new ≢ 15 → Kept old new
kept-callers old new a b c d = record {
  managers = λ z. absurd (a z);
  owners = (λ z. absurd (c z), λ z. absurd (a z));
  given = (λ z. absurd (d z), λ z. absurd (b z));
}

-- not the manager's, and of the same owner
kept-owner : (old new : Option LiveChunk) → owner_of old ≢ 0 → owner_of new ≡ owner_of old
    → Kept old new
kept-owner old new a e = record {
  managers = λ z. absurd (a z);
  owners = (λ z. sym e ∙ z, λ z. e ∙ z);
  given = (λ z. sym e ∙ z, λ z. e ∙ z);
}

Keeps : List ℕ → List ℕ → Type 0
Keeps old new = (name : ℕ) → Kept (held old name) (held new name)

managers_kept : (old new : List ℕ) → KeepsHead old new → Keeps old new → KeepsManagers old new
unfolding Keeps owner_under
managers_kept old new frame k = record {
  heap = frame.accepted;
  directory = frame.directory;
  managers = λ name own. (k name).managers own;
  owners = λ name. (k name).owners;
  «data» = λ name. (k name).given;
}

-- ---- what callers may name

none : Option LiveChunk
none = None

pub known_owner : (held_there : Option LiveChunk) → (not_owned 0 held_there ≡ None → ⊥)
    → owner_of held_there ≢ 0
unfolding none
known_owner None known e = omega arith
known_owner (Some live) known e = known (cond-true _ none (Some live) (eq-eqb live.owner 0 e))

not_data : (held_there : Option LiveChunk)
    → (Of (not_owned 0 held_there) (λ live. live.owner ≡ 15) → ⊥) → owner_of held_there ≢ 15
unfolding none
not_data None other e = omega arith
not_data (Some live) other e =
    let shown = cond-false _ none (Some live) (ne_eqb live.owner 0 (λ z. omega arith)) in
    other (subst (λ (o : Option LiveChunk). Of o (λ l. l.owner ≡ 15)) (sym shown) e)

pub callers_owner : (owner : ℕ) → (IsNoCaller owner → ⊥) → (owner ≢ 0) × (owner ≢ 15)
callers_owner owner caller = (λ z. caller (inl z), λ z. caller (inr (omega arith)))

-- ---- one name changed

-- all names but one are as they were
but_one : (old new : List ℕ) (name : ℕ) (now : Option LiveChunk)
    → ((q : ℕ) → held new q ≡ updated (held old) name now q) → Kept (held old name) now
    → Keeps old new
unfolding Keeps
but_one old new name now effect k q = elim (cases_eq q name) [
  | inl e ↦
      let there = effect q ∙ cond-true (q == name) now (held old q) (eq-eqb q name e) in
      subst (λ o. Kept (held old q) o) (sym there) (rw (← e) at k)
  | inr ne ↦ kept-same _ _ (effect q ∙ cond-false (q == name) now (held old q) (ne_eqb q name ne))
]

changed-owner : (change : LiveChunk → LiveChunk) (o : Option LiveChunk)
    → ((live : LiveChunk) → (change live).owner ≡ live.owner)
    → owner_of (changed change o) ≡ owner_of o
changed-owner change None same = refl
changed-owner change (Some live) same = same live

-- a chunk that callers may name has changed, and its owner hasn't
owner_stays : (old new : List ℕ) (name : ℕ) (change : LiveChunk → LiveChunk)
    → ((q : ℕ) → held new q ≡ updated (held old) name (changed change (held old name)) q)
    → ((live : LiveChunk) → (change live).owner ≡ live.owner) → (callers_map old name ≡ None → ⊥)
    → Keeps old new
owner_stays old new name change effect same known = but_one old new name _ effect
    (kept-owner _ _ (known_owner (held old name) known) (changed-owner change (held old name) same))

not_owned-kept : (owner : ℕ) (o : Option LiveChunk) → owner ≢ 0 → owner ≢ 15
    → Kept o (not_owned owner o)
unfolding none
not_owned-kept owner None a b = kept-same none none refl
not_owned-kept owner (Some live) a b = elim (cases_eq live.owner owner) [
  | inl e ↦
      let gone = cond-true (live.owner == owner) none (Some live) (eq-eqb live.owner owner e) in
      subst (λ o. Kept (Some live) o) (sym gone) (kept-callers (Some live) none (λ z. a (sym e ∙ z))
      (λ z. b (sym e ∙ z)) (λ z. omega arith) (λ z. omega arith))
  | inr ne ↦ kept-same (Some live) _ (cond-false _ none (Some live) (ne_eqb live.owner owner ne))
]

changed-given : (change : LiveChunk → LiveChunk) (owner : ℕ) (o : Option LiveChunk)
    → ((live : LiveChunk) → (change live).owner ≡ owner) → owner ≢ 0 → owner ≢ 15
    → (owner_of (changed change o) ≢ 0) × (owner_of (changed change o) ≢ 15)
changed-given change owner None given a b = (λ z. omega arith, λ z. omega arith)
changed-given change owner (Some live) given a b =
    (λ z. a (sym (given live) ∙ z), λ z. b (sym (given live) ∙ z))

-- ---- the calls

-- a call was refused, and all is as before; or its row holds
row_holds : (row : Row ChunkMap) (before : Type 0) (was : ChunkMap) (reply : Reply)
    (region : Memory) (now : ChunkMap) → StepBy row before was reply region now
    → before ⊎ (NoneHolds row.refusals × (row.answers reply region × row.effect reply was now))
row_holds row before was (Refused refusal) region now s = inl s.1
row_holds row before was Done region now s = inr s
row_holds row before was (Number count) region now s = inr s
row_holds row before was (Named name) region now s = inr s
row_holds row before was (Locked place count) region now s = inr s
row_holds row before was (Data bytes) region now s = inr s
row_holds row before was (Database db) region now s = inr s
row_holds row before was (Info info) region now s = inr s
row_holds row before was (Made index name) region now s = inr s
row_holds row before was (Record info) region now s = inr s
row_holds row before was (Resource info) region now s = inr s

Holds : Memory → Memory → MemoryCall → Reply → Type 0
Holds old new call reply =
    NoneHolds (row_of old call).refusals × ((row_of old call).answers reply new
    × (row_of old call).effect reply (held old.bytes) (held new.bytes))

made_kept : (old new : List ℕ) (name size owner lock : ℕ) → (IsNoCaller owner → ⊥)
    → held old name ≡ None → ((q : ℕ) → held new q ≡ updated (held old) name (Some
    (record { bytes = replicate size 0; lock = lock; owner = owner })) q) → Keeps old new
made_kept old new name size owner lock caller empty effect =
    let own = callers_owner owner caller in
    let nothing : owner_of (held old name) ≡ 16 = ap owner_of empty in
    but_one old new name _ effect
    (kept-callers (held old name) _ (λ z. omega arith) (λ z. omega arith) own.0 own.1)

handle_new_keeps : (old new : Memory) (size owner : ℕ) (reply : Reply)
    → Holds old new (HandleNew size owner) reply → Keeps old.bytes new.bytes
unfolding Holds
handle_new_keeps old new size owner (Refused refusal) p = absurd p.1.0
handle_new_keeps old new size owner Done p = absurd p.1.0
handle_new_keeps old new size owner (Number count) p = absurd p.1.0
handle_new_keeps old new size owner (Named name) p = made_kept _ _ _ size owner 0 p.0.0 p.1.0 p.1.1
handle_new_keeps old new size owner (Locked place count) p = absurd p.1.0
handle_new_keeps old new size owner (Data bytes) p = absurd p.1.0
handle_new_keeps old new size owner (Database db) p = absurd p.1.0
handle_new_keeps old new size owner (Info info) p = absurd p.1.0
handle_new_keeps old new size owner (Made index name) p = absurd p.1.0
handle_new_keeps old new size owner (Record info) p = absurd p.1.0
handle_new_keeps old new size owner (Resource info) p = absurd p.1.0

ptr_new_keeps : (old new : Memory) (size owner : ℕ) (reply : Reply)
    → Holds old new (PtrNew size owner) reply → Keeps old.bytes new.bytes
unfolding Holds
ptr_new_keeps old new size owner (Refused refusal) p = absurd p.1.0
ptr_new_keeps old new size owner Done p = absurd p.1.0
ptr_new_keeps old new size owner (Number count) p = absurd p.1.0
ptr_new_keeps old new size owner (Named name) p = made_kept _ _ _ size owner 15 p.0.0 p.1.0 p.1.1
ptr_new_keeps old new size owner (Locked place count) p = absurd p.1.0
ptr_new_keeps old new size owner (Data bytes) p = absurd p.1.0
ptr_new_keeps old new size owner (Database db) p = absurd p.1.0
ptr_new_keeps old new size owner (Info info) p = absurd p.1.0
ptr_new_keeps old new size owner (Made index name) p = absurd p.1.0
ptr_new_keeps old new size owner (Record info) p = absurd p.1.0
ptr_new_keeps old new size owner (Resource info) p = absurd p.1.0

all_stay : (old new : List ℕ) → ((q : ℕ) → held new q ≡ held old q) → Keeps old new
unfolding Keeps
all_stay old new same q = kept-same (held old q) (held new q) (same q)

owners_gone : (old new : List ℕ) (owner : ℕ) → (IsNoCaller owner → ⊥)
    → ((q : ℕ) → held new q ≡ not_owned owner (held old q)) → Keeps old new
unfolding Keeps
owners_gone old new owner caller effect q =
    let own = callers_owner owner caller in
    subst (λ o. Kept (held old q) o) (sym (effect q)) (not_owned-kept owner _ own.0 own.1)

call_keeps : (old new : Memory) (call : MemoryCall) (reply : Reply) → Holds old new call reply
    → Keeps old.bytes new.bytes
unfolding Holds
call_keeps old new (HandleNew size owner) reply p = handle_new_keeps old new size owner reply p
call_keeps old new (PtrNew size owner) reply p = ptr_new_keeps old new size owner reply p
call_keeps old new (Free name) reply p = but_one old.bytes new.bytes name.0 None p.1.1
    (kept-callers (held old.bytes name.0) None (known_owner (held old.bytes name.0) p.0.0)
    (not_data (held old.bytes name.0) p.0.1.0) (λ z. omega arith) (λ z. omega arith))
call_keeps old new (Lock name) reply p = owner_stays old.bytes new.bytes name.0
    (λ live. record live { lock = live.lock + 1 }) p.1.1 (λ live. refl) p.0.0
call_keeps old new (Unlock name) reply p = owner_stays old.bytes new.bytes name.0
    (λ live. record live { lock = live.lock - 1 }) p.1.1 (λ live. refl) p.0.0
call_keeps old new (Size name) reply p = all_stay old.bytes new.bytes p.1.1
call_keeps old new (Owner name) reply p = all_stay old.bytes new.bytes p.1.1
call_keeps old new (Locks name) reply p = all_stay old.bytes new.bytes p.1.1
call_keeps old new (Read name at count) reply p = all_stay old.bytes new.bytes p.1.1
call_keeps old new (Write name at bytes) reply p = owner_stays old.bytes new.bytes name.0
    (λ live. record live { bytes = overwritten live.bytes at bytes }) p.1.1 (λ live. refl) p.0.0
call_keeps old new (Set name at count byte) reply p = owner_stays old.bytes new.bytes name.0
    (λ live. record live { bytes = overwritten live.bytes at (replicate count byte) }) p.1.1
    (λ live. refl) p.0.0
call_keeps old new (StrCopy name at text) reply p = owner_stays old.bytes new.bytes name.0 (λ live.
    record live { bytes = overwritten live.bytes at (text_of text) }) p.1.1 (λ live. refl) p.0.0
call_keeps old new (Resize name size) reply p = owner_stays old.bytes new.bytes name.0
    (λ live. record live { bytes = sized_to live.bytes size }) p.1.1 (λ live. refl) p.0.0
call_keeps old new (SetOwner name owner) reply p =
    let own = callers_owner owner p.0.1.1.0 in
    let now = changed-given (λ live. record live { owner = owner }) owner (held old.bytes name.0)
    (λ live. refl) own.0 own.1 in
    but_one old.bytes new.bytes name.0 _ p.1.1
    (kept-callers (held old.bytes name.0) (changed (λ live. record live { owner = owner })
    (held old.bytes name.0)) (known_owner (held old.bytes name.0) p.0.0)
    (not_data (held old.bytes name.0) p.0.1.0) now.0 now.1)
call_keeps old new (Recover place) reply p = all_stay old.bytes new.bytes p.1.1
call_keeps old new (FreeByOwner owner) reply p = owners_gone old.bytes new.bytes owner p.0.0 p.1.1
call_keeps old new FreeBytes reply p = all_stay old.bytes new.bytes p.1.1
call_keeps old new LargestStretch reply p = all_stay old.bytes new.bytes p.1.1
call_keeps old new Compact reply p = all_stay old.bytes new.bytes p.1.1
call_keeps old new MoreSlots reply p = all_stay old.bytes new.bytes p.1.1

pub does_keeps : (old new : Memory) (call : MemoryCall) (reply : Reply)
    (stored : List StoredDatabase) → Does old call reply new → HasDatabases old.bytes stored
    → HasDatabases new.bytes stored
unfolding Holds
does_keeps old new call reply stored d h =
    let keeps : Keeps old.bytes new.bytes = elim (row_holds (row_of old call) (AsBefore old new)
    (held old.bytes) reply new (held new.bytes) d.step) [
      | inl before ↦ all_stay old.bytes new.bytes before.map
      | inr p ↦ call_keeps old new call reply p
    ] in
    databases_kept old.bytes new.bytes stored h
    (managers_kept old.bytes new.bytes (frames_head call reply old.bytes new.bytes d.frame) keeps)
