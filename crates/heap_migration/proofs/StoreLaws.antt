-- The store that a migrated image means.
use Rattle.std.proofs.Common.{Bool, true, false, ◌≡◌, ◌≢◌, ℕ, ◌+◌, ◌-◌, ◌≤◌, List, ◌∷◌, ◌++◌, Option, Some, None, length, refl, sym, ap, subst, ◌∙◌, arith, inl, inr}
use Rattle.std.proofs.lemmas.Bool.{cases_eq, eq-eqb}
use Rattle.std.proofs.lemmas.Bool.Decides.{nat_tests}
use Rattle.std.specs.Prelude.{◌==◌, ◌⊎◌}
use Rattle.heap_model.specs.Chunk.{Chunk, free, movable, fixed, total, Spelled}
use Rattle.heap_model.specs.Placed.{EveryPlaced}
use Rattle.heap_model.specs.Slots.{Table, IsSlot, is_chained, area_start, slot_count, further_tables, slots_in_row, slots_further, slots_of}
use Rattle.heap_model.specs.Heap.{HeapAccepted}
use Rattle.heap_model.specs.Meaning.{LiveChunk, NamedHere}
use Rattle.heap_model.specs.Reading.{chunks_of, held}
use Rattle.heap_model.specs.Pairing.{NamesItsSlot}
use Rattle.heap_model.specs.Maps.{not_owned, callers_map}
use Rattle.heap_model.specs.Frame.{most_size}
use Rattle.heap_model.specs.Migration.{Migrates, MigratesBytes}
use Rattle.heap_model.specs.Store.{owner_of, owner_under, databases, Accepted, store_of}
use Rattle.heap_model.specs.Counts.{HasDatabases}
use Rattle.laws_heap.proofs.Tests.{cond-true, cond-false}
use Rattle.laws_heap.proofs.Tables.{no_further}
use Rattle.laws_heap.proofs.Slots.{slot_alike}
use Rattle.laws_heap.proofs.Bodies.{tied_halves}
use Rattle.laws_heap.proofs.Placed.{EveryPlaced-split}
use Rattle.laws_heap.proofs.FixedNames.{fixed_live_is, fixed_name_is, fixed_place}
use Rattle.laws_heap.proofs.FoundChunks.{read_heap, held_finds, finds_spelled, callers_some}
use Rattle.laws_store.specs.Changes.{KeepsManagers}
use Rattle.laws_store.proofs.Owners.{owned_slot}
use Rattle.laws_store.proofs.KeptDatabases.{databases_kept}
use Rattle.laws_store.proofs.Counts.{has_databases, accepted_with, databases_are}
use Rattle.laws_heap.proofs.Migrations.{migrated}
use Rattle.heap_migration.specs.Growth.{growth_of}
use Rattle.heap_migration.specs.Stores.{later_name, RaisesFixed, MigratesStore, MigratesFrom, IsMigrated}

-- ---- which chunks have which names

-- a name is that of a movable chunk, and a slot, or that of a fixed one, and lies after the slots
abbrev pub KindOfName : List ℕ → ℕ → LiveChunk → Type 0
KindOfName image name live = ((live.lock ≢ 15) × IsSlot image name) ⊎ ((live.lock ≡ 15) × (area_start image ≤ name))

kind_here : (image : List ℕ) (name : ℕ) (live : LiveChunk) (at : ℕ) (c : Chunk) → area_start image ≤ at → Spelled image at c → NamesItsSlot image at c → NamedHere name live at c → KindOfName image name live
kind_here image name live at (free size) low s names named = absurd named
kind_here image name live at (movable bytes lock owner slot) low s names named =
    let same : lock ≡ live.lock = ap (λ (l : LiveChunk). l.lock) named.1 in
    let few = s.2 in
    inl (λ e. omega arith, subst (λ (n : ℕ). IsSlot image n) named.0 names.0)
kind_here image name live at (fixed bytes owner) low s names named =
    let same : 15 ≡ live.lock = ap (λ (l : LiveChunk). l.lock) (fixed_live_is at bytes owner named) in
    let there : at + 8 ≡ name = sym (fixed_place at) ∙ fixed_name_is at bytes owner named in
    inr (sym same, omega arith)

pub kind_of_name : (image : List ℕ) (name : ℕ) (live : LiveChunk) → HeapAccepted image → held image name ≡ Some live → KindOfName image name live
kind_of_name image name live h e =
    let found = held_finds image name live h e in
    let f = found.finds in
    let heap = read_heap image h in
    let here : ℕ = area_start image + total f.before in
    let spelled : Spelled image here found.chunk = subst (λ (n : ℕ). Spelled image n found.chunk) f.there (finds_spelled image name live found.chunk found.at h f) in
    let each : EveryPlaced (NamesItsSlot image) (area_start image) (f.before ++ found.chunk ∷ f.after) = subst (λ (cs : List Chunk). EveryPlaced (NamesItsSlot image) (area_start image) cs) f.chunks (tied_halves image (chunks_of image) heap.tied).1 in
    let names = (EveryPlaced-split (NamesItsSlot image) (area_start image) f.before (found.chunk ∷ f.after) each).1.0 in
    kind_here image name live here found.chunk (omega arith) spelled names (subst (λ (n : ℕ). NamedHere name live n found.chunk) f.there f.named)

-- ---- the slots are the same

pub slots_migrated : (old new : List ℕ) (by : ℕ) → Migrates old new by → slots_of new ≡ slots_of old
unfolding slots_of
slots_migrated old new by m =
    ap (λ (n : ℕ). slots_in_row 16 n ++ slots_further (further_tables new)) m.count
    ∙ ap (λ (ts : List Table). slots_in_row 16 (slot_count old) ++ slots_further ts) (m.further ∙ sym (no_further old m.plain))

slot_before : (old new : List ℕ) (by slot : ℕ) → Migrates old new by → IsSlot new slot → IsSlot old slot
slot_before old new by slot m s = slot_alike new old slot (sym (slots_migrated old new by m)) s

-- ---- the databases

same_owner : (old new : List ℕ) (by name : ℕ) → Migrates old new by → IsSlot old name → owner_under new name ≡ owner_under old name
unfolding owner_under
same_owner old new by name m s = ap owner_of (m.slots name s)

pub keeps_managers : (old new : List ℕ) (by : ℕ) → HeapAccepted old → Migrates old new by → KeepsManagers old new
keeps_managers old new by h m = record {
  heap = m.accepted;
  directory = m.directory;
  managers = λ name own. m.slots name (owned_slot old name h (inl own));
  owners = λ name. (
    λ own. sym (same_owner old new by name m (slot_before old new by name m (owned_slot new name m.accepted (inl own)))) ∙ own,
    λ own. same_owner old new by name m (owned_slot old name h (inl own)) ∙ own,
  );
  «data» = λ name. (
    λ own. sym (same_owner old new by name m (slot_before old new by name m (owned_slot new name m.accepted (inr own)))) ∙ own,
    λ own. same_owner old new by name m (owned_slot old name h (inr own)) ∙ own,
  );
}

pub databases_migrated : (old new : List ℕ) (by : ℕ) → Accepted old → Migrates old new by → HasDatabases new (databases old)
databases_migrated old new by a m = databases_kept old new (databases old) (has_databases old a) (keeps_managers old new by a.heap m)

pub accepted_migrated : (old new : List ℕ) (by : ℕ) → Accepted old → Migrates old new by → Accepted new
accepted_migrated old new by a m = accepted_with new (databases old) (databases_migrated old new by a m)

-- ---- the map

-- what callers may name is held, and isn't the manager's
callers_held : (image : List ℕ) (name : ℕ) (live : LiveChunk) → callers_map image name ≡ Some live → (held image name ≡ Some live) × (live.owner ≢ 0)
callers_held image name live e = by (held image name) refl e where
  by : (o : Option LiveChunk) → held image name ≡ o → not_owned 0 o ≡ Some live → (held image name ≡ Some live) × (live.owner ≢ 0)
  by None h is = absurd cc
  by (Some other) h is = elim (cases_eq other.owner 0) [
    | inl managers ↦ let none : not_owned 0 (Some other) ≡ None = cond-true (other.owner == 0) _ _ (eq-eqb other.owner 0 managers) in absurd cc
    | inr callers ↦
        let some : not_owned 0 (Some other) ≡ Some other = cond-false (other.owner == 0) _ _ (grind (arith, nat_tests)) in
        let same : Some other ≡ Some live = sym some ∙ is in
        let owner : other.owner ≡ live.owner = ap owner_of same in
        (h ∙ same, λ z. callers (owner ∙ z))
  ]

name_stays : (by name : ℕ) (live : LiveChunk) → live.lock ≢ 15 → later_name by name live ≡ name
name_stays by name live loose = cond-false (live.lock == 15) _ _ (grind (arith, nat_tests))

name_rises : (by name : ℕ) (live : LiveChunk) → live.lock ≡ 15 → later_name by name live ≡ name + by
name_rises by name live is = cond-true (live.lock == 15) _ _ (eq-eqb live.lock 15 is)

held_later : (old new : List ℕ) (by name : ℕ) (live : LiveChunk) → HeapAccepted old → Migrates old new by → held old name ≡ Some live → held new (later_name by name live) ≡ Some live
held_later old new by name live h m e = elim (kind_of_name old name live h e) [
  | inl loose ↦ ap (held new) (name_stays by name live loose.0) ∙ m.slots name loose.1 ∙ e
  | inr stays ↦ ap (held new) (name_rises by name live stays.0) ∙ m.fixed name stays.1 ∙ e
]

held_before : (old new : List ℕ) (by name : ℕ) (live : LiveChunk) → Migrates old new by → held new name ≡ Some live → (was : ℕ) × (held old was ≡ Some live) × (later_name by was live ≡ name)
held_before old new by name live m e = elim (kind_of_name new name live m.accepted e) [
  | inl loose ↦ (name, sym (m.slots name (slot_before old new by name m loose.1)) ∙ e, name_stays by name live loose.0)
  | inr stays ↦
      let shift = m.shift in
      let low = stays.1 in
      let there : name - by + by ≡ name = omega arith in
      (name - by, sym (m.fixed (name - by) (omega arith)) ∙ ap (held new) there ∙ e, name_rises by (name - by) live stays.0 ∙ there)
]

raises_fixed : (old new : List ℕ) (by : ℕ) → HeapAccepted old → Migrates old new by → RaisesFixed (callers_map old) (callers_map new) by
raises_fixed old new by h m = record {
  kept = λ name live e.
      let is = callers_held old name live e in
      callers_some new (later_name by name live) live (held_later old new by name live h m is.0) is.1;
  no_others = λ name live e.
      let is = callers_held new name live e in
      let was = held_before old new by name live m is.0 in
      (was.0, callers_some old was.0 live was.1 is.1, was.2);
}

pub store_migrated : (old new : List ℕ) (by : ℕ) → Accepted old → Migrates old new by → MigratesStore (store_of old) (store_of new) by
unfolding store_of
store_migrated old new by a m = record { map = raises_fixed old new by a.heap m; databases = databases_are new (databases old) (databases_migrated old new by a m) }

-- ---- the meaning of the bytes

pub is_migrated : (old new : List ℕ) → Accepted old → is_chained old ≡ false → length old + growth_of old ≤ most_size → MigratesBytes old new (growth_of old) → IsMigrated old new
is_migrated old new a plain fits m =
    let len = m.len in
    let holds : Migrates old new (growth_of old) = migrated old new (growth_of old) a.heap plain (omega arith) m in
    subst (λ (b : Bool). MigratesFrom old new b) (sym plain) (m, accepted_migrated old new (growth_of old) a holds, store_migrated old new (growth_of old) a holds)

pub as_it_was : (image : List ℕ) → is_chained image ≡ true → IsMigrated image image
as_it_was image chained = subst (λ (b : Bool). MigratesFrom image image b) (sym chained) refl

pub grown_accepted : (old new : List ℕ) → Accepted old → is_chained old ≡ false → length old + growth_of old ≤ most_size → MigratesBytes old new (growth_of old) → Accepted new
grown_accepted old new a plain fits m =
    let len = m.len in
    accepted_migrated old new (growth_of old) a (migrated old new (growth_of old) a.heap plain (omega arith) m)
