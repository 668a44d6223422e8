-- Live chunks by their names and by their places.
use Rattle.heap_place.proofs.Words.{◌≡◌, ◌≢◌, ℕ, ◌+◌, ◌-◌, ◌<◌, ◌≤◌, List, [], ◌∷◌, ◌++◌, length, Option, Some, None, MatchOption, refl, sym, ap, subst, ◌∙◌, arith, inl, inr, ◌==◌, ◌&&◌, nat_lt, IsSome, IfNone, u32_at, Chunk, free, movable, fixed, fixed_lock, size_of, total, IsLive, HasChunk, area_start, BodyHere, IsHeap, HeapAccepted, EveryPlaced, LiveChunk, NamedHere, chunk_at, chunks_of, place_of, Finds, NotFixedAs, cond-true, cond-false, true_or_false, EveryPlaced-push, EveryPlaced-split, AnyPlaced-mid, fixed_name, fixed_live, fixed_live_is, fixed_has_name, fixed_name_is, fixed_place, fixed_not, fixed_owned, finds_spelled, InSlot, in_slot, finds_read, held_finds, none_held, read_heap, chunk_at-spelled, finds_place, HoldsPlace, HoldsNothing, Header, header_of, size_by, HasHeader, HasLive, Found, IsFound, IsOne, IsFixed, NothingAt, NoneFixedAs, NoneBeginsAt, NoSlotHolds, found_if_movable, found_if_fixed, Passed, same_lock, same_owner, same_length, some_same, Bool}
use Rattle.std.proofs.lemmas.Bool.Decides.{Decides-and, Decides-eqb, Decides-ltb}
use Rattle.std.specs.Bool.{Decides}
use Rattle.std.specs.Option.{option_map}
use Rattle.heap_model.specs.Reading.{held}
use Rattle.heap_model.specs.declared.names.Name.{Name}
use Rattle.heap_model.specs.declared.names.Place.{Place}
use Rattle.laws_heap.proofs.Lives.{live_placed}
use Rattle.chunk_format.specs.declared.header.Header.TheVariants as headers
use Rattle.chunk_format.specs.declared.header.LiveFields.{LiveFields}
use Rattle.heap_place.proofs.WalkLaws.{passed_at, passed_more, passed_parts}

-- the header that is read at an offset
abbrev pub ReadsHeader : List ℕ → ℕ → Header → Type 0
ReadsHeader image at header = Some header ≡ option_map header_of (chunk_at image at)

-- ---- the fixed chunk of a name

abbrev pub placed : ℕ → Place
placed at = record { 0 = at }

abbrev as_found : ℕ → Name → ℕ → ℕ → Found
as_found at name count owner = record { name = name; place = placed (at + 8); length = count; lock = fixed_lock; owner = owner }

abbrev pub as_found_at : Name → ℕ → ℕ → Found
as_found_at name count owner = record { name = name; place = placed name.0; length = count; lock = fixed_lock; owner = owner }

-- the chunk whose header is that of a fixed one of the name
record FixedAs (at : ℕ) (name : Name) (c : Chunk) (found : Found) : Type 0 where
  bytes : List ℕ
  owner : ℕ
  chunk : c ≡ fixed bytes owner
  is : found ≡ as_found at name (length bytes) owner
  there : fixed_name at ≡ name.0
  some : 0 < owner

abbrev pub fixed_test : ℕ → Name → ℕ → Bool
fixed_test at name owner = ((placed (at + 8)).0 == name.0) && nat_lt 0 owner

Decides-fixed_by : (at owner : ℕ) (name : Name)
    → Decides (fixed_test at name owner) ((at + 8 ≡ name.0) × (0 < owner))
Decides-fixed_by at owner name = Decides-and _ _ (Decides-eqb (at + 8) name.0) (Decides-ltb 0 owner)

fixed_named : (at : ℕ) (name : Name) {header : Header} (c : Chunk) {found : Found} → header ≡ header_of c → found_if_fixed header (placed (at + 8)) name ≡ Some found → FixedAs at name c found
fixed_named at name (free size) {found} e f = let g = rw e at f in absurd cc
fixed_named at name (movable bytes lock owner slot) {found} e f = let g = rw e at f in absurd cc
fixed_named at name (fixed bytes owner) {found} e f = elim (true_or_false _) [
  | inl is ↦
      let both = (Decides-fixed_by at owner name).0 is in
      record { bytes = bytes; owner = owner; chunk = refl; is = sym (some_same (sym (cond-true _ _ _ is) ∙ g)); there = fixed_place at ∙ both.0; some = both.1 }
  | inr isnt ↦ let none : found_if_fixed (headers.Fixed (length bytes) owner) (placed (at + 8)) name ≡ None = cond-false _ _ _ isnt in absurd cc
] where
  g : found_if_fixed (headers.Fixed (length bytes) owner) (placed (at + 8)) name ≡ Some found
  g = subst (λ h. found_if_fixed h (placed (at + 8)) name ≡ Some found) e f

pub fixed_found : {image : List ℕ} (P : List Chunk → Type 0) {at : ℕ} (name : Name) {header : Header} {found : Found} → HeapAccepted image → Passed image P at → HasHeader image at header → found_if_fixed header (placed (at + 8)) name ≡ Some found → IsFound image name.0 found
fixed_found {image} P {at} name h p has f =
    let n = fixed_named at name has.chunk has.header_is f in
    let live = fixed_live n.bytes n.owner in let parts = passed_parts P h p has in
    let chunks = subst (λ c. chunks_of image ≡ p.front ++ c ∷ parts.0) n.chunk parts.1 in
    let there = passed_at image P at p in let place : at + 8 - 8 ≡ at = omega arith in
    let finds : Finds image name.0 live (fixed n.bytes n.owner) at = record {
      before = p.front;
      after = parts.0;
      chunks = chunks;
      there = omega arith;
      named = subst (λ k. NamedHere k live at (fixed n.bytes n.owner)) n.there (fixed_has_name at _ _ n.some);
    } in
    subst (λ x. IsFound image name.0 x) (sym n.is) record {
      live = live;
      chunk = fixed n.bytes n.owner;
      finds = subst (λ k. Finds image name.0 live (fixed n.bytes n.owner) k) (sym place) finds;
      behind_header = omega arith;
      name_is = refl;
      count = refl;
      lock_is = refl;
      owner_is = refl;
    }

-- it is where its name says
pub fixed_there : {at : ℕ} (name : Name) {header : Header} {found : Found} {image : List ℕ} → HasHeader image at header → found_if_fixed header (placed (at + 8)) name ≡ Some found → found.place.0 ≡ name.0
fixed_there {at} name has f = let n = fixed_named at name _ has.header_is f in ap (λ x. x.place.0) n.is ∙ sym (fixed_place at) ∙ n.there

not_fixed : (at : ℕ) (name : Name) (c : Chunk)
    → found_if_fixed (header_of c) (placed (at + 8)) name ≡ None → NotFixedAs name.0 at c
not_fixed at name (free size) f = tt
not_fixed at name (movable bytes lock owner slot) f = tt
not_fixed at name (fixed bytes owner) f = λ some same. let there = sym (cond-true _ _ _ ((Decides-fixed_by at _ name).1 (same, some))) ∙ f in absurd cc

pub fixed_passed : {image : List ℕ} {at : ℕ} (name : Name) {header : Header} → Passed image (NoneFixedAs image name.0) at → HasHeader image at header → found_if_fixed header (placed (at + 8)) name ≡ None → Passed image (NoneFixedAs image name.0) (at + size_by header)
fixed_passed {at} name p has f = passed_more _ _ _ at _ p has
    (EveryPlaced-push _ _ _ _ at (passed_at _ _ at p) p.holds
    (not_fixed at name has.chunk (rw has.header_is at f)))

-- one that doesn't begin at an offset is passed
pub begins_passed : {image : List ℕ} {at : ℕ} (there : ℕ) {header : Header} → Passed image (NoneBeginsAt image there) at → HasHeader image at header → at ≢ there → Passed image (NoneBeginsAt image there) (at + size_by header)
begins_passed {at} there p has other = passed_more _ _ _ at _ p has
    (EveryPlaced-push (λ k c. k ≢ there) _ _ _ at (passed_at _ _ at p) p.holds other)

none_at : (there start : ℕ) (before : List Chunk) (c : Chunk) (after : List Chunk)
    → EveryPlaced (λ k d. k ≢ there) start (before ++ c ∷ after) → start + total before ≢ there
none_at there start [] c after e = λ same. e.0 ((let z : start ≡ start + total [] = omega arith in z) ∙ same)
none_at there start (b ∷ bs) c after e = λ same. none_at there (start + size_of b) bs c after e.1 ((let z : start + size_of b + total bs ≡ start + total (b ∷ bs) = omega arith in z) ∙ same)

pub held_slot : {image : List ℕ} {name place : ℕ} → HeapAccepted image → HoldsPlace image name place
    → InSlot image name place
held_slot {name} {place} h holds = in_slot _ name place h holds.is_slot holds.held holds.some

-- where no chunk begins no slot's chunk does
pub none_begins_holds : {image : List ℕ} (place : ℕ) → HeapAccepted image
    → NoneBeginsAt image (place - 8) (chunks_of image) → NoSlotHolds image place
none_begins_holds place h none = λ name holds.
    let i = held_slot h holds in none_at _ _ _ _ _ (rw i.finds.chunks at none) (sym i.finds.there)

-- ---- the chunk of a name that stands for one and isn't in a slot

movable_holds : {image : List ℕ} {name : ℕ} {live : LiveChunk} {bytes : List ℕ} {lock owner slot at : ℕ} → HeapAccepted image → HoldsNothing image name → Finds image name live (movable bytes lock owner slot) at → ⊥
movable_holds {image} {name} {bytes} {lock} {owner} {slot} {at} h nothing f =
    let body : BodyHere name (at + 8) (area_start image + total f.before) (movable bytes lock owner slot) = (f.named.0, omega arith) in
    let here = rw (← f.chunks) at (AnyPlaced-mid (BodyHere name (at + 8)) (area_start image) f.before (movable bytes lock owner slot) f.after body) in
    let tied = ((read_heap image h).tied name (at + 8) (omega arith)).1 here in absurd (omega arith)

fixed_chunk : {image : List ℕ} {name : ℕ} {live : LiveChunk} (c : Chunk) {at : ℕ}
    → HeapAccepted image → HoldsNothing image name → Finds image name live c at → IsFixed image name
fixed_chunk (free size) h nothing f = absurd f.named
fixed_chunk (movable bytes lock owner slot) h nothing f = absurd (movable_holds h nothing f)
fixed_chunk {image} {name} {live} (fixed bytes owner) {at} h nothing f =
    let there : at ≡ name - 8 = omega arith in
    record { live = live; bytes = bytes; owner = owner; finds = rw there at f; behind_header = omega arith }

pub is_fixed : {image : List ℕ} (name : ℕ) (x : Option LiveChunk) → HeapAccepted image
    → held image name ≡ x → IsSome x → HoldsNothing image name → IsFixed image name
is_fixed name None h e some nothing = absurd cc
is_fixed {image} name (Some live) h e some nothing = let f = held_finds image name live h e in fixed_chunk f.chunk h nothing f.finds

pub fixed_has_chunk : {image : List ℕ} {name : ℕ} → HeapAccepted image → (i : IsFixed image name)
    → HasChunk image (name - 8)
fixed_has_chunk {name} h i = record { chunk = fixed i.bytes i.owner; spelled = finds_spelled _ name _ _ _ h i.finds }

-- what its header says
pub fixed_header : {image : List ℕ} (name : Name) {header : Header} → HeapAccepted image → (i : IsFixed image name.0) → ReadsHeader image (name.0 - 8) header → found_if_fixed header (placed name.0) name ≡ Some (as_found_at name (length i.bytes) i.owner)
fixed_header name {header} h i read =
    let is = some_same (read ∙ ap (option_map header_of) (finds_read _ _ _ _ _ h i.finds)) in
    ap (λ x. found_if_fixed x (placed name.0) name) is ∙ cond-true _ _ _ ((Decides-and _ _ (Decides-eqb name.0 name.0) (Decides-ltb 0 i.owner)).1 (refl, fixed_owned _ _ _ i.finds.named))

pub fixed_is_found : {image : List ℕ} (name : Name) {found : Found} → (i : IsFixed image name.0)
    → Some (as_found_at name (length i.bytes) i.owner) ≡ Some found → IsFound image name.0 found
fixed_is_found {image} name i e =
    let live = fixed_live_is (name.0 - 8) i.bytes i.owner i.finds.named in
    subst (λ x. IsFound image name.0 x) (some_same e) record {
      live = i.live;
      chunk = fixed i.bytes i.owner;
      finds = i.finds;
      behind_header = i.behind_header;
      name_is = refl;
      count = same_length live;
      lock_is = same_lock live;
      owner_is = same_owner live;
    }

-- ---- by a slot

pub slot_header : {image : List ℕ} {name place : ℕ} → HeapAccepted image → (s : InSlot image name place) → option_map header_of (chunk_at image (place - 8)) ≡ Some (headers.Movable (length s.live.bytes) s.live.lock s.live.owner s.named)
slot_header {name} h s = ap (option_map header_of) (finds_read _ name _ _ _ h s.finds)

-- what is read at the place that a slot holds is its chunk
slot_found : {image : List ℕ} {name : ℕ} (place : Place) {header : Header} → HeapAccepted image → ReadsHeader image (place.0 - 8) header → HoldsPlace image name place.0 → MatchOption (found_if_movable header place) ⊥ (IsFound image name)
slot_found {image} {name} place h read holds =
    let s = held_slot h holds in
    subst (λ x. MatchOption (found_if_movable x place) ⊥ (IsFound image name)) (sym (some_same (read ∙ slot_header h s)))
    record { live = s.live; chunk = movable s.live.bytes s.live.lock s.live.owner s.named; finds = s.finds; behind_header = s.behind_header; name_is = s.finds.named.0; count = refl; lock_is = refl; owner_is = refl }

pub slot_unread : {image : List ℕ} {name place : ℕ} → HeapAccepted image
    → None ≡ option_map header_of (chunk_at image (place - 8)) → HoldsPlace image name place → ⊥
slot_unread h read holds = let s = held_slot h holds in let e = read ∙ slot_header h s in absurd cc

-- ---- the movable chunk of a name

-- the slot of a movable chunk holds its place
own_holds : {image : List ℕ} {name at : ℕ} {live : LiveChunk} {bytes : List ℕ} {lock owner slot : ℕ} → HeapAccepted image → Finds image name live (movable bytes lock owner slot) at → HoldsPlace image name (at + 8)
own_holds {image} {name} {at} {bytes} {lock} {owner} {slot} h f =
    let here : BodyHere name (at + 8) (area_start image + total f.before) (movable bytes lock owner slot) = (f.named.0, omega arith) in
    let cs = subst (λ xs. IsHeap image xs) f.chunks (read_heap image h) in
    let k = (cs.tied name (at + 8) (omega arith)).1 (AnyPlaced-mid _ _ _ _ _ here) in
    record { is_slot = k.0; held = k.1; some = omega arith }

loose_holds : {image : List ℕ} {name : ℕ} {live : LiveChunk} (c : Chunk) {at : ℕ} → HeapAccepted image → live.lock ≢ fixed_lock → Finds image name live c at → HoldsPlace image name (at + 8)
loose_holds (free size) h loose f = absurd f.named
loose_holds (movable bytes lock owner slot) h loose f = own_holds h f
loose_holds (fixed bytes owner) {at} h loose f = absurd (loose (same_lock (sym (fixed_live_is at bytes owner f.named))))

-- its slot holds its place
pub movable_holds_place : (image : List ℕ) (name : ℕ) → HeapAccepted image → IsSome (held image name) → ((live : LiveChunk) → held image name ≡ Some live → live.lock ≢ fixed_lock) → HoldsPlace image name (u32_at image name)
movable_holds_place image name h some loose = by (held image name) refl some where
  by : (x : Option LiveChunk) → held image name ≡ x → IsSome x
      → HoldsPlace image name (u32_at image name)
  by None e here = absurd cc
  by (Some live) e here =
      let f = held_finds image name live h e in
      let holds = loose_holds f.chunk h (loose live e) f.finds in
      subst (λ p. HoldsPlace image name p) (sym holds.held) holds

pub slot_low : {image : List ℕ} {name place : ℕ} → HeapAccepted image → HoldsPlace image name place
    → 8 ≤ place
slot_low h holds = (held_slot h holds).behind_header

-- a live chunk stands at the place that a slot holds
pub slot_live : {image : List ℕ} {name place : ℕ} → HeapAccepted image
    → (holds : HoldsPlace image name place) → HasLive image (place - 8)
slot_live {name} h holds =
    let s = held_slot h holds in let live = finds_spelled _ name _ _ _ h s.finds in
    record { bytes = s.live.bytes; lock = s.live.lock; owner = s.live.owner; h_offset = live.0; is = live.1 }

-- what its fields say is the chunk of the slot
pub slot_fields : {image : List ℕ} (name : Name) {place : ℕ} (fields : LiveFields)
    → HeapAccepted image → HoldsPlace image name.0 place
    → ((bytes : List ℕ) (lock owner h_offset : ℕ) → IsLive image (place - 8) bytes lock owner h_offset → (fields.length ≡ length bytes) × (fields.lock ≡ lock) × (fields.owner ≡ owner))
    → IsFound image name.0 (record { name = name; place = placed place; length = fields.length; lock = fields.lock; owner = fields.owner })
slot_fields name fields h holds says =
    let s = held_slot h holds in let live = finds_spelled _ _ _ _ _ h s.finds in
    let are = says s.live.bytes s.live.lock s.live.owner live.0 live.1 in
    record { live = s.live; chunk = movable s.live.bytes s.live.lock s.live.owner s.named; finds = s.finds; behind_header = s.behind_header; name_is = refl; count = are.0; lock_is = are.1; owner_is = are.2 }

-- a header that stands there is the one that is read
pub header_read : {image : List ℕ} {at : ℕ} {header : Header} → HasHeader image at header
    → ReadsHeader image at header
header_read {at} h = ap (λ x. Some x) h.header_is ∙ sym (ap (option_map header_of) (chunk_at-spelled _ at _ h.spelled))

-- ---- what is not found

pub unheld : {image : List ℕ} (name : ℕ) (found : Option Found) → HeapAccepted image → HoldsNothing image name → IfNone found (NoneFixedAs image name (chunks_of image)) → IfNone found (held image name ≡ None)
unheld {image} name None h nothing none = none_held image name h nothing none
unheld name (Some found) h nothing none = tt

-- ---- at a place

-- what stands for nothing is nowhere
unplaced : (image : List ℕ) (name : ℕ) → held image name ≡ None → place_of image name ≡ None
unfolding held
unplaced image name e = live_placed (area_start image) (chunks_of image) name e

pub low_holds_none : {image : List ℕ} (place : ℕ) → HeapAccepted image → place < 8
    → NoSlotHolds image place
low_holds_none place h low name holds = let behind = (held_slot h holds).behind_header in absurd (omega arith)

-- the header in front of a place that a slot holds
slot_header_is : {image : List ℕ} {name place : ℕ} {header : Header} → HeapAccepted image
    → ReadsHeader image (place - 8) header → (holds : HoldsPlace image name place)
    → (s : InSlot image name place) × (header ≡ headers.Movable (length s.live.bytes) s.live.lock s.live.owner name)
slot_header_is h read holds =
    let s = held_slot h holds in
    (s, some_same (read ∙ slot_header h s) ∙ ap (λ n. headers.Movable (length s.live.bytes) s.live.lock s.live.owner n) s.finds.named.0)

-- no slot holds a place whose header is no movable chunk's
pub other_holds_none : {image : List ℕ} (place : Place) {header : Header} → HeapAccepted image → ReadsHeader image (place.0 - 8) header → found_if_movable header place ≡ None → NoSlotHolds image place.0
other_holds_none place h read none name holds =
    let b = slot_header_is h read holds in
    let is = ap (λ x. found_if_movable x place) (sym b.1) ∙ none in absurd cc

movable_name : (count lock owner slot : ℕ) (place : Place) {found : Found} → found_if_movable (headers.Movable count lock owner slot) place ≡ Some found → found.name.0 ≡ slot
movable_name count lock owner slot place e = ap (λ (x : Found). x.name.0) (sym (some_same e))

-- the slot that the header names holds another place
pub elsewhere_holds_none : {image : List ℕ} (place : Place) {found : Found} {header : Header} → HeapAccepted image → ReadsHeader image (place.0 - 8) header → found_if_movable header place ≡ Some found → (HoldsPlace image found.name.0 place.0 → ⊥) → NoSlotHolds image place.0
elsewhere_holds_none {image} place h read is not_held name holds =
    let b = slot_header_is h read holds in
    let named = movable_name _ _ _ name place (ap (λ x. found_if_movable x place) (sym b.1) ∙ is) in
    not_held (subst (λ n. HoldsPlace image n place.0) (sym named) holds)

-- it holds this place
pub slot_one : {image : List ℕ} (place : Place) {found : Found} {header : Header} → HeapAccepted image → ReadsHeader image (place.0 - 8) header → found_if_movable header place ≡ Some found → HoldsPlace image found.name.0 place.0 → IsOne image found
slot_one place h read is holds = rw is at (slot_found place h read holds)

pub movable_place : (header : Header) (place : Place) {found : Found}
    → found_if_movable header place ≡ Some found → found.place.0 ≡ place.0
movable_place (headers.Free size) place e = absurd cc
movable_place (headers.Movable count lock owner slot) place e = ap (λ x. x.place.0) (sym (some_same e))
movable_place (headers.Fixed count owner) place e = absurd cc

-- neither a slot nor a fixed chunk has the place
pub nothing_at : {image : List ℕ} (place : ℕ) → HeapAccepted image → NoSlotHolds image place
    → NoneFixedAs image place (chunks_of image) → NothingAt image place
nothing_at {image} place h slots none_fixed name at = none (held image name) refl where
  at_place : (live : LiveChunk) (c : Chunk) (there : ℕ) → Finds image name live c there
      → there + 8 ≡ place → ⊥
  at_place live (free size) there f e = f.named
  at_place live (movable bytes lock owner slot) there f e = slots name (rw e at (own_holds h f))
  at_place live (fixed bytes owner) there f e =
      let here : EveryPlaced (NotFixedAs place) (area_start image + total f.before) (fixed bytes owner ∷ f.after) =
      (EveryPlaced-split _ _ _ (fixed bytes owner ∷ f.after) (rw f.chunks at none_fixed)).1 in
      let named = rw (sym (fixed_name_is _ _ _ f.named) ∙ fixed_place _ ∙ e) at f.named in
      fixed_not (area_start image + total f.before) bytes owner (rw f.there at named) here.0

  none : (x : Option LiveChunk) → held image name ≡ x → ⊥
  none None e = let f = sym at ∙ unplaced image name e in absurd cc
  none (Some live) e =
      let found = held_finds image name live h e in
      at_place _ _ _ found.finds (some_same (sym (finds_place _ name live _ _ h found.finds) ∙ at))
