-- A chunk that moves to room elsewhere keeps its bytes and its name, step by step.
use Rattle.heap_compact.proofs.Words.{◌≡◌, ◌≢◌, ℕ, ◌+◌, ◌-◌, ◌%◌, ◌^◌, ◌<◌, ◌≤◌, List, [], ◌∷◌, ◌++◌, length, take, drop, replicate, Bool, Option, Some, None, refl, sym, ap, subst, ◌∙◌, arith, inl, inr, length-replicate, take_all, take-take, drop-replicate, cases_lt, OnTrue_at, OnTrue_from, OnTrue, slice_range, min, u32_at, u32_bytes, sized_to, Chunk, free, movable, fixed, fixed_lock, need, size_of, Spelled, data_owner, total, IsSlot, TablesLie, HeapAccepted, LiveChunk, chunks_of, held, NoRun, place_of, Finds, Becomes, Alters, freed, with_bytes, IsSpot, Claims, WritesPlain, with_length, Relocates, HasHeader, live_words, h_offset_to, Found, IsOne, stand_in, KeepsFound, Copies, with_name, RelocatesToRun, Any, KeepsFree, ChangesName, claims_change, spot_unheld, spot_is_run, length-sized_to, relocates, slot_unheld, Spelled-size, Spelled-same, plain-callers, plain-movable, u32_at-written, length-overwritten, slot_facts, named_hold_none, slot_beside, wrote_wider, wrote_word, WroteArea, area_replaces, area_slots, beside_same, table_kept, becomes_heap, slot_kept, lives_plain, replaced_plain, heap_in_parts, middle_of, found_inside, own_slot, one_held, when_movable, keeps_replaced, live_apart, header_movable, wrote_words}
use Rattle.heap_model.specs.Bytes.{overwritten}
use Rattle.std.proofs.lemmas.List.{length-take}
use Rattle.laws_heap.proofs.FoundChunks.{held_finds, finds_spelled, finds_body}
use Rattle.laws_heap.proofs.AlteredChunks.{finds_place, body_stays}
use Rattle.laws_heap.proofs.FixedNames.{fixed_name, fixed_live, fixed_has_name, fixed_live_is, fixed_owned}
use Rattle.laws_heap.proofs.ExchangedNames.{bytes_changes, freed_changes}
use Rattle.laws_heap.proofs.FreeChunks.{OtherSlots, claimed}
use Rattle.chunk_format.specs.declared.header.Header.TheVariants as headers
use Rattle.heap_place.proofs.WithinLaws.{keeps_body}
use Rattle.heap_place.proofs.AlterLaws.{changed_there, written_there}

-- ---- what is held is found

pub found_held : (image : List ℕ) (found : Found) (live : LiveChunk) → HeapAccepted image → held image found.name.0 ≡ Some live → place_of image found.name.0 ≡ Some found.place.0 → found.length ≡ length live.bytes → found.lock ≡ live.lock → found.owner ≡ live.owner → IsOne image found
found_held image found live h is there count lock owner =
    let k = held_finds _ found.name.0 live h is in
    let place : found.place.0 ≡ k.at + 8 = same _ _ (sym there ∙ finds_place _ _ _ _ _ h k.finds) in
    let at : k.at ≡ found.place.0 - 8 = omega arith in record {
      live = live;
      chunk = k.chunk;
      finds = subst (λ (n : ℕ). Finds image found.name.0 live k.chunk n) at k.finds;
      behind_header = omega arith;
      name_is = refl;
      count = count;
      lock_is = lock;
      owner_is = owner;
    } where
      same : (m n : ℕ) → Some m ≡ Some n → m ≡ n
      same m n e = cc

pub one_placed : (image : List ℕ) (found : Found) → HeapAccepted image → IsOne image found
    → place_of image found.name.0 ≡ Some found.place.0
one_placed image found h f =
    let there : found.place.0 - 8 + 8 ≡ found.place.0 = omega arith in
    finds_place _ _ _ _ _ h f.finds ∙ ap some_place there where
      some_place : ℕ → Option ℕ
      some_place n = Some n

-- where another name alone changes it is found as before
pub found_kept : {old new : List ℕ} {name : ℕ} {now : Option LiveChunk} {there : Option ℕ} (found : Found) → HeapAccepted old → ChangesName old new name now there → found.name.0 ≢ name → IsOne old found → IsOne new found
found_kept found h ch apart f =
    found_held _ _ _ ch.frame.accepted (ch.others found.name.0 apart ∙ one_held _ _ h f)
    (ch.places found.name.0 apart ∙ one_placed _ _ h f) f.count f.lock_is f.owner_is

-- ---- the stand-in

abbrev pub zeros_live : ℕ → LiveChunk
zeros_live count = fixed_live (replicate count 0) 1

pub stand_changes : {old : List ℕ} (new : List ℕ) {at size : ℕ} (count : ℕ) → HeapAccepted old → IsSpot old at size → need count ≤ size → Claims old new at size (fixed (replicate count 0) 1) → ChangesName old new (fixed_name at) (Some (zeros_live count)) (Some (at + 8))
stand_changes new {at} count h r fits x =
    let many : length (replicate {A = ℕ} count 0) ≡ count = length-replicate count 0 in
    claims_change _ _ _ _ _ _ _ h (omega arith) r (spot_unheld _ _ _ h (omega arith) r) x (omega arith) (fixed_has_name at _ 1 (omega arith))

pub stands_there : {old : List ℕ} (new : List ℕ) {at size : ℕ} (count : ℕ) → HeapAccepted old → IsSpot old at size → need count ≤ size → Claims old new at size (fixed (replicate count 0) 1) → IsOne new (stand_in at count)
stands_there new count h r fits x =
    let ch = stand_changes _ count h r fits x in
    found_held _ _ _ ch.frame.accepted ch.here ch.place (sym (length-replicate count 0)) refl refl

-- nothing else has its name
pub stand_apart : {old : List ℕ} {at size : ℕ} (count : ℕ) (found : Found) → HeapAccepted old
    → IsSpot old at size → need count ≤ size → IsOne old found → found.name.0 ≢ fixed_name at
stand_apart {old} count found h r fits f e =
    let none = spot_unheld _ _ _ h (omega arith) r in
    absurd (no f.live (sym (one_held _ found h f) ∙ ap (held old) e ∙ none)) where
      no : (live : LiveChunk) → Some live ≡ None → ⊥
      no live x = absurd cc

pub stand_keeps : {old : List ℕ} (new : List ℕ) {at size : ℕ} (count : ℕ) → HeapAccepted old → IsSpot old at size → need count ≤ size → Claims old new at size (fixed (replicate count 0) 1) → KeepsFound old new
stand_keeps new count h r fits x found f = found_kept _ h (stand_changes _ _ h r fits x) (stand_apart _ _ h r fits f) f

-- ---- a fixed chunk gets the name of a slot

pub named_write : {old mid new : List ℕ} {at name : ℕ} {live : LiveChunk} {bytes : List ℕ} {holder owner slot : ℕ} → HeapAccepted old → (f : Finds old name live (fixed bytes holder) at) → IsSlot old slot → u32_at old slot ≡ 0
    → mid ≡ overwritten old at (live_words (length bytes) 0 owner (h_offset_to at slot)) → HasHeader mid at (headers.Movable (length bytes) 0 owner slot) → new ≡ overwritten mid slot (u32_bytes (at + 8))
    → Becomes old new (f.before ++ movable bytes 0 owner slot ∷ f.after) × WritesPlain old new × KeepsFree Any old new
named_write {old} {mid} {new} {at} {name} {live} {bytes} {holder} {owner} {slot} h f s empty mid_is header new_is =
    let c : Chunk = fixed bytes holder in let d : Chunk = movable bytes 0 owner slot in
    let heap = heap_in_parts _ _ h f.chunks in
    let m = middle_of _ f.before (c ∷ []) f.after _ heap f.there in let inside = m.inside in
    let slot_inside = (slot_facts _ _ _ h.1.tiles s).inside in
    let none = named_hold_none _ f.before c [] f.after name live heap (rw f.there at f.named) tt in
    let beside = slot_beside _ f.before (c ∷ []) f.after _ _ heap.tiles none f.there s in
    let first = wrote_words old _ at (length bytes) 0 owner (h_offset_to at slot) (omega arith) mid_is in
    let len = first.len in let word = wrote_word mid _ slot (at + 8) new_is (omega arith) in
    let was : Spelled old at c = finds_spelled _ _ _ _ _ h f in
    let k = header_movable (length bytes) 0 owner slot header.chunk header.header_is in
    let now : Spelled mid at (movable k.0 0 owner slot) = rw k.1.0 at header.spelled in
    let same = body_stays _ _ _ _ _ _ _ _ _ _ _ (plain-callers fixed_lock holder (fixed_owned at bytes holder f.named)) (plain-movable 0 owner now.2) was now.1 k.1.1 first in
    let spelled_mid : Spelled mid at d = rw same at now in
    let spelled = Spelled-same mid new at d (beside_same _ _ _ at (at + (need (length bytes) + 0)) at (at + need (length bytes)) word beside (omega arith) (omega arith) (omega arith)) word.len spelled_mid in
    let all = wrote_wider _ _ _ _ at (at + (need (length bytes) + 0)) first (omega arith) (omega arith) in
    let area : WroteArea old new at (at + (need (length bytes) + 0)) = record { mid = mid; slot = slot; area = all; word = word; is_slot = inr s; there = omega arith; fits = omega arith } in
    let replaces = area_replaces _ _ f.before (c ∷ []) (d ∷ []) f.after _ heap.tiles none f.there m.inside area (spelled, omega arith) in
    let holds = ap (λ x. u32_at x slot) new_is ∙ u32_at-written (at + 8) slot mid (omega arith) (omega arith) in
    let others : OtherSlots old new slot = record { same = λ t ts ne. area_slots _ _ f.before (c ∷ []) f.after _ _ heap.tiles none f.there area ts (λ e. ne (sym e)) } in
    let done = claimed _ _ _ _ _ _ _ _ _ tt heap replaces s empty holds others in (
      becomes_heap _ _ _ replaces.head done,
      replaced_plain _ _ _ _ _ _ _ f.chunks done replaces (lives_plain new at (d ∷ []) refl),
      λ other any b. keeps_replaced _ _ _ _ _ _ _ h f.chunks done replaces other (live_apart at other c (λ size e. absurd cc)) b,
    )

-- by what was found
pub named_there : {old mid new : List ℕ} (there : Found) {owner slot : ℕ} → HeapAccepted old
    → IsOne old there → there.lock ≡ fixed_lock → IsSlot old slot → u32_at old slot ≡ 0
    → mid ≡ overwritten old (there.place.0 - 8) (live_words there.length 0 owner (h_offset_to (there.place.0 - 8) slot)) → HasHeader mid (there.place.0 - 8) (headers.Movable there.length 0 owner slot) → new ≡ overwritten mid slot (u32_bytes there.place.0)
    → Alters old new (there.place.0 - 8) (with_name owner slot) × WritesPlain old new × KeepsFree Any old new
named_there {old} {mid} {new} there {owner} {slot} h one is_fixed s empty mid_is header new_is =
    let done = by_chunk one.live one.chunk one.finds one.count one.lock_is in
    (changed_there _ _ there (with_name owner slot) h one done.0, done.1, done.2) where
      at : ℕ
      at = there.place.0 - 8

      by_chunk : (live : LiveChunk) (c : Chunk) (f : Finds old there.name.0 live c at) → there.length ≡ length live.bytes → there.lock ≡ live.lock → Becomes old new (f.before ++ with_name owner slot c ∷ f.after) × WritesPlain old new × KeepsFree Any old new
      by_chunk live (free size) f count lock_is = absurd f.named
      by_chunk live (movable bytes lock holder named) f count lock_is =
          let s : Spelled old at (movable bytes lock holder named) = finds_spelled _ _ _ _ _ h f in
          let fits = s.2 in let e : lock ≡ live.lock = ap (λ (x : LiveChunk). x.lock) f.named.1 in
          absurd (omega (arith, is_fixed, lock_is))
      by_chunk live (fixed bytes holder) f count lock_is =
          let same = count ∙ ap (λ x. length x.bytes) (sym (fixed_live_is at _ _ f.named)) in
          let body : there.place.0 ≡ at + 8 = omega arith in
          named_write h f s empty (mid_is ∙ ap (λ n. overwritten old at (live_words n 0 owner (h_offset_to at slot))) same)
          (rw same at header) (new_is ∙ ap (λ (n : ℕ). overwritten mid slot (u32_bytes n)) body)

-- its header and the slot can be written
pub named_writable : {image : List ℕ} (there : Found) {slot : ℕ} → HeapAccepted image → IsOne image there → IsSlot image slot → (need there.length < 2 ^ 24) × (slot < 2 ^ 24) × (slot % 2 ≡ (there.place.0 - 8) % 2)
named_writable there h one s =
    let inside = found_inside _ there h one in
    let m = middle_of _ one.finds.before (one.chunk ∷ []) one.finds.after _ (heap_in_parts _ _ h one.finds.chunks) one.finds.there in
    let whole = m.start_whole in let facts = slot_facts _ _ _ h.1.tiles s in
    let slot_inside = facts.inside in let four = facts.whole in
    (omega arith, omega arith, omega arith)

-- the header leaves the table where it is
pub header_table : {old mid : List ℕ} (there : Found) (owner : ℕ) {slot : ℕ} → HeapAccepted old → IsOne old there → IsSlot old slot → mid ≡ overwritten old (there.place.0 - 8) (live_words there.length 0 owner (h_offset_to (there.place.0 - 8) slot)) → TablesLie mid × IsSlot mid slot
header_table {old} {mid} there owner {slot} h one s mid_is =
    let inside = found_inside _ there h one in let f = one.finds in
    let at : ℕ = there.place.0 - 8 in let heap = heap_in_parts _ _ h f.chunks in
    let none = named_hold_none _ f.before one.chunk [] f.after there.name.0 one.live heap (rw f.there at f.named) tt in
    let least = (Spelled-size old at one.chunk (finds_spelled _ _ _ _ _ h f)).0 in
    let w = wrote_words old _ at there.length 0 owner (h_offset_to at slot) inside mid_is in
    table_kept _ mid f.before (one.chunk ∷ []) f.after _ _ heap.tiles none f.there
    (wrote_wider _ _ _ _ at (at + total (one.chunk ∷ [])) w (omega arith) (omega arith)) s

-- ---- bytes are copied

found_bytes : {image : List ℕ} (found : Found) → HeapAccepted image → (f : IsOne image found)
    → slice_range image found.place.0 (found.place.0 + found.length) ≡ f.live.bytes
found_bytes {image} found h f =
    let body : found.place.0 - 8 + 8 ≡ found.place.0 = omega arith in
    ap (λ n. slice_range image found.place.0 (found.place.0 + n)) f.count ∙ ap (λ n. slice_range image n (n + length f.live.bytes)) (sym body) ∙ (finds_body _ _ _ _ _ h f.finds).bytes

-- the first of them
first_bytes : (image : List ℕ) {bytes : List ℕ} (at : ℕ) {all n : ℕ} (most : ℕ) → slice_range image at (at + all) ≡ bytes → length bytes ≡ all → n ≡ min all most → slice_range image at (at + n) ≡ take most bytes
first_bytes image {bytes} at {all} {n} most e len is =
    let some : at + n - at ≡ n = omega arith in let whole : at + all - at ≡ all = omega arith in
    let read = ap (λ k. take k (drop at image)) (sym whole) ∙ e in
    let fewer : n ≤ all = omega arith in
    ap (λ k. take k (drop at image)) some ∙ sym (take-take n all _ fewer) ∙ ap (take n) read ∙ elim (cases_lt most all) [
      | inl less ↦ ap (λ (k : ℕ). take k bytes) (omega arith)
      | inr more ↦ take_all n bytes (omega arith) ∙ sym (take_all most bytes (omega arith))
    ]

pub taken_fits : (most : ℕ) (bytes : List ℕ) → length (take most bytes) ≤ most
taken_fits most bytes = let e = length-take most bytes in omega arith

copy_changes : {old : List ℕ} (new : List ℕ) (to : Found) (part : List ℕ) → HeapAccepted old → (one : IsOne old to) → length part ≤ to.length → Alters old new (to.place.0 - 8) (with_bytes 0 part)
    → ChangesName old new to.name.0 (Some (record one.live { bytes = overwritten one.live.bytes 0 part })) (Some to.place.0)
copy_changes new to part h one fits x = let count = one.count in bytes_changes _ new _ _ 0 part _ _ h one.behind_header one.finds (omega arith) x

-- what a copy of the bytes of one chunk to another makes
pub record CopiedTo (old new : List ℕ) (to : Found) (part : List ℕ) : Type 0 where
  pub made : Alters old new (to.place.0 - 8) (with_bytes 0 part)
  pub plain : WritesPlain old new
  pub keeps : KeepsFree Any old new
  pub stands : IsOne new to
  pub others : (other : Found) → other.name.0 ≢ to.name.0 → IsOne old other → IsOne new other

pub copied_there : {old new : List ℕ} (from to : Found) {n : ℕ} → HeapAccepted old → (f : IsOne old from) → IsOne old to → n ≡ min from.length to.length → new ≡ overwritten old to.place.0 (slice_range old from.place.0 (from.place.0 + n))
    → CopiedTo old new to (take to.length f.live.bytes)
copied_there {old} {new} from to h f one is new_is =
    let part : List ℕ = take to.length f.live.bytes in
    let first = first_bytes old from.place.0 to.length (found_bytes from h f) (sym f.count) is in
    let few : length part ≤ to.length = taken_fits to.length f.live.bytes in
    let start : to.place.0 ≡ to.place.0 + 0 = omega arith in
    let whole = new_is ∙ ap (overwritten old to.place.0) first ∙ ap (λ k. overwritten old k part) start in
    let there = written_there _ _ to 0 part h one (omega (arith, few)) whole in
    let ch = copy_changes new to part h one few there.0 in record {
      made = there.0;
      plain = there.1;
      keeps = keeps_body _ _ to 0 part h one (omega (arith, few)) whole;
      stands = found_held _ to _ ch.frame.accepted ch.here ch.place (one.count ∙ sym (length-overwritten _ 0 part (omega (arith, few, one.count)))) one.lock_is one.owner_is;
      others = λ other apart g. found_kept other h ch apart g;
    }

-- ---- all steps

-- zeros with the first bytes written over them
padded : (count : ℕ) (bytes : List ℕ)
    → overwritten (replicate count 0) 0 (take count bytes) ≡ sized_to bytes count
unfolding overwritten
padded count bytes =
    let many = length-take count bytes in
    let left : count - (0 + length (take count bytes)) ≡ count - length bytes = omega arith in
    ap (λ (xs : List ℕ). take count bytes ++ xs) (rest _ _ left) where
      rest : (k n : ℕ) → count - k ≡ n → drop k (replicate {A = ℕ} count 0) ≡ replicate n 0
      rest k n e = drop-replicate k count 0 ∙ ap (λ (m : ℕ). replicate m 0) e

-- what is found under a name twice is the same
same_found : {old new : List ℕ} (found : Found) → HeapAccepted old → HeapAccepted new → held new found.name.0 ≡ held old found.name.0 → (f : IsOne old found) (g : IsOne new found) → g.live ≡ f.live
same_found found h k e f g = same _ _ (sym (one_held _ _ k g) ∙ e ∙ one_held _ _ h f) where
  same : (x y : LiveChunk) → Some y ≡ Some x → y ≡ x
  same x y e = cc

pub relocated_found : {s0 : List ℕ} (s1 s2 s3 s4 : List ℕ) (found : Found) {there : Found} {at size : ℕ} (count : ℕ) → HeapAccepted s0 → (f : IsOne s0 found) → found.lock ≡ 0 → IsSpot s0 at size → need count ≤ size → there ≡ stand_in at count → Claims s0 s1 at size (fixed (replicate count 0) 1) → KeepsFound s0 s1 → Copies s1 s2 found there
    → Alters s2 s3 (found.place.0 - 8) freed → Alters s3 s4 (there.place.0 - 8) (with_name found.owner found.name.0) → Relocates s0 s4 (found.place.0 - 8) at size (with_length count f.chunk)
relocated_found {s0} s1 s2 s3 s4 found {there} {at} {size} count h f unlocked r fits is made keeps copied gone named = when_movable _ _ _ f (λ c g. Relocates s0 s4 (found.place.0 - 8) at size (with_length count c)) (λ e. omega arith) of_movable where
  first : ChangesName s0 s1 (at + 8) (Some (zeros_live count)) (Some (at + 8))
  first = stand_changes _ count h r fits made

  again : IsOne s1 found
  again = keeps found f

  place : there.place.0 - 8 ≡ at
  place = let e = ap (λ (x : Found). x.place.0) is in omega arith

  taken : there.length ≡ count
  taken = ap (λ (x : Found). x.length) is

  part_is : again.live ≡ f.live
  part_is = same_found _ h first.frame.accepted (first.others found.name.0 (stand_apart _ _ h r fits f)) f again

  of_movable : (bytes : List ℕ) (lock owner slot : ℕ) (g : Finds s0 found.name.0 f.live (movable bytes lock owner slot) (found.place.0 - 8)) → Relocates s0 s4 (found.place.0 - 8) at size (movable (sized_to bytes count) lock owner slot)
  of_movable bytes lock owner slot g =
      let zeros : List ℕ = replicate count 0 in let part : List ℕ = take count again.live.bytes in
      let d : Chunk = movable (sized_to bytes count) lock owner slot in
      let many : length (replicate {A = ℕ} count 0) ≡ count = length-replicate count 0 in
      let sized : length (sized_to bytes count) ≡ count = length-sized_to bytes count in
      let bytes_are = ap (λ x. x.bytes) (part_is ∙ sym g.named.1) in
      let padded_are = ap (λ x. overwritten zeros 0 (take count x)) bytes_are ∙ padded _ _ in
      let lock_zero = sym unlocked ∙ f.lock_is ∙ ap (λ x. x.lock) (sym g.named.1) in
      let owner_same = f.owner_is ∙ ap (λ x. x.owner) (sym g.named.1) in
      let d_takes : size_of d ≡ need count = ap need sized in
      let f_takes : size_of (fixed zeros 1) ≡ need count = ap need many in
      let e_takes = ap (λ x. need (length x)) padded_are ∙ d_takes in
      relocates _ _ s2 s3 s4 _ _ _ _ _ lock _ slot _ _ _ _ _ _ h g.chunks g.there (omega arith)
      (omega arith) tt tt (f_takes ∙ sym d_takes) (e_takes ∙ sym d_takes) refl
      (ap (λ x. movable x 0 found.owner found.name.0) padded_are ∙ ap (λ n. movable (sized_to bytes count) n found.owner found.name.0) lock_zero ∙ ap (λ n. movable (sized_to bytes count) lock n found.name.0) owner_same ∙ ap (λ n. movable (sized_to bytes count) lock owner n) (sym g.named.0))
      made (rw place at (rw taken at (copied again))) gone (rw place at named)

-- once the chunk is free its slot is empty, and the stand-in is still there
pub slot_emptied : {old : List ℕ} (new : List ℕ) (found : Found) → HeapAccepted old → IsOne old found → found.lock ≡ 0 → Alters old new (found.place.0 - 8) freed → IsSlot new found.name.0 × (u32_at new found.name.0 ≡ 0)
slot_emptied {old} new found h f unlocked x =
    let ch = freed_changes _ new _ _ _ _ h f.finds x in
    let was : IsSlot old found.name.0 =
    when_movable _ _ _ f (λ c g. IsSlot old found.name.0) (λ e. omega arith)
    (λ bytes lock owner slot g. rw g.named.0 at (own_slot _ _ _ _ _ _ _ _ h g)) in
    let s : IsSlot new found.name.0 = slot_kept _ _ _ _ x was in
    (s, (slot_unheld _ _ x.frame.accepted s).1 ch.here)

pub freed_keeps : {old : List ℕ} (new : List ℕ) (found other : Found) → HeapAccepted old → (f : IsOne old found) → Alters old new (found.place.0 - 8) freed → other.name.0 ≢ found.name.0 → IsOne old other → IsOne new other
freed_keeps new found other h f x apart g = found_kept _ h (freed_changes _ new _ _ _ _ h f.finds x) apart g

pub owner_fits : {image : List ℕ} (found : Found) → HeapAccepted image → IsOne image found
    → found.owner ≤ data_owner
owner_fits {image} found h f = by_chunk f.live f.chunk f.finds f.owner_is where
  by_chunk : (live : LiveChunk) (c : Chunk) (g : Finds image found.name.0 live c (found.place.0 - 8)) → found.owner ≡ live.owner → found.owner ≤ data_owner
  by_chunk live (free n) g is = absurd g.named
  by_chunk live (movable bytes lock owner slot) g is =
      let s = finds_spelled _ _ _ _ _ h g in let fits : owner < 16 = s.1.owner_fits in
      let same : owner ≡ live.owner = ap (λ (x : LiveChunk). x.owner) g.named.1 in
      omega arith
  by_chunk live (fixed bytes owner) g is =
      let s : Spelled image (found.place.0 - 8) (fixed bytes owner) = finds_spelled _ _ _ _ _ h g in
      let fits : owner < 16 = s.owner_fits in
      let same = ap (λ (x : LiveChunk). x.owner) (fixed_live_is _ _ _ g.named) in omega arith

-- ---- a run that had the room

pub had_run : (old new : List ℕ) (found : Found) (count : ℕ) (told : Bool) → OnTrue told (RelocatesToRun old new found count) → OnTrue told (NoRun (chunks_of old) (need count) → ⊥)
had_run old new found count told h = OnTrue_from told _ (λ e none. let r = OnTrue_at e h in spot_is_run _ _ _ _ r.room r.enough none)
