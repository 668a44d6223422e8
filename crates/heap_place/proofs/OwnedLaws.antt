-- The walk that makes an owner's chunks free.
use Rattle.heap_place.proofs.Words.{◌≡◌, ◌≢◌, ℕ, ◌+◌, ◌-◌, ◌<◌, ◌≤◌, Bool, true, false, cond, List, [], ◌∷◌, ◌++◌, length, Some, None, refl, sym, ap, subst, ◌∙◌, append_assoc, arith, inl, inr, eqb-true, eq-eqb, ◌==◌, IsTrue, Chunk, free, movable, fixed, size_of, total, is_owned_by, Memory, Lent, EachLent, LendsOther, LendsNoneOf, area_start, directory_of, HeapAccepted, EveryPlaced, LiveChunk, NamedHere, chunks_of, merged, layout_of, Becomes, Alters, freed, owned_freed, WritesPlain, cond-true, cond-false, total-append, SpelledAll-split, SpelledAll-end, plain_same, plain_then, EveryPlaced-push, fixed_live, fixed_has_name, read_heap, finds_held, IsNotFree, same_frame, frame_then, becomes_start, exchanges_parts, Header, header_of, size_by, HasHeader, Found, IsOne, owned_by, Passed, NoneOwned, NoneLentAmong, Freeing, HasChunk, some_same}
use Rattle.raw_region.specs.Marks.{BeginsAt}
use Rattle.laws_heap.proofs.OwnedChunks.{owned, counted_one, owned-merged, freed_if, owned_freed-append, owned_freed-merged, owned_freed-layout, owned_freed-none, not_directory}
use Rattle.heap_place.proofs.WalkLaws.{passed_start, passed_chunk, passed_at, passed_more, passed_all, passed_parts}
use Rattle.heap_place.proofs.LookupLaws.{placed}
use Rattle.heap_place.proofs.LentOwners.{owned_not_lent}

-- the header at an offset is that of an owner's chunk
abbrev pub FindsOwned : Header → ℕ → ℕ → Found → Type 0
FindsOwned header at owner found = owned_by header (placed (at + 8)) owner ≡ Some found

-- ---- an owner's chunk

-- what the header of an owner's chunk says of it
pub record OwnedAs (at owner : ℕ) (c : Chunk) (found : Found) : Type 0 where
  pub live : LiveChunk
  pub named : 0 < owner → NamedHere found.name.0 live at c
  pub is_live : IsNotFree c
  pub place : found.place.0 ≡ at + 8
  pub count : found.length ≡ length live.bytes
  pub lock_is : found.lock ≡ live.lock
  pub owner_is : found.owner ≡ live.owner
  pub own : found.owner ≡ owner
  pub is : is_owned_by owner c ≡ true

-- what the test of a chunk's owner says
own_test : (own owner : ℕ) (chunk found : Found)
    → cond (own == owner) (Some chunk) None ≡ Some found → (own ≡ owner) × (chunk ≡ found)
own_test own owner chunk found e = by_test (own == owner) refl e where
  by_test : (t : Bool) → (own == owner) ≡ t → cond t (Some chunk) None ≡ Some found
      → (own ≡ owner) × (chunk ≡ found)
  by_test true is s = (eqb-true own owner is, some_same s)
  by_test false is s = absurd cc

other_test : (t : Bool) (chunk : Found) → cond t (Some chunk) None ≡ None → t ≡ false
other_test true chunk s = absurd cc
other_test false chunk s = refl

pub owned_named : (at owner : ℕ) {header : Header} (c : Chunk) {found : Found}
    → header ≡ header_of c → FindsOwned header at owner found → OwnedAs at owner c found
owned_named at owner (free size) {found} e f = let g = rw e at f in absurd cc
owned_named at owner (movable bytes lock own slot) {found} e f =
    let t = own_test own _ _ _ (rw e at f) in
    subst (λ x. OwnedAs at owner (movable bytes lock own slot) x) t.1
    record { live = record { bytes = bytes; lock = lock; owner = own }; named = λ some. (refl, refl); is_live = tt; place = refl; count = refl; lock_is = refl; owner_is = sym t.0; own = refl; is = eq-eqb own owner t.0 }
owned_named at owner (fixed bytes own) {found} e f =
    let t = own_test own _ _ _ (rw e at f) in
    let named = λ (some : 0 < owner). fixed_has_name at bytes own (rw (← t.0) at some) in
    subst (λ x. OwnedAs at owner (fixed bytes own) x) t.1
    record { live = fixed_live bytes own; named = named; is_live = tt; place = refl; count = refl; lock_is = refl; owner_is = sym t.0; own = refl; is = eq-eqb own owner t.0 }

-- any other chunk is not the owner's
not_owned_named : (at owner : ℕ) (c : Chunk) → owned_by (header_of c) (placed (at + 8)) owner ≡ None
    → is_owned_by owner c ≡ false
not_owned_named at owner (free size) e = refl
not_owned_named at owner (movable bytes lock own slot) e = other_test _ _ e
not_owned_named at owner (fixed bytes own) e = other_test _ _ e

-- it is found where the walk has come to
abbrev pub owned_one : {image : List ℕ} (P : List Chunk → Type 0) {at : ℕ} (owner : ℕ) {header : Header} {found : Found} → HeapAccepted image → 0 < owner → Passed image P at → HasHeader image at header → FindsOwned header at owner found → IsOne image found
owned_one P {at} owner {found} h some p has is =
    let o = owned_named at owner has.chunk has.header_is is in let parts = passed_parts P h p has in
    let back : at ≡ found.place.0 - 8 = omega arith in record {
      live = o.live;
      chunk = has.chunk;
      finds = record { before = p.front; after = _; chunks = parts.1; there = sym back ∙ passed_at _ P at p; named = subst (λ n. NamedHere found.name.0 o.live n has.chunk) back (o.named some) };
      behind_header = omega arith;
      name_is = refl;
      count = o.count;
      lock_is = o.lock_is;
      owner_is = o.owner_is;
    }

-- and is not the directory
pub owned_apart : {image : List ℕ} {at : ℕ} (owner : ℕ) {header : Header} {found : Found} → HeapAccepted image → (f : IsOne image found) → HasHeader image at header → FindsOwned header at owner found → 0 < owner → found.name.0 ≢ directory_of image
owned_apart {image} {at} owner {found} h f has is some =
    let own = (owned_named at owner has.chunk has.header_is is).own in
    not_directory image found.name.0 f.live h (finds_held image _ f.live f.chunk _ h f.finds)
    (λ none. let z : f.live.owner ≡ 0 = none in omega arith)

-- nor lent, if no chunk of that owner is
pub owned_other : (m : Memory) {at : ℕ} (owner : ℕ) {header : Header} {found : Found} → LendsNoneOf m owner → (f : IsOne m.bytes found) → HasHeader m.bytes at header → FindsOwned header at owner found → LendsOther m found.place.0
owned_other m {at} owner none f has is = owned_not_lent m none f (owned_named at _ _ has.header_is is).own

-- ---- whether one is lent

lent_pushed : (m : Memory) {at : ℕ} (owner : ℕ) {header : Header} → Passed m.bytes (NoneLentAmong m owner) at → (has : HasHeader m.bytes at header) → (IsTrue (is_owned_by owner has.chunk) → LendsOther m (at + 8)) → Passed m.bytes (NoneLentAmong m owner) (at + size_by header)
lent_pushed m {at} owner p has other = passed_more _ _ _ at _ p has
    (EveryPlaced-push (λ k c. IsTrue (is_owned_by owner c) → LendsOther m (k + 8)) _ _ _ at (passed_at _ _ at p) p.holds other)

-- another owner's chunk is passed
pub lent_not_owned : (m : Memory) {at : ℕ} (owner : ℕ) {header : Header} → Passed m.bytes (NoneLentAmong m owner) at → HasHeader m.bytes at header → owned_by header (placed (at + 8)) owner ≡ None → Passed m.bytes (NoneLentAmong m owner) (at + size_by header)
lent_not_owned m {at} owner p has e = lent_pushed m owner p has (λ own.
    let isnt = not_owned_named at owner has.chunk (rw has.header_is at e) in
    absurd (let bad = sym own ∙ isnt in cc))

-- and one that isn't lent
pub lent_elsewhere : (m : Memory) {at : ℕ} (owner : ℕ) {header : Header} (found : Found) → Passed m.bytes (NoneLentAmong m owner) at → HasHeader m.bytes at header → found.place.0 ≡ at + 8 → LendsOther m found.place.0 → Passed m.bytes (NoneLentAmong m owner) (at + size_by header)
lent_elsewhere m owner found p has place other = lent_pushed m _ p has (λ own. rw place at other)

pub owned_place : {image : List ℕ} {at : ℕ} (owner : ℕ) {header : Header} {found : Found} → HasHeader image at header → FindsOwned header at owner found → (found.place.0 ≡ at + 8) × (found.owner ≡ owner)
owned_place {at} owner has is = let o = owned_named at _ _ has.header_is is in (o.place, o.own)

no_begin : (at : ℕ) (lents : List Lent) → (BeginsAt at lents → ⊥) → EachLent (λ l. l.at ≢ at) lents
no_begin at [] none = tt
no_begin at (l ∷ ls) none = ((λ e. none (inl e)), no_begin at ls (λ r. none (inr r)))

pub begins_other : (m : Memory) (place : ℕ) → (BeginsAt place m.lents → ⊥) → LendsOther m place
begins_other m place none = no_begin place m.lents none

none_by : (m : Memory) (owner start : ℕ) (before : List Chunk) (c : Chunk) (after : List Chunk) → EveryPlaced (λ k d. IsTrue (is_owned_by owner d) → LendsOther m (k + 8)) start (before ++ c ∷ after) → IsTrue (is_owned_by owner c) → LendsOther m (start + total before + 8)
none_by m owner start [] c after e own = rw (let z : start + 8 ≡ start + total [] + 8 = omega arith in z) at (e.0 own)
none_by m owner start (b ∷ bs) c after e own = rw (let z : start + size_of b + total bs + 8 ≡ start + total (b ∷ bs) + 8 = omega arith in z) at (none_by m owner (start + size_of b) bs c after e.1 own)

pub none_of_owner : (m : Memory) (owner : ℕ) {at : ℕ} → HeapAccepted m.bytes
    → Passed m.bytes (NoneLentAmong m owner) at → length m.bytes ≤ at → LendsNoneOf m owner
none_of_owner m owner {at} h p beyond = λ before chunk after e own.
    none_by m owner (area_start m.bytes) before chunk after (rw e at (passed_all m.bytes (NoneLentAmong m owner) at h p beyond)) own

-- ---- how many there are

-- where there are none, one chunk more that is not the owner's changes nothing
none_more : (owner : ℕ) (front : List Chunk) (c : Chunk) → NoneOwned owner front
    → is_owned_by owner c ≡ false → NoneOwned owner (front ++ c ∷ [])
none_more owner front c none not_own = counted_one _ front c [] ∙ (let one : cond {A = ℕ} (is_owned_by owner c) 1 0 ≡ 0 = cond-false (is_owned_by owner c) 1 0 not_own in let end : owned owner [] ≡ 0 = refl in let before : owned owner front ≡ 0 = none in omega arith)

-- ---- the walk

pub freeing_start : {image : List ℕ} (owner : ℕ) → HeapAccepted image
    → Freeing image image owner (area_start image) 0
freeing_start {image} owner h = record {
  frame = same_frame image h;
  same = sym (owned_freed-merged owner (chunks_of image));
  passed = passed_start image (NoneOwned owner) h refl;
  counted = let e = owned-merged owner (chunks_of image) in omega arith;
  few = omega arith;
  plain = plain_same image;
}

pub freeing_there : {old now : List ℕ} {owner at count : ℕ} → Freeing old now owner at count
    → at < length now → HasChunk now at
freeing_there f inside = passed_chunk f.frame.accepted f.passed inside

pub freeing_kept : {old now : List ℕ} {owner at count : ℕ} {header : Header} {size : ℕ} → Freeing old now owner at count → HasHeader now at header → owned_by header (placed (at + 8)) owner ≡ None → size ≡ size_by header → Freeing old now owner (at + size) count
freeing_kept {old} {now} {owner} {at} {count} {header} f has not_own is =
    let other = not_owned_named at owner has.chunk (rw has.header_is at not_own) in
    subst (λ n. Freeing old now owner (at + n) count) (sym is) record {
      frame = f.frame;
      same = f.same;
      passed = passed_more now (NoneOwned owner) (NoneOwned owner) at header f.passed has
          (none_more owner f.passed.front has.chunk f.passed.holds other);
      counted = f.counted;
      few = omega arith;
      plain = f.plain;
    }

-- one more was given back
pub freeing_more : {old now new : List ℕ} {owner at count : ℕ} (size : ℕ) {header : Header} {found : Found} → (f : Freeing old now owner at count) → (has : HasHeader now at header) → FindsOwned header at owner found → Alters now new (found.place.0 - 8) freed
    → chunks_of new ≡ f.passed.front ++ free size ∷ (passed_parts (NoneOwned owner) f.frame.accepted f.passed has).0 → WritesPlain now new → Freeing old new owner (at + size) (count + 1) × (at + size ≤ length now) × (8 ≤ size)
freeing_more {old} {now} {new} {owner} {at} size {found} f has is x exact p =
    let o = owned_named at owner has.chunk has.header_is is in
    let back : found.place.0 - 8 ≡ at = omega arith in
    let parts = passed_parts (NoneOwned owner) f.frame.accepted f.passed has in
    let there = passed_at now (NoneOwned owner) at f.passed in
    let front : List Chunk = f.passed.front in let after : List Chunk = parts.0 in
    let c : Chunk = has.chunk in let passed : List Chunk = front ++ free size ∷ [] in
    let b = (exchanges_parts now new at (λ chunk. freed chunk ∷ []) front c after f.frame.accepted o.is_live parts.1 there).0 (rw back at x) in
    let one : cond {A = ℕ} (is_owned_by owner c) 1 0 ≡ 1 = cond-true (is_owned_by owner c) 1 0 o.is in
    let before_is : owned owner (chunks_of now) ≡ owned owner front + (cond {A = ℕ} (is_owned_by owner c) 1 0 + owned owner after) = ap (owned owner) parts.1 ∙ counted_one owner front c after in
    let now_is : owned owner (chunks_of new) ≡ owned owner front + (0 + owned owner after) =
    ap (owned owner) exact ∙ counted_one owner front (free size) after in
    let start = becomes_start now new (front ++ freed c ∷ after) b in
    let sizes = total-append front (free size ∷ []) in
    let area = rw (exact ∙ sym (append_assoc front (free size ∷ []) after)) at (read_heap new b.frame.accepted).tiles.area in
    let s = SpelledAll-split new (area_start new) passed after (length new) area in
    let end = SpelledAll-end new (area_start new + total passed) after (length new) s.1 in
    let least = (SpelledAll-split new (area_start new) front (free size ∷ []) (area_start new + total passed) s.0).1.0.header_fits in
    let len = b.frame.len in
    let freed_c : freed_if owner c ≡ freed c = cond-true (is_owned_by owner c) (freed c) c o.is in
    let lists : owned_freed owner (front ++ freed c ∷ after) ≡ owned_freed owner (front ++ c ∷ after) = owned_freed-append owner front (freed c ∷ after) ∙ ap (λ d. owned_freed owner front ++ d ∷ owned_freed owner after) (sym freed_c) ∙ sym (owned_freed-append owner front (c ∷ after)) in (
      record {
        frame = frame_then old now new f.frame b.frame;
        same = owned_freed-layout owner (chunks_of new) (front ++ freed c ∷ after) b.layout
            ∙ ap merged lists ∙ sym (ap (λ cs. merged (owned_freed owner cs)) parts.1) ∙ f.same;
        passed = record {
          front = passed;
          spelled = rw (let e : area_start new + total passed ≡ at + size = omega arith in e) at s.0;
          inside = omega arith;
          holds = none_more owner front (free size) f.passed.holds refl;
        };
        counted = omega arith;
        few = omega arith;
        plain = plain_then old now new f.plain p;
      },
      omega arith,
      omega arith,
    )

pub freeing_all : {old now : List ℕ} {owner at count : ℕ} → Freeing old now owner at count → length now ≤ at → Becomes old now (owned_freed owner (layout_of old)) × (count ≡ owned owner (layout_of old)) × WritesPlain old now
freeing_all {now} {owner} {at} f beyond =
    let none = passed_all now (NoneOwned owner) at f.frame.accepted f.passed beyond in
    (record { frame = f.frame; layout = ap merged (sym (owned_freed-none owner (chunks_of now) none)) ∙ f.same }, omega arith, f.plain)
