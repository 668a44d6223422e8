-- A name's chunk has its new length after it grew in place, moved, or its stretch was packed.
use Rattle.heap_compact.proofs.Words.{◌≡◌, ℕ, ◌+◌, ◌-◌, ◌<◌, ◌≤◌, List, ◌∷◌, ◌++◌, length, Bool, true, false, Option, Some, refl, sym, ap, subst, ◌∙◌, arith, inl, inr, cases_eq, OnTrue_at, ◌==◌, if◌then◌else◌, IsSome, IsTrue, ◌↔◌, OnTrue, OnFalse, sized_to, Chunk, movable, need, size_of, HeapAccepted, LiveChunk, chunks_of, held, changed, NoRun, ShortFor, Short, FitsInPlace, MovesAlone, MovesOneStretchAnd, free_front, room_of, IsSpot, SlidesOneStretch, OpensBehind, with_length, GrowsInPlace, Relocates, Found, Stretch, IsFound, IsOne, RelocatesFound, RelocatesToRun, TellsWhetherInPlace, IsLoose, Resized, FitsInStretch, frame_then, ChangesName, live_sized, grow_changes, finds_behind, opened_behind, relocate_changes, spot_not_short_for, slides_alike, slides_move_one, opens_one, short_for_parts, room_of-middle, name_held, found_inside, middle_of, heap_in_parts, one_held, when_movable, free_within, IsFoundAmong, HasRoomOf}
use Rattle.laws_heap.proofs.ChangedName.{held_updated}

-- what was found is the chunk of its own name
pub one_of : {image : List ℕ} {name : ℕ} {found : Found} → IsFound image name found
    → IsOne image found
one_of {image} {found} f = subst (λ (n : ℕ). IsFound image n found) (sym f.name_is) f

same_live : {x y : LiveChunk} → Some x ≡ Some y → x ≡ y
same_live e = cc

-- a chunk without locks is loose, and a loose one has none
pub is_loose : {image : List ℕ} (found : Found) → HeapAccepted image → IsOne image found
    → found.lock ≡ 0 → IsLoose image found.name.0
is_loose found h f none = record { live = f.live; is_held = one_held _ _ h f; unlocked = sym f.lock_is ∙ none }

pub loose_there : {image : List ℕ} {name : ℕ} → IsLoose image name → IsSome (held image name)
loose_there l = subst (λ (x : Option LiveChunk). IsSome x) (sym l.is_held) refl

pub loose_lock : {image : List ℕ} {name : ℕ} {found : Found} → HeapAccepted image
    → IsLoose image name → IsFound image name found → found.lock ≡ 0
loose_lock h l f = f.lock_is ∙ ap (λ x. x.lock) (same_live (sym (name_held _ _ _ h f) ∙ l.is_held)) ∙ l.unlocked

-- ---- one name has changed

pub changed_resized : {old new : List ℕ} {name : ℕ} (count : ℕ) (live : LiveChunk) {there : Option ℕ} → held old name ≡ Some live → live.lock ≡ 0 → ChangesName old new name (Some (live_sized count live)) there → Resized old new name count
changed_resized {old} {name} count live e unlocked ch = record {
  frame = ch.frame;
  map = λ other. held_updated _ _ _ _ _ ch other ∙ ap (λ x. if other == name then x else held old other) (ap (changed (λ x. record x { bytes = sized_to x.bytes count })) (sym e));
  still = λ n other is locked some. elim (cases_eq n name) [
    | inl same ↦ let lock = ap (λ x. x.lock) (same_live (sym is ∙ ap (held old) same ∙ e)) ∙ unlocked in absurd (omega arith)
    | inr apart ↦ ch.places n apart
  ];
}

-- and no other chunk has moved
pub ChangedAlone : List ℕ → List ℕ → ℕ → ℕ → Type 0
ChangedAlone old new name count = Resized old new name count × MovesAlone old new name

changed_alone : {old new : List ℕ} {name : ℕ} (count : ℕ) (live : LiveChunk) {there : Option ℕ} → held old name ≡ Some live → live.lock ≡ 0 → ChangesName old new name (Some (live_sized count live)) there → ChangedAlone old new name count
unfolding ChangedAlone
changed_alone count live e unlocked ch = (changed_resized count live e unlocked ch, λ other apart was is. ch.places other apart)

pub grown_resized : {old : List ℕ} (new : List ℕ) (found : Found) (count : ℕ) (told : Bool) → HeapAccepted old → IsOne old found → found.lock ≡ 0 → FitsInPlace old found.name.0 (need count) → TellsWhetherInPlace old found (need count) told → OnTrue told (GrowsInPlace old new (found.place.0 - 8) count)
    → ChangedAlone old new found.name.0 count
grown_resized {old} new found count told h f unlocked fits tells grows =
    let enough = fits f.live (one_held _ found h f) in
    when_movable _ _ _ f (λ c g. (IsTrue told ↔ (need count ≤ size_of c + free_front g.after)) → ChangedAlone old new found.name.0 count) (λ e. omega arith)
    (λ bytes lock owner slot g tell.
    let behind = finds_behind _ _ _ _ _ _ _ _ h g in
    let same = ap (λ (x : LiveChunk). need (length x.bytes)) (sym g.named.1) in
    let reaches : need count ≤ need (length bytes) + free_front g.after = omega arith in
    changed_alone count f.live (one_held _ found h f) (sym f.lock_is ∙ unlocked)
    (grow_changes _ new _ found.place.0 count _ _ h f.behind_header g reaches (OnTrue_at (tell.1 reaches) grows)))
    (tells f)

relocated_resized : {old : List ℕ} (new : List ℕ) (found : Found) {at size : ℕ} (count : ℕ) → HeapAccepted old → IsOne old found → found.lock ≡ 0 → IsSpot old at size → need count ≤ size → RelocatesFound old new found at size count → ChangedAlone old new found.name.0 count
relocated_resized {old} new found {at} {size} count h f unlocked r fits moved =
    when_movable _ _ _ f (λ c g. Relocates old new (found.place.0 - 8) at size (with_length count c) → ChangedAlone old new found.name.0 count) (λ e. omega arith)
    (λ bytes lock owner slot g x. changed_alone _ _ (one_held _ _ h f) (sym f.lock_is ∙ unlocked)
    (relocate_changes _ new _ _ _ _ count _ _ _ _ _ h g r fits x))
    (moved f)

-- of room that has the size, where there is any
pub run_resized : {old new : List ℕ} {found : Found} {count : ℕ} → HeapAccepted old → IsOne old found → found.lock ≡ 0 → RelocatesToRun old new found count → ChangedAlone old new found.name.0 count
run_resized {new} {found} {count} h f unlocked r = relocated_resized new found count h f unlocked r.room r.enough r.moved

pub moved_resized : {old : List ℕ} (new : List ℕ) (found : Found) (count : ℕ) (told : Bool) → HeapAccepted old → IsOne old found → found.lock ≡ 0 → (NoRun (chunks_of old) (need count) → ⊥) → OnFalse told (NoRun (chunks_of old) (need count)) → OnTrue told (RelocatesToRun old new found count)
    → ChangedAlone old new found.name.0 count
moved_resized new found count true h f unlocked has none moved = run_resized h f unlocked moved
moved_resized new found count false h f unlocked has none moved = absurd (has none)

pub run_not_short : {old new : List ℕ} {found : Found} {count : ℕ}
    → RelocatesToRun old new found count → ShortFor old found.name.0 (need count) → ⊥
run_not_short r = spot_not_short_for _ _ _ _ _ (omega arith) r.room r.enough

-- ---- a stretch has slid before

pub loose_slid : {old new : List ℕ} {name : ℕ} → HeapAccepted old → SlidesOneStretch old new
    → IsLoose old name → IsLoose new name
loose_slid {name} h s l = record { live = l.live; is_held = (slides_alike _ _ h s).holds name ∙ l.is_held; unlocked = l.unlocked }

pub slid_then : {old mid : List ℕ} (new : List ℕ) (name count : ℕ) → HeapAccepted old
    → SlidesOneStretch old mid → Resized mid new name count → Resized old new name count
slid_then {old} {mid} new name count h s r =
    let alike = slides_alike _ _ h s in record {
      frame = frame_then _ _ _ s.becomes.frame r.frame;
      map = λ other. r.map other
          ∙ ap (λ x. if other == name then changed (λ y. record y { bytes = sized_to y.bytes count }) x else held mid other) (alike.holds name)
          ∙ ap (λ x. if other == name then changed (λ y. record y { bytes = sized_to y.bytes count }) (held old name) else x) (alike.holds other);
      still = λ n live e locked is. r.still n live (alike.holds n ∙ e) locked is ∙ alike.stays n live e locked (some_held (held mid n) live (alike.holds n ∙ e));
    } where
      some_held : (x : Option LiveChunk) (live : LiveChunk) → x ≡ Some live → IsSome x
      some_held x live e = subst (λ (y : Option LiveChunk). IsSome y) (sym e) refl

-- the chunk alone moves, and others of the stretch that slid before
pub slid_alone : {old mid : List ℕ} (new : List ℕ) (name : ℕ) → HeapAccepted old
    → SlidesOneStretch old mid → MovesAlone mid new name → MovesOneStretchAnd old new name
slid_alone {mid} new name h s alone =
    let alike = slides_alike _ _ h s in let one = slides_move_one _ _ s in record {
      before = one.before;
      mid = one.mid;
      after = one.after;
      chunks = one.chunks;
      none_stays = one.none_stays;
      others = λ other apart none was is.
          let still : IsSome (held mid other) = rw (← (alike.holds other)) at was in
          alone other apart still is ∙ one.others other none was still;
    }

-- ---- in its own stretch

pub opens_slides : {old : List ℕ} (new : List ℕ) {found : Found} {size : ℕ} → FitsInStretch old found size → OpensBehind old new (found.place.0 - 8) → SlidesOneStretch old new
opens_slides new k o = opens_one _ new _ _ _ _ _ _ _ _ k.whole k.there o

-- once room is opened after the chunk it fits there
pub fits_opened : {old : List ℕ} (new : List ℕ) {found : Found} {size : ℕ} → HeapAccepted old → IsOne old found → (k : FitsInStretch old found size) → OpensBehind old new (found.place.0 - 8) → FitsInPlace new found.name.0 size
fits_opened new {found} h f k o live e =
    let alike = slides_alike _ _ h (opens_slides new k o) in
    let behind = opened_behind _ new _ _ k.front k.bytes k.owner found.name.0 k.back _ h k.whole k.there o in
    let same : live ≡ f.live = same_live (sym e ∙ alike.holds found.name.0 ∙ one_held _ _ h f) in
    let many = ap (λ x. need (length x.bytes)) same ∙ ap need (sym f.count ∙ k.many) in
    omega (arith, k.enough)

-- the stretch that was found around it, with its room
pub room_among_own : {image : List ℕ} (found : Found) {stretch : Stretch} {room : ℕ} → (a : IsFoundAmong image found stretch) → HasRoomOf image stretch room → room ≡ room_of (a.front ++ a.back)
room_among_own found a r =
    let is = r a.before (a.front ++ movable a.bytes 0 a.owner found.name.0 ∷ a.back) a.after a.is in
    let own = room_of-middle a.front (movable a.bytes 0 a.owner found.name.0) a.back in omega arith

pub fits_in_stretch : {image : List ℕ} (found : Found) {stretch : Stretch} {room : ℕ} (size : ℕ) → IsFoundAmong image found stretch → HasRoomOf image stretch room → size ≤ need found.length + room → FitsInStretch image found size
fits_in_stretch found size a r enough =
    let is = room_among_own found a r in
    let many : need found.length ≡ need (length a.bytes) = ap need a.many in
    record { before = a.before; front = a.front; bytes = a.bytes; owner = a.owner; back = a.back; after = _; whole = a.is.whole; there = a.there; many = a.many; enough = omega arith }

pub fits_not_short : {image : List ℕ} {found : Found} {size : ℕ} → HeapAccepted image
    → FitsInStretch image found size → ShortFor image found.name.0 size → ⊥
fits_not_short {size} h k short =
    let low = ((short_for_parts _ _ _ _ _ _ _ _ size h k.whole).0 short).1 in
    let enough = k.enough in omega arith

-- where the own stretch has less the image is short for the chunk exactly where it is short
pub short_own : {image : List ℕ} (found : Found) {stretch : Stretch} {room : ℕ} (size : ℕ) → HeapAccepted image → IsFoundAmong image found stretch → HasRoomOf image stretch room → need found.length + room < size → ShortFor image found.name.0 size ↔ Short image size
short_own found size h a r low =
    let is = room_among_own found a r in
    let parts = short_for_parts _ _ _ _ _ _ _ _ size h a.is.whole in
    (λ s. (parts.0 s).0, λ s. parts.1 (s, omega arith))

-- ---- by the name that was asked for

pub resized_here : {old : List ℕ} (new : List ℕ) {name : ℕ} (count : ℕ) {found : Found} → IsFound old name found → ChangedAlone old new found.name.0 count → Resized old new name count × MovesAlone old new name
unfolding ChangedAlone
resized_here new count f r = rw f.name_is at r

pub resized_named : {old : List ℕ} (new : List ℕ) {name : ℕ} (count : ℕ) {found : Found} → IsFound old name found → (IsOne old found → FitsInPlace old found.name.0 (need count) → ChangedAlone old new found.name.0 count) → FitsInPlace old name (need count) → Resized old new name count × MovesAlone old new name
resized_named new count f done fits = resized_here new count f (done (one_of f) (rw (← f.name_is) at fits))

-- ---- what is taken and free fits into a region

pub own_fits : {image : List ℕ} (found : Found) → HeapAccepted image → IsOne image found
    → need found.length ≤ 16777208
own_fits found h f = let inside = found_inside _ found h f in omega (arith, h.1.tiles.head.most)

pub room_fits : {image : List ℕ} (found : Found) {stretch : Stretch} {room : ℕ} → HeapAccepted image
    → (a : IsFoundAmong image found stretch) → HasRoomOf image stretch room → room ≤ 16777208
room_fits found h a r =
    let mid : List Chunk = a.front ++ movable a.bytes 0 a.owner found.name.0 ∷ a.back in
    let m = middle_of _ a.before mid a.after _ (heap_in_parts _ _ h a.is.whole.chunks) a.is.from in
    omega (arith, r a.before mid a.after a.is, free_within mid, m.inside, m.most)
