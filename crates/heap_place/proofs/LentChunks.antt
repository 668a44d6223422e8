-- The chunk whose body is lent, by its place.
use Rattle.heap_place.proofs.Words.{◌≡◌, ℕ, zero, suc, ◌+◌, ◌-◌, ◌≤◌, List, ◌∷◌, ◌++◌, Some, None, refl, sym, ap, subst, ◌∙◌, arith, Memory, Lent, Misses, Chunk, free, movable, fixed, total, HasChunk, area_start, HeapAccepted, LiveChunk, chunks_of, Finds, LentHere, LendsBodies, LentChunk, lent_chunk, some_gives, header_misses, fixed_live, finds_read, finds_spelled, finds_place, Header, header_of, Found, IsFound, IsOne, IsFixed, found_if_movable, some_same, HoldsHeap}
use Rattle.heap_place.proofs.LookupLaws.{ReadsHeader}
use Rattle.std.specs.Option.{option_map}
use Rattle.heap_model.specs.declared.names.Place.{Place}
use Rattle.raw_region.specs.Marks.{BeginsAt}

-- ---- the chunk

record LentAt (image : List ℕ) (place : ℕ) : Type 0 where
  lent : Lent
  at : lent.at ≡ place
  body : LentChunk image lent

lent_at : (m : Memory) (place : ℕ) → LendsBodies m → BeginsAt place m.lents → LentAt m.bytes place
lent_at m place l begins = some_gives (λ y. y.at ≡ place) _ _ l begins (λ y body at. record { lent = y; at = at; body = lent_chunk _ y body })

header_there : {image : List ℕ} {place : ℕ} (x : LentAt image place)
    → (place - 8 ≡ area_start image + total x.body.before) × (8 ≤ place)
header_there x = (omega arith, omega arith)

-- it is movable and in the slot that it names, or fixed
data NamedLent (image : List ℕ) (place : ℕ) : Type 0 where
  lent_movable : (bytes : List ℕ) (lock owner slot : ℕ) → Finds image slot (record { bytes = bytes; lock = lock; owner = owner }) (movable bytes lock owner slot) (place - 8) → NamedLent image place
  lent_fixed : (bytes : List ℕ) (owner : ℕ) → Finds image place (fixed_live bytes owner) (fixed bytes owner) (place - 8) → NamedLent image place

named_lent : {image : List ℕ} {place : ℕ} → LentAt image place → NamedLent image place
named_lent {image} {place} x = by x.body.chunk x.body.chunks x.body.here where
  again : place - 8 + 8 ≡ place
  again = let low = (header_there x).1 in omega arith

  by : (c : Chunk) → chunks_of image ≡ x.body.before ++ c ∷ x.body.after
      → LentHere x.lent (area_start image + total x.body.before) c → NamedLent image place
  by (free size) e here = absurd here
  by (movable bytes zero owner slot) e here = absurd here
  by (movable bytes (suc lock) owner slot) e here = lent_movable bytes (suc lock) owner slot (record { before = x.body.before; after = x.body.after; chunks = e; there = (header_there x).0; named = (refl, refl) })
  by _ e here = lent_fixed _ _ (record { before = x.body.before; after = _; chunks = e; there = (header_there x).0; named = (again, refl, here.2) })

-- ---- its header

pub lent_low : (m : Memory) (place : ℕ) → LendsBodies m → BeginsAt place m.lents → 8 ≤ place
lent_low m place l begins = (header_there (lent_at m place l begins)).1

pub lent_misses : {m : Memory} (place : ℕ) → HoldsHeap m → BeginsAt place m.lents
    → Misses m.lents (place - 8) 8
lent_misses {m} place h begins =
    let x = lent_at m place h.lent begins in
    header_misses m _ _ _ _ h.accepted h.lent x.body.chunks (header_there x).0

has_chunk : {image : List ℕ} {place : ℕ} → HeapAccepted image → NamedLent image place
    → HasChunk image (place - 8)
has_chunk {image} h (lent_movable bytes lock owner slot f) =
    record { chunk = movable bytes lock owner slot; spelled = finds_spelled _ slot _ _ _ h f }
has_chunk {image} {place} h (lent_fixed bytes owner f) = record { chunk = fixed bytes owner; spelled = finds_spelled _ _ _ _ _ h f }

pub lent_has_chunk : {m : Memory} (place : ℕ) → HoldsHeap m → BeginsAt place m.lents
    → HasChunk m.bytes (place - 8)
lent_has_chunk {m} place h begins = has_chunk h.accepted (named_lent (lent_at m _ h.lent begins))

-- ---- what its header says

header_is : {image : List ℕ} {name : ℕ} (place : ℕ) {live : LiveChunk} {c : Chunk} {header : Header} → HeapAccepted image → Finds image name live c (place - 8) → ReadsHeader image (place - 8) header → header ≡ header_of c
header_is {name} place {live} {c} h f read = some_same (read ∙ ap (option_map header_of) (finds_read _ name live c _ h f))

movable_one : {image : List ℕ} (place : Place) {header : Header} {found : Found} → HeapAccepted image → 8 ≤ place.0 → NamedLent image place.0 → ReadsHeader image (place.0 - 8) header → found_if_movable header place ≡ Some found → IsOne image found
movable_one {image} place {found} h low (lent_movable bytes lock owner slot f) read is =
    let of_chunk = ap (λ x. found_if_movable x place) (sym (header_is _ h f read)) ∙ is in
    subst (λ x. IsOne image x) (some_same of_chunk) (record { live = _; chunk = movable bytes lock owner slot; finds = f; behind_header = low; name_is = refl; count = refl; lock_is = refl; owner_is = refl })
movable_one place {found} h low (lent_fixed bytes owner f) read is =
    let none = ap (λ x. found_if_movable x place) (sym (header_is _ h f read)) ∙ is in absurd cc

fixed_one : {image : List ℕ} (place : Place) {header : Header} → HeapAccepted image → 8 ≤ place.0 → NamedLent image place.0 → ReadsHeader image (place.0 - 8) header → found_if_movable header place ≡ None → IsFixed image place.0
fixed_one place h low (lent_movable bytes lock owner slot f) read is =
    let some = ap (λ x. found_if_movable x place) (sym (header_is _ h f read)) ∙ is in absurd cc
fixed_one place h low (lent_fixed bytes owner f) read is = record { live = fixed_live bytes owner; bytes = bytes; owner = owner; finds = f; behind_header = low }

pub lent_movable_one : {m : Memory} (place : Place) {header : Header} {found : Found} → HoldsHeap m → BeginsAt place.0 m.lents → ReadsHeader m.bytes (place.0 - 8) header → found_if_movable header place ≡ Some found → IsOne m.bytes found
lent_movable_one {m} place h begins read is = movable_one _ h.accepted (lent_low m _ h.lent begins) (named_lent (lent_at m _ h.lent begins)) read is

pub lent_fixed_one : {m : Memory} (place : Place) {header : Header} → HoldsHeap m → BeginsAt place.0 m.lents → ReadsHeader m.bytes (place.0 - 8) header → found_if_movable header place ≡ None → IsFixed m.bytes place.0
lent_fixed_one {m} place h begins read is = fixed_one _ h.accepted (lent_low m _ h.lent begins) (named_lent (lent_at m _ h.lent begins)) read is

-- the fixed chunk of a name is at the place that its name says
pub fixed_at_place : {image : List ℕ} {place : ℕ} {found : Found} → HeapAccepted image
    → IsFixed image place → IsFound image place found → found.place.0 ≡ place
fixed_at_place {image} {place} h i f =
    let here = finds_place image place i.live (fixed i.bytes i.owner) _ h i.finds in
    let there = finds_place image place f.live f.chunk _ h f.finds in
    let same = some_same (sym here ∙ there) in omega arith
