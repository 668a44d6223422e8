-- What is to be looked at in two images to see what has moved, or that more has than is said.
use Rattle.std.proofs.Common.{◌≡◌, ◌≢◌, ℕ, ◌+◌, ◌≤◌, ◌<◌, Bool, true, false, cond, List, [], ◌∷◌, ◌++◌, length, zero, suc, Option, Some, None, refl, sym, ap, subst, ◌∙◌, arith, inl, inr}
use Rattle.std.specs.Prelude.{◌⊎◌, ◌==◌, IsSome, IsTrue}
use Rattle.std.proofs.lemmas.Bool.{eqb-true}
use Rattle.heap_model.specs.Chunk.{Chunk, free, movable, fixed, need, total}
use Rattle.heap_model.specs.Slots.{area_start}
use Rattle.heap_model.specs.Placed.{EveryOne}
use Rattle.heap_model.specs.Meaning.{LiveChunk}
use Rattle.heap_model.specs.Reading.{chunks_of, live_under, held, is_fixed_name}
use Rattle.heap_model.specs.Space.{stays_put, NoneStays, place_of, Still, MovesNothing, MovesOneStretch, MovesAlone, MovesOneStretchAnd, FitsInPlace, free_behind}
use Rattle.heap_model.specs.Layout.{layout_of}
use Rattle.heap_model.specs.Packing.{Slid, SlidesOneStretch}
use Rattle.laws_heap.proofs.Tests.{same_some, none_some}
use Rattle.laws_heap.proofs.Lives.{live_under-append, live_placed, move_live}
use Rattle.laws_heap.proofs.FixedNames.{fixed_name, fixed_name_is, fixed_tested}
use Rattle.laws_heap.proofs.FreeChunks.{or_front, or_back}
use Rattle.laws_heap.proofs.Slides.{slid_middle, slid_merged}
use Rattle.laws_heap.proofs.Packings.{no_true}
use Rattle.laws_heap.proofs.Stretches.{heads}
use Rattle.laws_heap.proofs.Chunks.{total-append}

-- ---- all names of an image

-- the names of chunks that begin at an offset
abbrev pub names : ℕ → List Chunk → List ℕ
names at [] = []
names at (free size ∷ cs) = names (at + size) cs
names at (movable bytes lock owner slot ∷ cs) = slot ∷ names (at + need (length bytes)) cs
names at (fixed bytes owner ∷ cs) = fixed_name at ∷ names (at + need (length bytes)) cs

-- it holds of one name, or the chunk is among the rest
one_or_other : (P : ℕ → Type 0) (one name : ℕ) (test : Bool) (live : LiveChunk) (rest : Option LiveChunk) → (test ≡ true → one ≡ name) → P one → (IsSome rest → P name) → IsSome (cond test (Some live) rest) → P name
one_or_other P one name true live rest same here there h = subst P (same refl) here
one_or_other P one name false live rest same here there h = there h

-- what holds of each of them holds of each that stands for something
pub of_each : (P : ℕ → Type 0) (at : ℕ) (cs : List Chunk) → EveryOne P (names at cs) → (name : ℕ) → IsSome (live_under at cs name) → P name
of_each P at [] each name is = absurd (cc is)
of_each P at (free size ∷ cs) each name is = of_each P (at + size) cs each name is
of_each P at (movable bytes lock owner slot ∷ cs) each name is = one_or_other P slot name (slot == name) _ _ (eqb-true slot name) each.0 (of_each P (at + need (length bytes)) cs each.1 name) is
of_each P at (fixed bytes owner ∷ cs) each name is =
    one_or_other P (fixed_name at) name (is_fixed_name at owner name) _ _ (λ (test : is_fixed_name at owner name ≡ true). fixed_name_is at bytes owner (fixed_tested name at bytes owner test)) each.0 (of_each P (at + need (length bytes)) cs each.1 name) is

-- ---- what has not moved

-- a name, if it still stands for something, is where it was
abbrev pub StaysThere : List ℕ → List ℕ → ℕ → Type 0
StaysThere old new name = IsSome (held new name) → place_of new name ≡ place_of old name

pub moves_nothing : (old new : List ℕ) → EveryOne (StaysThere old new) (names (area_start old) (chunks_of old)) → MovesNothing old new
unfolding held
moves_nothing old new each = of_each (StaysThere old new) (area_start old) (chunks_of old) each

-- those that were locked or fixed stay there
pub stays_still : (old new : List ℕ) → EveryOne (λ name. (live : LiveChunk) → held old name ≡ Some live → 0 < live.lock → StaysThere old new name) (names (area_start old) (chunks_of old)) → Still old new
unfolding held
stays_still old new each name live e locked = of_each (λ (n : ℕ). (one : LiveChunk) → held old n ≡ Some one → 0 < one.lock → StaysThere old new n) (area_start old) (chunks_of old) each name (subst IsSome (sym e) refl) live e locked

-- one without a lock may be elsewhere
pub unlocked : (was live : LiveChunk) → was.lock ≡ 0 → Some was ≡ Some live → 0 < live.lock → ⊥
unlocked was live none e locked = let same = ap (λ (x : LiveChunk). x.lock) (same_some was live e) in omega arith

-- the others stay there
pub moves_alone : (old new : List ℕ) (moved : ℕ) → EveryOne (λ name. name ≢ moved → StaysThere old new name) (names (area_start old) (chunks_of old)) → MovesAlone old new moved
unfolding held
moves_alone old new moved each = λ name apart was. of_each (λ (n : ℕ). n ≢ moved → StaysThere old new n) (area_start old) (chunks_of old) each name was apart

-- and those of a stretch may be elsewhere
pub moves_one_and : (old new : List ℕ) (moved : ℕ) (before mid after : List Chunk) → chunks_of old ≡ before ++ (mid ++ after) → NoneStays mid
    → EveryOne (λ name. name ≢ moved → live_under (area_start old + total before) mid name ≡ None → StaysThere old new name) (names (area_start old) (chunks_of old)) → MovesOneStretchAnd old new moved
unfolding held
moves_one_and old new moved before mid after e n each = record {
  before = before;
  mid = mid;
  after = after;
  chunks = e;
  none_stays = n;
  others = λ name apart none was.
      of_each (λ (k : ℕ). k ≢ moved → live_under (area_start old + total before) mid k ≡ None → StaysThere old new k) (area_start old) (chunks_of old) each name was apart none;
}

pub moves_one : (old new : List ℕ) (before mid after : List Chunk) → chunks_of old ≡ before ++ (mid ++ after) → NoneStays mid
    → EveryOne (λ name. live_under (area_start old + total before) mid name ≡ None → StaysThere old new name) (names (area_start old) (chunks_of old)) → MovesOneStretch old new
unfolding held
moves_one old new before mid after e n each = record {
  before = before;
  mid = mid;
  after = after;
  chunks = e;
  none_stays = n;
  others = λ name none was. of_each (λ (k : ℕ). live_under (area_start old + total before) mid k ≡ None → StaysThere old new k) (area_start old) (chunks_of old) each name was none;
}

-- ---- what has moved

-- a name's chunk has another place
pub record HasMoved (old new : List ℕ) (name : ℕ) : Type 0 where
  pub from : ℕ
  pub to : ℕ
  pub was : place_of old name ≡ Some from
  pub is : place_of new name ≡ Some to
  pub apart : from ≢ to

-- what has a place is live
placed_held : (image : List ℕ) (name place : ℕ) → place_of image name ≡ Some place → IsSome (held image name)
unfolding held
placed_held image name place e = by_case (held image name) refl where
  by_case : (o : Option LiveChunk) → held image name ≡ o → IsSome o
  by_case None is = absurd (none_some (place_of image name) place (live_placed (area_start image) (chunks_of image) name is) e)
  by_case (Some live) is = refl

-- it is not where it was
moved_there : (old new : List ℕ) (name : ℕ) → HasMoved old new name → (IsSome (held old name) → IsSome (held new name) → place_of new name ≡ place_of old name) → ⊥
moved_there old new name m same =
    let e : place_of new name ≡ place_of old name = same (placed_held old name m.from m.was) (placed_held new name m.to m.is) in
    m.apart (same_some m.from m.to (sym m.was ∙ sym e ∙ m.is))

pub moves_locked : (old new : List ℕ) (name : ℕ) (live : LiveChunk) → held old name ≡ Some live → 0 < live.lock → HasMoved old new name → Still old new → ⊥
moves_locked old new name live e locked m still = moved_there old new name m (λ was is. still name live e locked is)

pub moves_something : (old new : List ℕ) (name : ℕ) → HasMoved old new name → MovesNothing old new → ⊥
moves_something old new name m nothing = moved_there old new name m (nothing name)

pub moves_another : (old new : List ℕ) (name moved : ℕ) → HasMoved old new name → name ≢ moved → MovesAlone old new moved → ⊥
moves_another old new name moved m apart alone = moved_there old new name m (alone name apart)

-- ---- two stretches

-- the first of chunks of which none stays, and the rest
loose_first : (c : Chunk) (cs : List Chunk) → NoneStays (c ∷ cs) → (stays_put c ≡ false) × NoneStays cs
loose_first (free size) cs n = (refl, n)
loose_first (movable bytes zero owner slot) cs n = (refl, n)
loose_first (movable bytes (suc count) owner slot) cs n = absurd n
loose_first (fixed bytes owner) cs n = absurd n

-- chunks of which none stays end before one that stays
ends_before : (front : List Chunk) (c : Chunk) (back mid after : List Chunk) → front ++ c ∷ back ≡ mid ++ after → IsTrue (stays_put c) → NoneStays mid → (rest : List Chunk) × (front ≡ mid ++ rest)
ends_before front c back [] after e s n = (front, refl)
ends_before [] c back (d ∷ mid) after e s n = let same = (heads e).0 in let loose = (loose_first d mid n).0 in absurd (no_true (subst IsTrue (ap stays_put same ∙ loose) s))
ends_before (f ∷ front) c back (d ∷ mid) after e s n =
    let t = heads e in
    let rest = ends_before front c back mid after t.1 s (loose_first d mid n).1 in
    (rest.0, let one = t.0 in let more = rest.1 in cc)

-- they are before it, or after it
sides : (front : List Chunk) (c : Chunk) (back before mid after : List Chunk) → front ++ c ∷ back ≡ before ++ (mid ++ after) → IsTrue (stays_put c) → NoneStays mid
    → ((rest : List Chunk) × (front ≡ before ++ (mid ++ rest))) ⊎ ((rest : List Chunk) × (before ≡ front ++ c ∷ rest) × (back ≡ rest ++ (mid ++ after)))
sides front c back [] mid after e s n = inl (ends_before front c back mid after e s n)
sides [] c back (d ∷ before) mid after e s n = let t = heads e in inr (before, (let one = t.0 in cc), t.1)
sides (f ∷ front) c back (d ∷ before) mid after e s n =
    let t = heads e in
    let one = t.0 in
    elim (sides front c back before mid after t.1 s n) [
      | inl k ↦ let more = k.1 in inl (k.0, cc)
      | inr k ↦ let more = k.1 in inr (k.0, cc, k.2)
    ]

-- a name that no one of some chunks has no one of a part of them has
none_front : (at : ℕ) (xs ys : List Chunk) (name : ℕ) → live_under at (xs ++ ys) name ≡ None → live_under at xs name ≡ None
none_front at xs ys name e = or_front _ _ (sym (live_under-append at xs ys name) ∙ e)

none_back : (at : ℕ) (xs ys : List Chunk) (name : ℕ) → live_under at (xs ++ ys) name ≡ None → live_under (at + total xs) ys name ≡ None
none_back at xs ys name e = or_back _ _ (sym (live_under-append at xs ys name) ∙ e)

-- Two chunks have moved: one that isn't after a chunk that stays, and one that isn't before it.
pub record MovedApart (old new : List ℕ) (first second : ℕ) : Type 0 where
  pub front : List Chunk
  pub c : Chunk
  pub back : List Chunk
  pub chunks : chunks_of old ≡ front ++ c ∷ back
  pub stayed : IsTrue (stays_put c)
  pub not_behind : live_under (area_start old + total (front ++ c ∷ [])) back first ≡ None
  pub not_in_front : live_under (area_start old) front second ≡ None
  pub first_moved : HasMoved old new first
  pub second_moved : HasMoved old new second

pub moves_two_and : (old new : List ℕ) (first second moved : ℕ) → MovedApart old new first second → first ≢ moved → second ≢ moved → MovesOneStretchAnd old new moved → ⊥
moves_two_and old new first second moved a p q m = elim (sides a.front a.c a.back m.before m.mid m.after (sym a.chunks ∙ m.chunks) a.stayed m.none_stays) [
  | inl k ↦
      let none = none_front _ m.mid k.0 second (none_back start m.before (m.mid ++ k.0) second (subst (λ (cs : List Chunk). live_under start cs second ≡ None) k.1 a.not_in_front)) in
      moved_there old new second a.second_moved (m.others second q none)
  | inr k ↦
      let there : start + total (a.front ++ a.c ∷ []) + total k.0 ≡ start + total m.before =
      omega (arith, ap total k.1, total-append a.front (a.c ∷ k.0), total-append a.front (a.c ∷ [])) in
      let none = none_front _ m.mid m.after first (none_back (start + total (a.front ++ a.c ∷ [])) k.0 (m.mid ++ m.after) first (subst (λ (cs : List Chunk). live_under (start + total (a.front ++ a.c ∷ [])) cs first ≡ None) k.2 a.not_behind)) in
      moved_there old new first a.first_moved (m.others first p (sym (move_live _ _ m.mid first there) ∙ none))
] where
  start : ℕ
  start = area_start old

-- the same with no name besides the stretch
pub moves_two : (old new : List ℕ) (first second : ℕ) → MovedApart old new first second → MovesOneStretch old new → ⊥
moves_two old new first second a m = moves_two_and old new first second (first + second + 1) a (λ e. omega arith) (λ e. omega arith) (record {
  before = m.before;
  mid = m.mid;
  after = m.after;
  chunks = m.chunks;
  none_stays = m.none_stays;
  others = λ name apart none was is. m.others name none was is;
})

-- ---- one stretch that slides

-- all chunks of the image have slid, too
pub slides_slid : (old new : List ℕ) → SlidesOneStretch old new → Slid (chunks_of old) (layout_of new)
slides_slid old new s =
    subst (λ (cs : List Chunk). Slid cs (layout_of new)) (sym s.chunks)
    (subst (Slid (s.before ++ (s.mid ++ s.after))) (sym s.becomes.layout) (slid_merged (s.before ++ (s.mid ++ s.after)) (s.before ++ (s.others ++ s.after)) (slid_middle s.before s.mid s.others s.after s.slid)))

pub other_first : {x y : ℕ} {xs ys : List ℕ} → x ≢ y → x ∷ xs ≡ y ∷ ys → ⊥
other_first apart e = apart cc

-- ---- what a name's chunk has where it is

pub fits : (image : List ℕ) (name size : ℕ) (live : LiveChunk) → held image name ≡ Some live → size ≤ need (length live.bytes) + free_behind image name → FitsInPlace image name size
fits image name size live e enough other f = subst (λ (x : LiveChunk). size ≤ need (length x.bytes) + free_behind image name) (same_some live other (sym e ∙ f)) enough

pub fits_not : (image : List ℕ) (name size : ℕ) (live : LiveChunk) → held image name ≡ Some live → need (length live.bytes) + free_behind image name < size → FitsInPlace image name size → ⊥
fits_not image name size live e less f = let enough = f live e in omega arith
