-- What is to be looked at in images to see that a definition holds of them, or not.
use Rattle.std.proofs.Common.{true, false, ◌≡◌, ◌≢◌, ℕ, zero, suc, ◌+◌, ◌-◌, ◌<◌, ◌≤◌, Bool, cond, List, [], ◌∷◌, length, take, drop, Option, Some, None, refl, sym, ap, subst, ◌∙◌, arith, inl, inr}
use Rattle.std.specs.Prelude.{All, slice_index, ◌==◌}
use Rattle.std.specs.List.{range_with_len}
use Rattle.std.proofs.lemmas.Bool.{cases_eq, eqb-true}
use Rattle.std.proofs.lemmas.List.{get_or-take, get_or-drop}
use Rattle.heap_model.specs.Chunk.{Chunk, free, movable, fixed, need}
use Rattle.heap_model.specs.Placed.{EveryOne, AnyPlaced}
use Rattle.heap_model.specs.Slots.{Table, area_start}
use Rattle.heap_model.specs.Heap.{TableHere}
use Rattle.heap_model.specs.Meaning.{LiveChunk}
use Rattle.heap_model.specs.Migration.{StandFurther}
use Rattle.heap_model.specs.Reading.{chunks_of, live_under, is_fixed_name}
use Rattle.heap_model.specs.MoreTables.{gained, HasNewTable}
use Rattle.laws_heap.proofs.Runs.{chunks_of-tiled}
use Rattle.laws_heap.proofs.Tests.{same_some}
use Rattle.laws_heap.proofs.FixedNames.{fixed_name, fixed_live, fixed_name_is, fixed_tested}

-- ---- lists of tables

-- the place of a table by its number, or 0
abbrev pub place_at : List Table → ℕ → ℕ
place_at [] number = 0
place_at (table ∷ tables) zero = table.place
place_at (table ∷ tables) (suc number) = place_at tables number

-- and the count of its slots
abbrev pub count_at : List Table → ℕ → ℕ
count_at [] number = 0
count_at (table ∷ tables) zero = table.count
count_at (table ∷ tables) (suc number) = count_at tables number

pub other_place : (ts us : List Table) (number : ℕ) → place_at ts number ≢ place_at us number → ts ≡ us → ⊥
other_place ts us number apart same = apart (ap (λ (xs : List Table). place_at xs number) same)

pub other_count : (ts us : List Table) (number : ℕ) → count_at ts number ≢ count_at us number → ts ≡ us → ⊥
other_count ts us number apart same = apart (ap (λ (xs : List Table). count_at xs number) same)

-- ---- lists of one number, and each offset

pub all_one : (P : ℕ → Type 0) (x : ℕ) → P x → All P (x ∷ [])
all_one P x here zero d low = here
all_one P x here (suc k) d low = absurd (omega arith)

-- each offset from one up to another
pub each_from : (P : ℕ → Type 0) (start count : ℕ) → EveryOne P (range_with_len start count) → (at : ℕ) → start ≤ at → at < start + count → P at
each_from P start zero each at low high = absurd (omega arith)
each_from P start (suc count) each at low high = elim (cases_eq at start) [
  | inl same ↦ subst P (sym same) each.0
  | inr other ↦ each_from P (start + 1) count each.1 at (omega arith) (omega arith)
]

-- equal parts of two lists have the same bytes
pub parts_further : (old new : List ℕ) (by start count : ℕ) → take count (drop (start + by) new) ≡ take count (drop start old) → (end : ℕ) → end ≡ start + count → StandFurther old new by start end
parts_further old new by start count same end is at low high =
    let k : ℕ = at - start in
    let here : start + k ≡ at = omega arith in
    let there : start + by + k ≡ at + by = omega arith in
    let short : k < count = omega arith in
    let one : slice_index (take count (drop (start + by) new)) k ≡ slice_index new (start + by + k) = get_or-take count (drop (start + by) new) k 0 short ∙ get_or-drop (start + by) new k 0 in
    let other : slice_index (take count (drop start old)) k ≡ slice_index old (start + k) = get_or-take count (drop start old) k 0 short ∙ get_or-drop start old k 0 in
    ap (slice_index new) (sym there) ∙ sym one ∙ ap (λ (xs : List ℕ). slice_index xs k) same ∙ other ∙ ap (slice_index old) here

-- ---- the names of chunks

-- it holds of the name of each live one of some chunks, and of the chunk
abbrev pub EachNamed : (ℕ → LiveChunk → Type 0) → ℕ → List Chunk → Type 0
EachNamed P at [] = Unit {0}
EachNamed P at (free size ∷ chunks) = EachNamed P (at + size) chunks
EachNamed P at (movable bytes lock owner slot ∷ chunks) = P slot (record { bytes = bytes; lock = lock; owner = owner }) × EachNamed P (at + need (length bytes)) chunks
EachNamed P at (fixed bytes owner ∷ chunks) = P (fixed_name at) (fixed_live bytes owner) × EachNamed P (at + need (length bytes)) chunks

first_or_rest : (P : ℕ → LiveChunk → Type 0) (one name : ℕ) (test : Bool) (chunk live : LiveChunk) (rest : Option LiveChunk) → (test ≡ true → one ≡ name) → P one chunk → (rest ≡ Some live → P name live) → cond test (Some chunk) rest ≡ Some live → P name live
first_or_rest P one name true chunk live rest same here there e = subst (λ (n : ℕ). P n live) (same refl) (subst (P one) (same_some chunk live e) here)
first_or_rest P one name false chunk live rest same here there e = there e

pub each_named : (P : ℕ → LiveChunk → Type 0) (at : ℕ) (cs : List Chunk) → EachNamed P at cs → (name : ℕ) (live : LiveChunk) → live_under at cs name ≡ Some live → P name live
each_named P at [] each name live e = absurd cc
each_named P at (free size ∷ cs) each name live e = each_named P (at + size) cs each name live e
each_named P at (movable bytes lock owner slot ∷ cs) each name live e =
    first_or_rest P slot name (slot == name) (record { bytes = bytes; lock = lock; owner = owner }) live (live_under (at + need (length bytes)) cs name) (eqb-true slot name) each.0 (each_named P (at + need (length bytes)) cs each.1 name live) e
each_named P at (fixed bytes owner ∷ cs) each name live e =
    first_or_rest P (fixed_name at) name (is_fixed_name at owner name) (fixed_live bytes owner) live (live_under (at + need (length bytes)) cs name) (λ (test : is_fixed_name at owner name ≡ true). fixed_name_is at bytes owner (fixed_tested name at bytes owner test)) each.0 (each_named P (at + need (length bytes)) cs each.1 name live) e

-- a byte of a live chunk by its number, or 256
abbrev pub byte_of : ℕ → Option LiveChunk → ℕ
byte_of number None = 256
byte_of number (Some live) = slice_index live.bytes number

-- ---- a new table

-- the table of a `HasNewTable` is among the chunks that are read
pub new_there : (image : List ℕ) (place : ℕ) → HasNewTable image place → AnyPlaced (TableHere (gained place)) (area_start image) (chunks_of image)
new_there image place n = subst (λ (cs : List Chunk). AnyPlaced (TableHere (gained place)) (area_start image) cs) (sym (chunks_of-tiled image n.chunks n.tiles)) n.there
