-- The blocks of a database are together at most as long as its image: each is a chunk of its own.
use Rattle.std.proofs.Common.{◌≡◌, ◌≢◌, ℕ, zero, suc, ◌+◌, ◌<◌, ◌≤◌, Bool, true, false, cond, Option, Some, None, List, [], ◌∷◌, length, get_or, map, refl, sym, ap, subst, arith, length-append, inl, inr}
use Rattle.std.proofs.lemmas.Bool.{cases_eq, ne_eqb}
use Rattle.std.proofs.lemmas.List.Sums.{sum_by-cons, sum_by-le, sum_by-le-sum_by, get_or-le-sum_by}
use Rattle.std.specs.Prelude.{◌==◌, ◌&&◌, nat_lt}
use Rattle.std.specs.List.{Contains, sum_by, flat_map}
use Rattle.heap_model.specs.Chunk.{Chunk, free, movable, fixed, fixed_lock, need, total, managers_owner, data_owner}
use Rattle.heap_model.specs.Slots.{area_start}
use Rattle.heap_model.specs.Heap.{HeapAccepted}
use Rattle.heap_model.specs.Meaning.{LiveChunk, ChunkMap}
use Rattle.heap_model.specs.Reading.{chunks_of, live_under, held}
use Rattle.heap_model.specs.Maps.{not_owned, callers_map}
use Rattle.heap_model.specs.Lists.{times}
use Rattle.heap_model.specs.Database.{data_in}
use Rattle.heap_model.specs.Store.{StoredDatabase, bytes_of, bytes_named, owner_under, databases, Accepted}
use Rattle.heap_model.specs.Files.{block_bytes, block_size}
use Rattle.laws_heap.proofs.Tests.{cond-false}
use Rattle.laws_heap.proofs.Chunks.{SpelledAll-end}
use Rattle.laws_heap.proofs.FoundChunks.{read_heap}
use Rattle.laws_store.proofs.Times.{same-yes, times-cons}
use Rattle.laws_store.proofs.NameCounts.{times-named}
use Rattle.laws_store.proofs.Counts.{same-least, has_databases}

-- ---- sums over lists in which a number stands once at most

-- where a number doesn't stand, its term is open
sum_without : (q : ℕ) (f g : ℕ → ℕ) → ((n : ℕ) → n ≢ q → f n ≤ g n) → (ns : List ℕ) → times q ns ≡ 0
    → sum_by f ns ≤ sum_by g ns
sum_without q f g others [] none = omega arith
sum_without q f g others (n ∷ ns) none =
    let count = times-cons q n ns in
    let ne : n ≢ q = λ e. (let yes = same-yes n q e in omega arith) in
    let term = others n ne in
    let rest = sum_without q f g others ns (omega arith) in
    let left = sum_by-cons f n ns in
    let right = sum_by-cons g n ns in
    omega arith

-- where it stands once at most, its term may be greater by as much as the sum is
sum_once : (q more : ℕ) (f g : ℕ → ℕ) → f q ≤ more + g q → ((n : ℕ) → n ≢ q → f n ≤ g n)
    → (ns : List ℕ) → times q ns ≤ 1 → sum_by f ns ≤ more + sum_by g ns
sum_once q more f g own others [] once = omega arith
sum_once q more f g own others (n ∷ ns) once =
    let count = times-cons q n ns in
    let left = sum_by-cons f n ns in
    let right = sum_by-cons g n ns in
    elim (cases_eq n q) [
      | inl e ↦
          let yes = same-yes n q e in
          let term = subst (λ (m : ℕ). f m ≤ more + g m) (sym e) own in
          let rest = sum_without q f g others ns (omega arith) in
          omega arith
      | inr ne ↦
          let term = others n ne in
          let rest = sum_once q more f g own others ns (omega arith) in
          omega arith
    ]

-- ---- the sizes of what names stand for

-- how many bytes a name stands for in a map; the name 0 stands for none
abbrev size_in : ChunkMap → ℕ → ℕ
size_in chunks name = block_size (bytes_named chunks name)

-- no name but 0 stands twice among these
abbrev pub NamesOnce : List ℕ → Type 0
NamesOnce names = (name : ℕ) → 0 < name → times name names ≤ 1

-- a map in which one chunk more has a name
abbrev with_first : ℕ → LiveChunk → ChunkMap → ChunkMap
with_first q live others name = cond (q == name) (Some live) (others name)

either_size : (b : Bool) (live : LiveChunk) (other : Option LiveChunk)
    → length (bytes_of (cond b (Some live) other)) ≤ length live.bytes + length (bytes_of other)
either_size true live other = omega arith
either_size false live other = omega arith

first_size : (q : ℕ) (live : LiveChunk) (others : ChunkMap) (name : ℕ)
    → size_in (with_first q live others) name ≤ length live.bytes + size_in others name
first_size q live others zero = omega arith
first_size q live others (suc name) = either_size (q == suc name) live (others (suc name))

other_size : (q : ℕ) (live : LiveChunk) (others : ChunkMap) (name : ℕ) → (0 < name → name ≢ q)
    → size_in (with_first q live others) name ≤ size_in others name
other_size q live others zero ne = omega arith
other_size q live others (suc name) ne =
    let past = cond-false (q == suc name) (Some live) (others (suc name))
    (ne_eqb q (suc name) (λ e. ne (omega arith) (sym e))) in
    let size = ap (λ (found : Option LiveChunk). length (bytes_of found)) past in
    omega arith

first_sizes : (q : ℕ) (live : LiveChunk) (others : ChunkMap) (names : List ℕ) → NamesOnce names
    → sum_by (size_in (with_first q live others)) names
    ≤ length live.bytes + sum_by (size_in others) names
first_sizes zero live others names once =
    let rest = sum_by-le-sum_by (size_in (with_first 0 live others)) (size_in others) names
    (λ name. other_size 0 live others name (λ some. omega arith)) in
    omega arith
first_sizes (suc q) live others names once =
    sum_once (suc q) (length live.bytes) (size_in (with_first (suc q) live others)) (size_in others)
    (first_size (suc q) live others (suc q))
    (λ name ne. other_size (suc q) live others name (λ some. ne)) names (once (suc q) (omega arith))

-- a map in which one chunk more has a name, if it has one
abbrev named_if : ℕ → Bool → LiveChunk → ChunkMap → ChunkMap
named_if q has_name live others name = cond ((q == name) && has_name) (Some live) (others name)

if_named : (here : Bool) (live : LiveChunk) (other : Option LiveChunk)
    → length (bytes_of (cond (here && true) (Some live) other))
    ≤ length (bytes_of (cond here (Some live) other))
if_named true live other = omega arith
if_named false live other = omega arith

if_not_named : (here : Bool) (live : LiveChunk) (other : Option LiveChunk)
    → length (bytes_of (cond (here && false) (Some live) other)) ≤ length (bytes_of other)
if_not_named true live other = omega arith
if_not_named false live other = omega arith

named_size : (q : ℕ) (live : LiveChunk) (others : ChunkMap) (name : ℕ)
    → size_in (named_if q true live others) name ≤ size_in (with_first q live others) name
named_size q live others zero = omega arith
named_size q live others (suc name) = if_named (q == suc name) live (others (suc name))

unnamed_size : (q : ℕ) (live : LiveChunk) (others : ChunkMap) (name : ℕ)
    → size_in (named_if q false live others) name ≤ size_in others name
unnamed_size q live others zero = omega arith
unnamed_size q live others (suc name) = if_not_named (q == suc name) live (others (suc name))

named_sizes : (q : ℕ) (has_name : Bool) (live : LiveChunk) (others : ChunkMap) (names : List ℕ)
    → NamesOnce names
    → sum_by (size_in (named_if q has_name live others)) names
    ≤ length live.bytes + sum_by (size_in others) names
named_sizes q true live others names once =
    let less = sum_by-le-sum_by (size_in (named_if q true live others))
    (size_in (with_first q live others)) names (named_size q live others) in
    let most = first_sizes q live others names once in
    omega arith
named_sizes q false live others names once =
    let less = sum_by-le-sum_by (size_in (named_if q false live others)) (size_in others) names
    (unnamed_size q live others) in
    omega arith

nothing_size : (at name : ℕ) → size_in (live_under at []) name ≤ 0
nothing_size at zero = omega arith
nothing_size at (suc name) = omega arith

-- the bytes that names stand for among chunks are no more than these take
sizes_under : (at : ℕ) (cs : List Chunk) (names : List ℕ) → NamesOnce names
    → sum_by (size_in (live_under at cs)) names ≤ total cs
sizes_under at [] names once =
    let none = sum_by-le (size_in (live_under at [])) 0 names
    (λ k d below. nothing_size at (get_or names k d)) in
    omega arith
sizes_under at (free size ∷ cs) names once =
    let rest = sizes_under (at + size) cs names once in
    omega arith
sizes_under at (movable bytes lock owner slot ∷ cs) names once =
    let next : ℕ = at + need (length bytes) in
    let rest = sizes_under next cs names once in
    let live : LiveChunk = record { bytes = bytes; lock = lock; owner = owner } in
    let both : sum_by (size_in (live_under at (movable bytes lock owner slot ∷ cs))) names
    ≤ length bytes + sum_by (size_in (live_under next cs)) names =
    first_sizes slot live (live_under next cs) names once in
    omega arith
sizes_under at (fixed bytes owner ∷ cs) names once =
    let next : ℕ = at + need (length bytes) in
    let rest = sizes_under next cs names once in
    let live : LiveChunk = record { bytes = bytes; lock = fixed_lock; owner = owner } in
    let both : sum_by (size_in (live_under at (fixed bytes owner ∷ cs))) names
    ≤ length bytes + sum_by (size_in (live_under next cs)) names =
    named_sizes (at + 8) (nat_lt managers_owner owner) live (live_under next cs) names once in
    omega arith

-- ---- in an image

unless_size : (b : Bool) (live : LiveChunk)
    → length (bytes_of (cond b None (Some live))) ≤ length live.bytes
unless_size true live = omega arith
unless_size false live = omega arith

not_owned_size : (owner : ℕ) (found : Option LiveChunk)
    → length (bytes_of (not_owned owner found)) ≤ length (bytes_of found)
not_owned_size owner None = omega arith
not_owned_size owner (Some live) = unless_size (live.owner == owner) live

callers_size : (image : List ℕ) (name : ℕ)
    → size_in (callers_map image) name ≤ size_in (held image) name
callers_size image zero = omega arith
callers_size image (suc name) = not_owned_size 0 (held image (suc name))

sizes_held : (image : List ℕ) (names : List ℕ) → HeapAccepted image → NamesOnce names
    → sum_by (size_in (held image)) names ≤ length image
unfolding held
sizes_held image names heap once =
    let most = sizes_under (area_start image) (chunks_of image) names once in
    let end = SpelledAll-end image _ _ _ (read_heap image heap).tiles.area in
    omega arith

blocks_length : (block : ℕ → Option (List ℕ)) (names : List ℕ)
    → length (flat_map block_bytes (map block names))
    ≡ sum_by (λ name. block_size (block name)) names
blocks_length block [] = refl
blocks_length block (name ∷ names) =
    let both = length-append (block_bytes (block name)) (flat_map block_bytes (map block names)) in
    let rest = blocks_length block names in
    let sum = sum_by-cons (λ (n : ℕ). block_size (block n)) name names in
    omega arith

-- the blocks under names that stand once are no longer than the image
pub named_length : (image : List ℕ) (names : List ℕ) → HeapAccepted image → NamesOnce names
    → length (flat_map block_bytes (map (bytes_named (callers_map image)) names)) ≤ length image
named_length image names heap once =
    let long = blocks_length (bytes_named (callers_map image)) names in
    let callers = sum_by-le-sum_by (size_in (callers_map image)) (size_in (held image)) names
    (callers_size image) in
    let most = sizes_held image names heap once in
    omega arith

-- ---- what a database names

-- in an accepted image a database names each chunk once at most
pub database_once : (image : List ℕ) (stored : StoredDatabase) → Accepted image
    → Contains (databases image) stored → NamesOnce (data_in stored.database)
database_once image stored a there name some =
    let once = (has_databases image a).named_once name some in
    let least = same-least (owner_under image name) data_owner in
    let all = times-named name (databases image) in
    let one = get_or-le-sum_by (λ (s : StoredDatabase). times name (data_in s.database))
    (databases image) there.0 stored there.1 in
    let own = ap (λ (s : StoredDatabase). times name (data_in s.database)) there.2 in
    omega arith
