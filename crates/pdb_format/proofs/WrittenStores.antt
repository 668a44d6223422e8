-- The content of a database of an accepted image can be written, and its file is short.
use Rattle.std.proofs.Common.{◌≡◌, ◌≢◌, ℕ, zero, suc, ◌+◌, ◌^◌, ◌<◌, ◌≤◌, Bool, true, false, cond, Option, Some, None, List, [], ◌∷◌, length, get_or, map, refl, sym, ap, subst, arith, inl, inr}
use Rattle.std.specs.Prelude.{All, ◌==◌}
use Rattle.std.specs.List.{Contains, filter_map, flat_map}
use Rattle.std.proofs.lemmas.List.{length-map}
use Rattle.std.proofs.lemmas.List.Elements.{All-cons, All-map, All-contains}
use Rattle.heap_model.specs.Bytes.{AreBytes}
use Rattle.heap_model.specs.Lists.{Distinct}
use Rattle.heap_model.specs.Heap.{HeapAccepted}
use Rattle.heap_model.specs.Meaning.{LiveChunk, ChunkMap}
use Rattle.heap_model.specs.Reading.{held}
use Rattle.heap_model.specs.Maps.{not_owned, callers_map}
use Rattle.heap_model.specs.Database.{Database, Entry, a_record, a_resource, entry_data, data_in, entry_with, has_resources, entry_offset, EntryFits}
use Rattle.heap_model.specs.Store.{StoredDatabase, bytes_of, bytes_under, bytes_named, content, databases, HasData, unique_id, IsDatabase, Accepted}
use Rattle.heap_model.specs.Files.{block_bytes}
use Rattle.laws_heap.proofs.Tests.{none_some}
use Rattle.laws_heap.proofs.FoundChunks.{read_heap}
use Rattle.laws_store.proofs.Bodies.{held_bytes}
use Rattle.laws_store.proofs.Owners.{owned_some}
use Rattle.pdb_format.specs.Writable.{IsWritableEntry, file_size, most_front, IsWritable}
use Rattle.pdb_format.proofs.NamedSizes.{named_length, database_once}

-- ---- entries

named_some : (chunks : ChunkMap) (name : ℕ) → 0 < name → bytes_named chunks name ≡ None → ⊥
named_some chunks zero low e = omega arith
named_some chunks (suc name) low e =
    none_some (Some (bytes_of (chunks (suc name)))) (bytes_of (chunks (suc name))) e refl

entry_writable : (image : List ℕ) (r : Bool) (e : Entry ℕ) → HeapAccepted image → EntryFits r e
    → HasData image e → IsWritableEntry r (entry_with (bytes_named (callers_map image)) e)
entry_writable image false (a_record attributes id slot) heap fits has = (
  fits.0,
  fits.1,
  λ none. elim has [
    | inl dead ↦ dead.1
    | inr owned ↦
        absurd (named_some (callers_map image) slot
        (owned_some image slot 15 heap owned (omega arith)) none)
  ],
)
entry_writable image true (a_record attributes id slot) heap fits has = absurd fits
entry_writable image false (a_resource kind id slot) heap fits has = absurd fits
entry_writable image true (a_resource kind id slot) heap fits has =
    (fits.0, fits.1, named_some (callers_map image) slot (owned_some image slot 15 heap has (omega arith)))

ids_with : {Data Other : Type 0} (change : Data → Other) (es : List (Entry Data))
    → filter_map unique_id (map (entry_with change) es) ≡ filter_map unique_id es
ids_with change [] = refl
ids_with change (a_record attributes id slot ∷ es) =
    ap (λ (xs : List ℕ). id ∷ xs) (ids_with change es)
ids_with change (a_resource kind id slot ∷ es) = ids_with change es

data_with : {Data Other : Type 0} (change : Data → Other) (es : List (Entry Data))
    → map entry_data (map (entry_with change) es) ≡ map change (map entry_data es)
data_with change [] = refl
data_with {Data} {Other} change (a_record attributes id slot ∷ es) =
    ap (λ (xs : List Other). change slot ∷ xs) (data_with change es)
data_with {Data} {Other} change (a_resource kind id slot ∷ es) =
    ap (λ (xs : List Other). change slot ∷ xs) (data_with change es)

-- ---- blocks

unless_bytes : (b : Bool) (live : LiveChunk) → AreBytes live.bytes
    → AreBytes (bytes_of (cond b None (Some live)))
unless_bytes true live bytes = λ k. omega arith
unless_bytes false live bytes = bytes

callers_bytes : (o : Option LiveChunk) → AreBytes (bytes_of o) → AreBytes (bytes_of (not_owned 0 o))
callers_bytes None bytes = λ k. omega arith
callers_bytes (Some live) bytes = unless_bytes (live.owner == 0) live bytes

there_bytes : (image : List ℕ) (name : ℕ) → HeapAccepted image → AreBytes image
    → AreBytes (bytes_of (held image name))
unfolding bytes_under
there_bytes image name heap bytes = held_bytes image name heap bytes

block_is_bytes : (image : List ℕ) (name : ℕ) → HeapAccepted image → AreBytes image
    → AreBytes (block_bytes (bytes_named (callers_map image) name))
block_is_bytes image zero heap bytes = λ k. omega arith
block_is_bytes image (suc name) heap bytes =
    callers_bytes (held image (suc name)) (there_bytes image (suc name) heap bytes)

-- what a block is, of bytes
abbrev HasBytes : Option (List ℕ) → Type 0
HasBytes block = AreBytes (block_bytes block)

content_bytes : (image : List ℕ) (d : Database ℕ) → HeapAccepted image → AreBytes image
    → All HasBytes (data_in (content (callers_map image) d))
content_bytes image d heap bytes =
    let named : ℕ → Option (List ℕ) = bytes_named (callers_map image) in
    let es : List (Entry ℕ) = d.entries in
    let rest : All HasBytes (map entry_data (map (entry_with named) es)) =
    subst (λ (blocks : List (Option (List ℕ))). All HasBytes blocks) (sym (data_with named es))
    (All-map HasBytes named (map entry_data es)
    (λ k e below. block_is_bytes image (get_or (map entry_data es) k e) heap bytes)) in
    All-cons HasBytes (named d.app_info)
    (named d.sort_info ∷ map entry_data (map (entry_with named) es))
    (block_is_bytes image d.app_info heap bytes)
    (All-cons HasBytes (named d.sort_info) (map entry_data (map (entry_with named) es))
    (block_is_bytes image d.sort_info heap bytes) rest)

-- ---- the size of its file

blocks_named : (chunks : ChunkMap) (d : Database ℕ)
    → data_in (content chunks d) ≡ map (bytes_named chunks) (data_in d)
blocks_named chunks d =
    let named : ℕ → Option (List ℕ) = bytes_named chunks in
    ap (λ (blocks : List (Option (List ℕ))). named d.app_info ∷ named d.sort_info ∷ blocks)
    (data_with named d.entries)

front_most : (r : Bool) (count : ℕ) → count < 2 ^ 16 → entry_offset r count + 2 ≤ most_front
front_most true count few = omega arith
front_most false count few = omega arith

stored_is : (image : List ℕ) (stored : StoredDatabase) → Accepted image
    → Contains (databases image) stored → IsDatabase image stored
stored_is image stored a there =
    All-contains (IsDatabase image) (databases image) stored a.each there

pub content_short : (image : List ℕ) (stored : StoredDatabase) → Accepted image
    → Contains (databases image) stored
    → (file_size (content (callers_map image) stored.database) ≤ length image + most_front)
    × (file_size (content (callers_map image) stored.database) < 2 ^ 32)
content_short image stored a there =
    let d : Database ℕ = stored.database in
    let named : ℕ → Option (List ℕ) = bytes_named (callers_map image) in
    let long = length-map d.entries (entry_with named) in
    let few = (stored_is image stored a there).spelled.fits.entry_count in
    let front = front_most (has_resources d.header.attributes)
    (length (map (entry_with named) d.entries)) (omega arith) in
    let blocks = named_length image (data_in d) a.heap (database_once image stored a there) in
    let same = ap (λ (bs : List (Option (List ℕ))). length (flat_map block_bytes bs))
    (blocks_named (callers_map image) d) in
    let most = (read_heap image a.heap).tiles.head.most in
    let size : file_size (content (callers_map image) d) ≤ length image + most_front =
    omega arith in
    (size, omega arith)

-- ---- whether it can be written

pub content_writable : (image : List ℕ) (stored : StoredDatabase) → AreBytes image → Accepted image
    → Contains (databases image) stored → IsWritable (content (callers_map image) stored.database)
content_writable image stored bytes a there =
    let d : Database ℕ = stored.database in
    let named : ℕ → Option (List ℕ) = bytes_named (callers_map image) in
    let is = stored_is image stored a there in
    let fits = is.spelled.fits in
    let few = fits.entry_count in
    let long = length-map d.entries (entry_with named) in
    let same = ids_with named d.entries in
    record {
      name = fits.name;
      header = fits.header;
      entries = All-map (IsWritableEntry (has_resources d.header.attributes))
          (entry_with named) d.entries
          (λ k e below. entry_writable image _ _ a.heap (fits.entries k e below)
          (is.entries k e below));
      entry_count = omega arith;
      none_zero = subst (λ (ids : List ℕ). All (λ id. id ≢ 0) ids) (sym same) is.ids.none_zero;
      distinct = subst (λ (ids : List ℕ). Distinct ids) (sym same) is.ids.distinct;
      blocks = content_bytes image d a.heap bytes;
      size = (content_short image stored a there).1;
    }
