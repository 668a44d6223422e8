-- A live chunk that was found.
use Rattle.std.specs.Prelude.{◌≢◌, ◌≡◌, ◌<◌, ◌≤◌, ◌+◌, ◌-◌, ◌==◌, ◌&&◌, nat_lt, if◌then◌else◌, ℕ, List, length, slice_range, Option, Some, None}
use Rattle.heap_model.specs.Chunk.{Chunk, fixed, fixed_lock, managers_owner, data_owner}
use Rattle.heap_model.specs.Heap.{directory_of}
use Rattle.heap_model.specs.Placed.{EveryPlaced}
use Rattle.heap_model.specs.Slots.{area_start}
use Rattle.heap_model.specs.Meaning.{LiveChunk}
use Rattle.heap_model.specs.Space.{place_of}
use Rattle.heap_model.specs.Placing.{Finds, NotFixedAs}
use Rattle.heap_model.specs.Layout.{Alters, with_bytes}
use Rattle.heap_model.specs.declared.names.Name.{Name}
use Rattle.heap_model.specs.declared.names.Place.{Place}
use Rattle.master_table.specs.Table.{HoldsPlace}
use Rattle.chunk_format.specs.declared.header.Header.{Header}
use Rattle.chunk_format.specs.declared.header.Header.TheVariants as headers
use Rattle.heap_place.specs.declared.found.Found.{Found}

-- the offset of the header of a found chunk
abbrev pub header_offset : Found → ℕ
header_offset found = found.place.0 - 8

-- `found` describes the chunk of a name, whoever owns it
pub record IsFound (image : List ℕ) (name : ℕ) (found : Found) : Type 0 where
  pub live : LiveChunk
  pub chunk : Chunk
  pub finds : Finds image name live chunk (header_offset found)
  pub behind_header : 8 ≤ found.place.0
  pub name_is : found.name.0 ≡ name
  pub count : found.length ≡ length live.bytes
  pub lock_is : found.lock ≡ live.lock
  pub owner_is : found.owner ≡ live.owner

-- `found` describes the chunk of its own name
abbrev pub IsOne : List ℕ → Found → Type 0
IsOne image found = IsFound image found.name.0 found

-- a name's chunk is a fixed one
pub record IsFixed (image : List ℕ) (name : ℕ) : Type 0 where
  pub live : LiveChunk
  pub bytes : List ℕ
  pub owner : ℕ
  pub finds : Finds image name live (fixed bytes owner) (name - 8)
  pub behind_header : 8 ≤ name

-- no name has a chunk whose body is at this place
abbrev pub NothingAt : List ℕ → ℕ → Type 0
NothingAt image place = (name : ℕ) → place_of image name ≡ Some place → ⊥

-- A found chunk may get this owner. A locked one may not become the manager's, and a fixed one may
-- belong only to a caller. The directory stays the manager's.
pub record CanGoTo (image : List ℕ) (found : Found) (owner : ℕ) : Type 0 where
  pub fits : owner ≤ data_owner
  pub locked : 0 < found.lock → 0 < owner
  pub fixed : found.lock ≡ fixed_lock → owner < data_owner
  pub directory : found.name.0 ≡ directory_of image → owner ≡ 0

-- `count` bytes of the body of a found chunk, from offset `from` on, are copied to offset `to`
-- within it; the copy has the bytes from before
abbrev pub SlidesWithin : List ℕ → List ℕ → Found → ℕ → ℕ → ℕ → Type 0
SlidesWithin old new found from to count = Alters old new (header_offset found) (with_bytes to (slice_range old (found.place.0 + from) (found.place.0 + from + count)))

-- the movable chunk whose body is at a place, by its header; None if the header is not a movable
-- one's
abbrev pub found_if_movable : Header → Place → Option Found
found_if_movable (headers.Free size) place = None
found_if_movable (headers.Movable length lock owner slot) place = Some (record { name = record { 0 = slot }; place = place; length = length; lock = lock; owner = owner })
found_if_movable (headers.Fixed length owner) place = None

-- the fixed chunk of this name whose body is at a place, by its header; None for every other
-- header, and for a chunk of the manager's
abbrev pub found_if_fixed : Header → Place → Name → Option Found
found_if_fixed (headers.Free size) place name = None
found_if_fixed (headers.Movable length lock owner slot) place name = None
found_if_fixed (headers.Fixed length owner) place name = if (place.0 == name.0) && nat_lt managers_owner owner then Some (record { name = name; place = place; length = length; lock = fixed_lock; owner = owner }) else None

-- none of the chunks is a fixed one of this name
abbrev pub NoneFixedAs : List ℕ → ℕ → List Chunk → Type 0
NoneFixedAs image name chunks = EveryPlaced (NotFixedAs name) (area_start image) chunks

-- none of the chunks begins at this offset
abbrev pub NoneBeginsAt : List ℕ → ℕ → List Chunk → Type 0
NoneBeginsAt image there chunks = EveryPlaced (λ at chunk. at ≢ there) (area_start image) chunks

-- no slot contains the place
abbrev pub NoSlotHolds : List ℕ → ℕ → Type 0
NoSlotHolds image place = (name : ℕ) → HoldsPlace image name place → ⊥

-- the chunk of this owner whose body is at a place, by its header; None if the header is a free
-- chunk's or another owner's
abbrev pub owned_by : Header → Place → ℕ → Option Found
owned_by (headers.Free size) place owner = None
owned_by (headers.Movable length lock own slot) place owner = if own == owner then Some (record { name = record { 0 = slot }; place = place; length = length; lock = lock; owner = owner }) else None
owned_by (headers.Fixed length own) place owner = if own == owner then Some (record { name = record { 0 = place.0 }; place = place; length = length; lock = fixed_lock; owner = owner }) else None
