-- The cells of a picture: the area of the chunks is cut into cells of equally many bytes.
use Rattle.std.specs.Prelude.{◌≡◌, ◌<◌, ◌≤◌, ◌+◌, ◌-◌, ◌*◌, ◌/◌, min, max, nat_lt, ◌^◌, if◌then◌else◌, ℕ, List, [], ◌∷◌, length, slice_index}
use Rattle.heap_model.specs.Chunk.{Chunk, size_of, free_size}
use Rattle.heap_model.specs.Lists.{numbered}
use Rattle.heap_model.specs.Slots.{area_start}
use Rattle.heap_model.specs.Reading.{chunks_of}
use Rattle.chunk_format.specs.declared.header.Header.{Header}
use Rattle.chunk_format.specs.declared.header.Header.TheVariants as headers
use Rattle.heap_map.specs.declared.cells.Cells.{Cells}
use Rattle.heap_map.specs.Marks.{free_mark, mark_of, cell_byte}

-- how many of the bytes from a place up to an end are in the cell with an index, for cells of this
-- size
abbrev pub in_cell : ℕ → ℕ → ℕ → ℕ → ℕ
in_cell size k from to = min to (size * k + size) - max from (size * k)

-- the mark of a chunk at a place in a cell: its own if the cell has a byte of it, and else that of
-- free space
abbrev pub mark_here : List ℕ → ℕ → ℕ → ℕ → Chunk → ℕ
mark_here image size k at chunk = if nat_lt 0 (in_cell size k at (at + size_of chunk)) then mark_of image chunk else free_mark

-- the first mark of the chunks with bytes in a cell, among the chunks from a place on
abbrev pub first_mark : List ℕ → ℕ → ℕ → ℕ → List Chunk → ℕ
first_mark image size k at [] = free_mark
first_mark image size k at (chunk ∷ chunks) = min (mark_here image size k at chunk) (first_mark image size k (at + size_of chunk) chunks)

-- how many bytes of a free chunk at a place are in a cell, and 0 for a live chunk
abbrev pub free_here : ℕ → ℕ → ℕ → Chunk → ℕ
free_here size k at chunk = in_cell size k at (at + free_size chunk)

-- how many free bytes a cell has
abbrev pub free_within : ℕ → ℕ → ℕ → List Chunk → ℕ
free_within size k at [] = 0
free_within size k at (chunk ∷ chunks) = free_here size k at chunk + free_within size k (at + size_of chunk) chunks

-- ---- the cells of an image

-- the total size of the chunks of an image
abbrev pub area_size : List ℕ → ℕ
area_size image = length image - area_start image

-- the size of a cell: the least multiple of 8 with which there are at most 2048 cells, 32 rows of 64
abbrev pub cell_size : List ℕ → ℕ
cell_size image = 8 * ((area_size image + 16383) / 16384)

-- how many cells there are; the last one may be smaller
abbrev pub cell_count : List ℕ → ℕ
cell_count image = (area_size image + (cell_size image - 1)) / cell_size image

-- how many bytes the cell with an index has
abbrev pub cell_length : List ℕ → ℕ → ℕ
cell_length image k = min (cell_size image) (area_size image - cell_size image * k)

-- the mark of the cell with an index, as a byte
unfoldable pub mark_at : List ℕ → ℕ → ℕ
mark_at image k = cell_byte (first_mark image (cell_size image) k 0 (chunks_of image)) (free_within (cell_size image) k 0 (chunks_of image)) (cell_length image k)

-- the marks of all cells
unfoldable pub marks : List ℕ → List ℕ
marks image = numbered (mark_at image) (cell_count image)

-- ---- the cells that a walk fills

-- `count` cells, with nothing in them
pub record IsClear (count : ℕ) (cells : Cells) : Type 0 where
  pub mark_count : length cells.marks.items ≡ count
  pub free_count : length cells.free.items ≡ count
  pub marks : (k : ℕ) → k < count → slice_index cells.marks.items k ≡ free_mark
  pub free : (k : ℕ) → k < count → slice_index cells.free.items k ≡ 0

-- there are enough cells for the chunks of an image
pub record Covers (image : List ℕ) (cells : Cells) : Type 0 where
  pub positive : 0 < cells.size
  pub small : cells.size ≤ 2 ^ 14
  pub enough : area_size image ≤ cells.size * length cells.marks.items

-- each cell has the first mark and the free bytes of these chunks
pub record HoldChunks (image : List ℕ) (cells : Cells) (chunks : List Chunk) : Type 0 where
  pub marks : (k : ℕ) → k < length cells.marks.items → slice_index cells.marks.items k ≡ first_mark image cells.size k 0 chunks
  pub free : (k : ℕ) → k < length cells.free.items → slice_index cells.free.items k ≡ free_within cells.size k 0 chunks
  pub same : length cells.free.items ≡ length cells.marks.items

-- each cell has the first mark and the free bytes of all chunks of the image
abbrev pub ArePainted : List ℕ → Cells → Type 0
ArePainted image cells = HoldChunks image cells (chunks_of image)

-- how many of the bytes that a chunk with this header takes are free
abbrev pub free_taken : Header → ℕ → ℕ
free_taken (headers.Free size) taken = taken
free_taken (headers.Movable length lock owner slot) taken = 0
free_taken (headers.Fixed length owner) taken = 0

-- the mark that a chunk with this header draws: this mark if it is live, and else that of free
-- space
abbrev pub drawn_by : Header → ℕ → ℕ
drawn_by (headers.Free size) mark = free_mark
drawn_by (headers.Movable length lock owner slot) mark = mark
drawn_by (headers.Fixed length owner) mark = mark

-- A chunk is added to cells. Each cell with bytes of a live chunk gets its mark, if that comes
-- before the cell's. Each cell with bytes of a free chunk counts them among its free bytes.
pub record AddsChunk (old new : Cells) (header : Header) (mark at taken : ℕ) : Type 0 where
  pub size : new.size ≡ old.size
  pub mark_count : length new.marks.items ≡ length old.marks.items
  pub free_count : length new.free.items ≡ length old.free.items
  pub marks : (k : ℕ) → k < length old.marks.items → slice_index old.marks.items k ≤ free_mark
      → slice_index new.marks.items k ≡ (if nat_lt 0 (in_cell old.size k at (at + taken)) then min (drawn_by header mark) (slice_index old.marks.items k) else slice_index old.marks.items k)
  pub free : (k : ℕ) → k < length old.free.items → slice_index new.free.items k ≡ slice_index old.free.items k + in_cell old.size k at (at + free_taken header taken)
