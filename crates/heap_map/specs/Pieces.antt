-- The free pieces that a walk has met.
use Rattle.std.specs.Prelude.{◌+◌, max, ℕ, Option, Some, None}
use Rattle.chunk_format.specs.declared.header.Header.{Header}
pub use Rattle.chunk_format.specs.Header.{free_by}
use Rattle.chunk_format.specs.declared.header.Header.TheVariants as headers
use Rattle.heap_map.specs.declared.pieces.Pieces.{Pieces}

-- the size of the piece that goes on, or 0 if there is none
abbrev pub run_size : Option ℕ → ℕ
run_size None = 0
run_size (Some size) = size

-- the pieces after the piece that went on has ended and is counted
abbrev pub with_run : Option ℕ → Pieces → Pieces
with_run None pieces = pieces
with_run (Some size) pieces = record { run = None; count = pieces.count + 1; largest = max pieces.largest size }

-- the pieces after a chunk with this header: a free chunk extends the piece, and any other chunk
-- ends it
abbrev pub pieces_after : Header → Pieces → Pieces
pieces_after (headers.Free size) pieces = record pieces { run = Some (run_size pieces.run + size) }
pieces_after (headers.Movable length lock owner slot) pieces = with_run pieces.run pieces
pieces_after (headers.Fixed length owner) pieces = with_run pieces.run pieces
