-- The free pieces that a walk has met.
use Rattle.std.specs.Prelude.{◌≡◌, ◌+◌, ◌++◌, ℕ, List, [], ◌∷◌, Option, Some, None}
use Rattle.chunk_format.specs.declared.header.Header.{Header}
use Rattle.chunk_format.specs.declared.header.Header.TheVariants as headers
use Rattle.heap_map.specs.Pieces.{run_size}
use Rattle.heap_svg.specs.declared.pieces.PieceSizes.{PieceSizes}

-- the piece that goes on, as a list
abbrev pub run_list : Option ℕ → List ℕ
run_list None = []
run_list (Some size) = size ∷ []

-- the piece that went on has ended
pub record EndsPiece (old new : PieceSizes) : Type 0 where
  pub met : new.met.items ≡ old.met.items ++ run_list old.run
  pub run : new.run ≡ None

-- the piece is `size` bytes longer
pub record LengthensPiece (old new : PieceSizes) (size : ℕ) : Type 0 where
  pub met : new.met.items ≡ old.met.items
  pub run : new.run ≡ Some (run_size old.run + size)

-- a chunk with this header follows
abbrev pub AddsHeader : PieceSizes → PieceSizes → Header → Type 0
AddsHeader old new (headers.Free size) = LengthensPiece old new size
AddsHeader old new (headers.Movable length lock owner slot) = EndsPiece old new
AddsHeader old new (headers.Fixed length owner) = EndsPiece old new
