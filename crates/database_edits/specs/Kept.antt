-- What an edit leaves of the memory, besides the bytes.
use Rattle.std.specs.Prelude.{◌≡◌}
use Rattle.heap_model.specs.Memory.{Memory}
use Rattle.heap_model.specs.Lending.{KeepsLoan}

-- Only the bytes have changed. Each lent body is lent still, and in its place.
pub record OnlyWrites (old new : Memory) : Type 0 where
  pub loan : KeepsLoan old new
  pub rest : new ≡ record old { bytes = new.bytes }

-- the same, but bytes may also have been slid
pub record OnlySlides (old new : Memory) : Type 0 where
  pub loan : KeepsLoan old new
  pub rest : new ≡ record old { bytes = new.bytes; slid = new.slid }
