use Rattle.std.proofs.Common.{refl, arith, replicate}
use Rattle.heap_model.specs.Bytes.{u16_at, u32_at, u32_bytes}
use Rattle.heap_model.specs.Reading.{chunk_at, chunks_from, chunks_of, held}
use Rattle.test_formats.specs.Moves.{scattered, front_packed, locked_moved}
use Rattle.test_formats.proofs.MoveLaws.{stays_still, unlocked, moves_locked}
use Rattle.test_formats.proofs.heap.moves.locked_chunk_is_still.Goals as goal

pub returns-clause-packed : goal.returns-clause-packed
unfolding u16_at u32_at u32_bytes chunk_at chunks_from chunks_of held
returns-clause-packed c = stays_still scattered front_packed (
  λ live e locked. absurd (unlocked _ live refl e locked),
  (λ live e locked. absurd (unlocked _ live refl e locked), (λ live e locked is. refl, (λ live e locked is. refl, tt))),
)

pub returns-clause-not_moved : goal.returns-clause-not_moved
unfolding u16_at u32_at u32_bytes chunk_at chunks_from chunks_of held
returns-clause-not_moved c = moves_locked scattered locked_moved 24 (record { bytes = replicate 8 0; lock = 1; owner = 1 }) refl (omega arith) (record { from = 88; to = 104; was = refl; is = refl; apart = λ e. omega arith })
