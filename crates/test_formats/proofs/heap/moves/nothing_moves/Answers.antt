use Rattle.std.proofs.Common.{refl, arith}
use Rattle.heap_model.specs.Bytes.{u16_at, u32_at, u32_bytes}
use Rattle.heap_model.specs.Reading.{chunk_at, chunks_from, chunks_of, held}
use Rattle.test_formats.specs.Moves.{scattered, front_packed, locked_moved, one_freed}
use Rattle.test_formats.proofs.MoveLaws.{moves_nothing, moves_something}
use Rattle.test_formats.proofs.heap.moves.nothing_moves.Goals as goal

pub returns-clause-holds : goal.returns-clause-holds
unfolding u16_at u32_at u32_bytes chunk_at chunks_from chunks_of held
returns-clause-holds c = moves_nothing scattered one_freed (λ is. refl, (λ is. absurd cc, (λ is. refl, (λ is. refl, tt))))

pub returns-clause-not_packed : goal.returns-clause-not_packed
unfolding u16_at u32_at u32_bytes chunk_at chunks_from chunks_of held
returns-clause-not_packed c = moves_something scattered front_packed 16 (record { from = 56; to = 40; was = refl; is = refl; apart = λ e. omega arith })

pub returns-clause-not_locked : goal.returns-clause-not_locked
unfolding u16_at u32_at u32_bytes chunk_at chunks_from chunks_of held
returns-clause-not_locked c = moves_something scattered locked_moved 24 (record { from = 88; to = 104; was = refl; is = refl; apart = λ e. omega arith })
