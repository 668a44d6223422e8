use Rattle.std.proofs.Common.{refl, arith}
use Rattle.heap_model.specs.Bytes.{u16_at, u32_at, u32_bytes}
use Rattle.heap_model.specs.Reading.{chunk_at, chunks_from, chunks_of, held}
use Rattle.test_formats.specs.Moves.{scattered, front_packed, last_relocated}
use Rattle.test_formats.proofs.MoveLaws.{moves_alone, moves_another}
use Rattle.test_formats.proofs.heap.moves.one_chunk_moves.Goals as goal

pub returns-clause-holds : goal.returns-clause-holds
unfolding u16_at u32_at u32_bytes chunk_at chunks_from chunks_of held
returns-clause-holds c = moves_alone front_packed last_relocated 28 (λ apart is. refl, (λ apart is. refl, (λ apart is. refl, (λ apart is. absurd (apart refl), tt))))

pub returns-clause-not_another : goal.returns-clause-not_another
unfolding u16_at u32_at u32_bytes chunk_at chunks_from chunks_of held
returns-clause-not_another c = moves_another front_packed last_relocated 28 16 (record { from = 120; to = 72; was = refl; is = refl; apart = λ e. omega arith }) (λ e. omega arith)

pub returns-clause-not_packed : goal.returns-clause-not_packed
unfolding u16_at u32_at u32_bytes chunk_at chunks_from chunks_of held
returns-clause-not_packed c = moves_another scattered last_relocated 16 28 (record { from = 56; to = 40; was = refl; is = refl; apart = λ e. omega arith }) (λ e. omega arith)
