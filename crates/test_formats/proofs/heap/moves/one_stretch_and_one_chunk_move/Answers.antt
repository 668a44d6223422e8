use Rattle.std.proofs.Common.{refl, arith, [], ◌∷◌}
use Rattle.heap_model.specs.Bytes.{u16_at, u32_at, u32_bytes}
use Rattle.heap_model.specs.Reading.{chunk_at, chunks_from, chunks_of, held}
use Rattle.test_formats.specs.Moves.{first_stretch, locked_one, second_stretch, scattered, last_relocated}
use Rattle.test_formats.proofs.MoveLaws.{moves_one_and, moves_two, moves_two_and}
use Rattle.test_formats.proofs.heap.moves.one_stretch_and_one_chunk_move.Goals as goal

pub returns-clause-holds : goal.returns-clause-holds
unfolding u16_at u32_at u32_bytes chunk_at chunks_from chunks_of held
returns-clause-holds c = moves_one_and scattered last_relocated 28 [] first_stretch (locked_one ∷ second_stretch) refl tt (λ apart none is. absurd cc, (λ apart none is. absurd cc, (λ apart none is. refl, (λ apart none is. absurd (apart refl), tt))))

pub returns-clause-not_another : goal.returns-clause-not_another
unfolding u16_at u32_at u32_bytes chunk_at chunks_from chunks_of held
returns-clause-not_another c = moves_two_and scattered last_relocated 20 28 16 (record {
  front = first_stretch;
  c = locked_one;
  back = second_stretch;
  chunks = refl;
  stayed = refl;
  not_behind = refl;
  not_in_front = refl;
  first_moved = record { from = 72; to = 56; was = refl; is = refl; apart = λ e. omega arith };
  second_moved = record { from = 120; to = 72; was = refl; is = refl; apart = λ e. omega arith };
}) (λ e. omega arith) (λ e. omega arith)

pub returns-clause-not_one_stretch : goal.returns-clause-not_one_stretch
unfolding u16_at u32_at u32_bytes chunk_at chunks_from chunks_of held
returns-clause-not_one_stretch c = moves_two scattered last_relocated 16 28 (record {
  front = first_stretch;
  c = locked_one;
  back = second_stretch;
  chunks = refl;
  stayed = refl;
  not_behind = refl;
  not_in_front = refl;
  first_moved = record { from = 56; to = 40; was = refl; is = refl; apart = λ e. omega arith };
  second_moved = record { from = 120; to = 72; was = refl; is = refl; apart = λ e. omega arith };
})
