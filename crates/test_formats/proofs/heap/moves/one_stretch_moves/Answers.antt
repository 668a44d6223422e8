use Rattle.std.proofs.Common.{refl, arith, [], ◌∷◌}
use Rattle.heap_model.specs.Bytes.{u16_at, u32_at, u32_bytes}
use Rattle.heap_model.specs.Reading.{chunk_at, chunks_from, chunks_of, held}
use Rattle.test_formats.specs.Moves.{first_stretch, locked_one, second_stretch, scattered, front_packed, both_packed, turned, locked_moved}
use Rattle.test_formats.proofs.MoveLaws.{moves_one, moves_two}
use Rattle.test_formats.proofs.heap.moves.one_stretch_moves.Goals as goal

pub returns-clause-packed : goal.returns-clause-packed
unfolding u16_at u32_at u32_bytes chunk_at chunks_from chunks_of held
returns-clause-packed c = moves_one scattered front_packed [] first_stretch (locked_one ∷ second_stretch) refl tt (λ none is. absurd cc, (λ none is. absurd cc, (λ none is. refl, (λ none is. refl, tt))))

pub returns-clause-turned : goal.returns-clause-turned
unfolding u16_at u32_at u32_bytes chunk_at chunks_from chunks_of held
returns-clause-turned c = moves_one scattered turned [] first_stretch (locked_one ∷ second_stretch) refl tt (λ none is. absurd cc, (λ none is. absurd cc, (λ none is. refl, (λ none is. refl, tt))))

pub returns-clause-not_two : goal.returns-clause-not_two
unfolding u16_at u32_at u32_bytes chunk_at chunks_from chunks_of held
returns-clause-not_two c = moves_two scattered both_packed 16 28 (record {
  front = first_stretch;
  c = locked_one;
  back = second_stretch;
  chunks = refl;
  stayed = refl;
  not_behind = refl;
  not_in_front = refl;
  first_moved = record { from = 56; to = 40; was = refl; is = refl; apart = λ e. omega arith };
  second_moved = record { from = 120; to = 104; was = refl; is = refl; apart = λ e. omega arith };
})

pub returns-clause-not_locked : goal.returns-clause-not_locked
unfolding u16_at u32_at u32_bytes chunk_at chunks_from chunks_of held
returns-clause-not_locked c = moves_two scattered locked_moved 24 24 (record {
  front = first_stretch;
  c = locked_one;
  back = second_stretch;
  chunks = refl;
  stayed = refl;
  not_behind = refl;
  not_in_front = refl;
  first_moved = record { from = 88; to = 104; was = refl; is = refl; apart = λ e. omega arith };
  second_moved = record { from = 88; to = 104; was = refl; is = refl; apart = λ e. omega arith };
})
