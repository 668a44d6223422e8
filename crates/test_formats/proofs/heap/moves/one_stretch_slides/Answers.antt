use Rattle.std.proofs.Common.{refl, ap, arith, [], ◌∷◌}
use Rattle.heap_model.specs.Bytes.{u16_at, u32_at, u32_bytes}
use Rattle.heap_model.specs.Chunk.{free}
use Rattle.heap_model.specs.Reading.{chunk_at, chunks_from, chunks_of, held, is_accepted}
use Rattle.heap_model.specs.Slots.{slots_of, further_tables}
use Rattle.test_formats.specs.Stretches.{zeros_of}
use Rattle.test_formats.specs.Moves.{first_stretch, locked_one, second_stretch, scattered, front_packed, both_packed, turned, locked_moved}
use Rattle.laws_heap.proofs.Accepted.{Decides-accepted}
use Rattle.laws_heap.proofs.SlidImages.{slides_move_one}
use Rattle.test_formats.proofs.MoveLaws.{names, slides_slid, other_first, moves_two}
use Rattle.test_formats.proofs.heap.moves.one_stretch_slides.Goals as goal

pub returns-clause-packed : goal.returns-clause-packed
unfolding u16_at u32_at u32_bytes slots_of further_tables chunk_at chunks_from chunks_of held is_accepted
returns-clause-packed c = record {
  before = [];
  mid = first_stretch;
  others = zeros_of 8 16 ∷ zeros_of 8 20 ∷ free 16 ∷ [];
  after = locked_one ∷ second_stretch;
  chunks = refl;
  none_stays = tt;
  slid = record { same = refl; stay = refl; sizes = refl };
  becomes = record { frame = record { accepted = (Decides-accepted front_packed).0 refl; len = refl; tables = refl; slots = refl; directory = refl }; layout = refl };
}

pub returns-clause-not_two : goal.returns-clause-not_two
unfolding u16_at u32_at u32_bytes slots_of further_tables chunk_at chunks_from chunks_of held is_accepted
returns-clause-not_two c = λ s. moves_two scattered both_packed 16 28 (record {
  front = first_stretch;
  c = locked_one;
  back = second_stretch;
  chunks = refl;
  stayed = refl;
  not_behind = refl;
  not_in_front = refl;
  first_moved = record { from = 56; to = 40; was = refl; is = refl; apart = λ e. omega arith };
  second_moved = record { from = 120; to = 104; was = refl; is = refl; apart = λ e. omega arith };
}) (slides_move_one scattered both_packed s)

pub returns-clause-not_turned : goal.returns-clause-not_turned
unfolding u16_at u32_at u32_bytes slots_of further_tables chunk_at chunks_from chunks_of held is_accepted
returns-clause-not_turned c = λ s. other_first {x = 20} {y = 16} (λ e. omega arith) (ap (names 0) (slides_slid scattered turned s).same)

pub returns-clause-not_locked : goal.returns-clause-not_locked
unfolding u16_at u32_at u32_bytes slots_of further_tables chunk_at chunks_from chunks_of held is_accepted
returns-clause-not_locked c = λ s. other_first {x = 64} {y = 48} (λ e. omega arith) (slides_slid scattered locked_moved s).stay
