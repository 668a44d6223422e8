use Rattle.std.proofs.Common.{refl, arith, replicate}
use Rattle.heap_model.specs.Bytes.{u16_at, u32_at, u32_bytes}
use Rattle.heap_model.specs.Reading.{chunk_at, chunks_from, chunks_of, held}
use Rattle.test_formats.specs.Stretches.{one_in_front}
use Rattle.test_formats.specs.Moves.{scattered}
use Rattle.test_formats.proofs.MoveLaws.{fits, fits_not}
use Rattle.test_formats.proofs.heap.moves.chunk_fits_in_place.Goals as goal

pub returns-clause-locked : goal.returns-clause-locked
unfolding u16_at u32_at u32_bytes chunk_at chunks_from chunks_of held
returns-clause-locked c = fits scattered 24 32 (record { bytes = replicate 8 0; lock = 1; owner = 1 }) refl (omega arith)

pub returns-clause-not_locked : goal.returns-clause-not_locked
unfolding u16_at u32_at u32_bytes chunk_at chunks_from chunks_of held
returns-clause-not_locked c = fits_not scattered 24 40 (record { bytes = replicate 8 0; lock = 1; owner = 1 }) refl (omega arith)

pub returns-clause-behind_room : goal.returns-clause-behind_room
unfolding u16_at u32_at u32_bytes chunk_at chunks_from chunks_of held
returns-clause-behind_room c = fits scattered 16 16 (record { bytes = replicate 8 0; lock = 0; owner = 1 }) refl (omega arith)

pub returns-clause-not_behind_room : goal.returns-clause-not_behind_room
unfolding u16_at u32_at u32_bytes chunk_at chunks_from chunks_of held
returns-clause-not_behind_room c = fits_not scattered 16 24 (record { bytes = replicate 8 0; lock = 0; owner = 1 }) refl (omega arith)

pub returns-clause-before_two : goal.returns-clause-before_two
unfolding u16_at u32_at u32_bytes chunk_at chunks_from chunks_of held
returns-clause-before_two c = fits one_in_front 20 96 (record { bytes = replicate 24 0; lock = 0; owner = 1 }) refl (omega arith)

pub returns-clause-not_before_two : goal.returns-clause-not_before_two
unfolding u16_at u32_at u32_bytes chunk_at chunks_from chunks_of held
returns-clause-not_before_two c = fits_not one_in_front 20 104 (record { bytes = replicate 24 0; lock = 0; owner = 1 }) refl (omega arith)
