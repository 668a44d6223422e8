use Rattle.std.proofs.Common.{refl}
use Rattle.heap_model.specs.Bytes.{u16_at, u32_at, u32_bytes}
use Rattle.heap_model.specs.Slots.{slots_of, further_tables}
use Rattle.heap_model.specs.Reading.{chunk_at, chunks_from, chunks_of, held, is_accepted}
use Rattle.test_formats.proofs.heap.definitions.shape_is_read.Goals as goal

pub returns-clause-size_below_8 : goal.returns-clause-size_below_8
unfolding u16_at u32_at u32_bytes slots_of further_tables chunk_at chunks_from chunks_of held is_accepted
returns-clause-size_below_8 c = refl

pub returns-clause-size_not_whole : goal.returns-clause-size_not_whole
unfolding u16_at u32_at u32_bytes slots_of further_tables chunk_at chunks_from chunks_of held is_accepted
returns-clause-size_not_whole c = refl

pub returns-clause-size_beyond : goal.returns-clause-size_beyond
unfolding u16_at u32_at u32_bytes slots_of further_tables chunk_at chunks_from chunks_of held is_accepted
returns-clause-size_beyond c = refl

pub returns-clause-zero_bit : goal.returns-clause-zero_bit
unfolding u16_at u32_at u32_bytes slots_of further_tables chunk_at chunks_from chunks_of held is_accepted
returns-clause-zero_bit c = refl

pub returns-clause-adjustment_above_7 : goal.returns-clause-adjustment_above_7
unfolding u16_at u32_at u32_bytes slots_of further_tables chunk_at chunks_from chunks_of held is_accepted
returns-clause-adjustment_above_7 c = refl

pub returns-clause-adjustment_above_body : goal.returns-clause-adjustment_above_body
unfolding u16_at u32_at u32_bytes slots_of further_tables chunk_at chunks_from chunks_of held is_accepted
returns-clause-adjustment_above_body c = refl

pub returns-clause-fixed_with_offset : goal.returns-clause-fixed_with_offset
unfolding u16_at u32_at u32_bytes slots_of further_tables chunk_at chunks_from chunks_of held is_accepted
returns-clause-fixed_with_offset c = refl

pub returns-clause-locked_of_owner_0 : goal.returns-clause-locked_of_owner_0
unfolding u16_at u32_at u32_bytes slots_of further_tables chunk_at chunks_from chunks_of held is_accepted
returns-clause-locked_of_owner_0 c = refl

pub returns-clause-locked : goal.returns-clause-locked
unfolding u16_at u32_at u32_bytes slots_of further_tables chunk_at chunks_from chunks_of held is_accepted
returns-clause-locked c = refl

pub returns-clause-behind_its_slot : goal.returns-clause-behind_its_slot
unfolding u16_at u32_at u32_bytes slots_of further_tables chunk_at chunks_from chunks_of held is_accepted
returns-clause-behind_its_slot c = refl
