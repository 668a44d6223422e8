use Rattle.std.proofs.Common.{refl}
use Rattle.heap_model.specs.Bytes.{u16_at, u32_at, u32_bytes}
use Rattle.heap_model.specs.Chunk.{seen}
use Rattle.heap_model.specs.Slots.{slots_of, further_tables}
use Rattle.heap_model.specs.Reading.{chunk_at, chunks_from, chunks_of, held, is_accepted}
use Rattle.test_formats.proofs.heap.definitions.area_parts_break_alone.Goals as goal

pub returns-clause-tiled : goal.returns-clause-tiled
unfolding u16_at u32_at u32_bytes slots_of further_tables seen chunk_at chunks_from chunks_of held is_accepted
returns-clause-tiled c = refl

pub returns-clause-rest : goal.returns-clause-rest
unfolding u16_at u32_at u32_bytes slots_of further_tables seen chunk_at chunks_from chunks_of held is_accepted
returns-clause-rest c = refl

pub returns-clause-slot_of_nothing : goal.returns-clause-slot_of_nothing
unfolding u16_at u32_at u32_bytes slots_of further_tables seen chunk_at chunks_from chunks_of held is_accepted
returns-clause-slot_of_nothing c = refl

pub returns-clause-slot_inside_a_chunk : goal.returns-clause-slot_inside_a_chunk
unfolding u16_at u32_at u32_bytes slots_of further_tables seen chunk_at chunks_from chunks_of held is_accepted
returns-clause-slot_inside_a_chunk c = refl

pub returns-clause-two_slots_on_one_chunk : goal.returns-clause-two_slots_on_one_chunk
unfolding u16_at u32_at u32_bytes slots_of further_tables seen chunk_at chunks_from chunks_of held is_accepted
returns-clause-two_slots_on_one_chunk c = refl

pub returns-clause-empty_slot : goal.returns-clause-empty_slot
unfolding u16_at u32_at u32_bytes slots_of further_tables seen chunk_at chunks_from chunks_of held is_accepted
returns-clause-empty_slot c = refl

pub returns-clause-two_chunks_on_one_slot : goal.returns-clause-two_chunks_on_one_slot
unfolding u16_at u32_at u32_bytes slots_of further_tables seen chunk_at chunks_from chunks_of held is_accepted
returns-clause-two_chunks_on_one_slot c = refl

pub returns-clause-fixed_of_owner_0 : goal.returns-clause-fixed_of_owner_0
unfolding u16_at u32_at u32_bytes slots_of further_tables seen chunk_at chunks_from chunks_of held is_accepted
returns-clause-fixed_of_owner_0 c = refl

pub returns-clause-fixed_of_owner_15 : goal.returns-clause-fixed_of_owner_15
unfolding u16_at u32_at u32_bytes slots_of further_tables seen chunk_at chunks_from chunks_of held is_accepted
returns-clause-fixed_of_owner_15 c = refl

pub returns-clause-directory_no_slot : goal.returns-clause-directory_no_slot
unfolding u16_at u32_at u32_bytes slots_of further_tables seen chunk_at chunks_from chunks_of held is_accepted
returns-clause-directory_no_slot c = refl

pub returns-clause-directory_empty : goal.returns-clause-directory_empty
unfolding u16_at u32_at u32_bytes slots_of further_tables seen chunk_at chunks_from chunks_of held is_accepted
returns-clause-directory_empty c = refl

pub returns-clause-directory_of_owner_1 : goal.returns-clause-directory_of_owner_1
unfolding u16_at u32_at u32_bytes slots_of further_tables seen chunk_at chunks_from chunks_of held is_accepted
returns-clause-directory_of_owner_1 c = refl

pub returns-clause-next_of_no_table : goal.returns-clause-next_of_no_table
unfolding u16_at u32_at u32_bytes slots_of further_tables seen chunk_at chunks_from chunks_of held is_accepted
returns-clause-next_of_no_table c = refl
