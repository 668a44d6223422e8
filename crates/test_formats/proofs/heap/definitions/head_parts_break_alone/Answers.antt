use Rattle.std.proofs.Common.{refl}
use Rattle.heap_model.specs.Bytes.{u16_at, u32_at, u32_bytes}
use Rattle.heap_model.specs.Slots.{slots_of, further_tables}
use Rattle.heap_model.specs.Reading.{chunk_at, chunks_from, chunks_of, held, is_accepted}
use Rattle.test_formats.proofs.heap.definitions.head_parts_break_alone.Goals as goal

pub returns-clause-magic : goal.returns-clause-magic
unfolding u16_at u32_at u32_bytes slots_of further_tables chunk_at chunks_from chunks_of held is_accepted
returns-clause-magic c = refl

pub returns-clause-size : goal.returns-clause-size
unfolding u16_at u32_at u32_bytes slots_of further_tables chunk_at chunks_from chunks_of held is_accepted
returns-clause-size c = refl

pub returns-clause-least : goal.returns-clause-least
unfolding u16_at u32_at u32_bytes slots_of further_tables chunk_at chunks_from chunks_of held is_accepted
returns-clause-least c = refl

pub returns-clause-some_slot : goal.returns-clause-some_slot
unfolding u16_at u32_at u32_bytes slots_of further_tables chunk_at chunks_from chunks_of held is_accepted
returns-clause-some_slot c = refl

pub returns-clause-a_chunk_fits : goal.returns-clause-a_chunk_fits
unfolding u16_at u32_at u32_bytes slots_of further_tables chunk_at chunks_from chunks_of held is_accepted
returns-clause-a_chunk_fits c = refl

pub returns-clause-reserved : goal.returns-clause-reserved
unfolding u16_at u32_at u32_bytes slots_of further_tables chunk_at chunks_from chunks_of held is_accepted
returns-clause-reserved c = refl

pub returns-clause-padding : goal.returns-clause-padding
unfolding u16_at u32_at u32_bytes slots_of further_tables chunk_at chunks_from chunks_of held is_accepted
returns-clause-padding c = refl
