use Rattle.std.proofs.Common.{refl}
use Rattle.heap_model.specs.Bytes.{u16_at, u32_at, u32_bytes}
use Rattle.heap_model.specs.Slots.{slots_of, further_tables}
use Rattle.heap_model.specs.Reading.{chunk_at, chunks_from, chunks_of, held, is_accepted}
use Rattle.test_formats.proofs.heap.definitions.blank_image_is_read.Goals as goal

pub returns-clause-accepted : goal.returns-clause-accepted
unfolding u16_at u32_at u32_bytes slots_of further_tables chunk_at chunks_from chunks_of held is_accepted
returns-clause-accepted c = refl

pub returns-clause-chunks : goal.returns-clause-chunks
unfolding u16_at u32_at u32_bytes slots_of further_tables chunk_at chunks_from chunks_of held is_accepted
returns-clause-chunks c = refl

pub returns-clause-slots : goal.returns-clause-slots
unfolding u16_at u32_at u32_bytes slots_of further_tables chunk_at chunks_from chunks_of held is_accepted
returns-clause-slots c = refl

pub returns-clause-nothing : goal.returns-clause-nothing
unfolding u16_at u32_at u32_bytes slots_of further_tables chunk_at chunks_from chunks_of held is_accepted
returns-clause-nothing c = refl
