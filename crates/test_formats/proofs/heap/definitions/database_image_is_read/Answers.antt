use Rattle.std.proofs.Common.{refl}
use Rattle.heap_model.specs.Bytes.{u16_at, u32_at, u32_bytes}
use Rattle.heap_model.specs.Slots.{slots_of, further_tables}
use Rattle.heap_model.specs.Reading.{chunk_at, chunks_from, chunks_of, held, is_accepted}
use Rattle.test_formats.proofs.heap.definitions.database_image_is_read.Goals as goal

pub returns-clause-accepted : goal.returns-clause-accepted
unfolding u16_at u32_at u32_bytes slots_of further_tables chunk_at chunks_from chunks_of held is_accepted
returns-clause-accepted c = refl

pub returns-clause-sizes : goal.returns-clause-sizes
unfolding u16_at u32_at u32_bytes slots_of further_tables chunk_at chunks_from chunks_of held is_accepted
returns-clause-sizes c = refl

pub returns-clause-directory : goal.returns-clause-directory
unfolding u16_at u32_at u32_bytes slots_of further_tables chunk_at chunks_from chunks_of held is_accepted
returns-clause-directory c = refl

pub returns-clause-record : goal.returns-clause-record
unfolding u16_at u32_at u32_bytes slots_of further_tables chunk_at chunks_from chunks_of held is_accepted
returns-clause-record c = refl
