use Rattle.std.proofs.Common.{refl}
use Rattle.heap_model.specs.Bytes.{u16_at, u32_at, u32_bytes}
use Rattle.heap_model.specs.Chunk.{seen}
use Rattle.heap_model.specs.Slots.{slots_of, further_tables}
use Rattle.heap_model.specs.Reading.{chunk_at, chunks_from, chunks_of, held, is_accepted}
use Rattle.test_formats.proofs.heap.definitions.fixed_chunk_is_read.Goals as goal

pub returns-clause-accepted : goal.returns-clause-accepted
unfolding u16_at u32_at u32_bytes slots_of further_tables seen chunk_at chunks_from chunks_of held is_accepted
returns-clause-accepted c = refl

pub returns-clause-chunks : goal.returns-clause-chunks
unfolding u16_at u32_at u32_bytes slots_of further_tables seen chunk_at chunks_from chunks_of held is_accepted
returns-clause-chunks c = refl

pub returns-clause-held : goal.returns-clause-held
unfolding u16_at u32_at u32_bytes slots_of further_tables seen chunk_at chunks_from chunks_of held is_accepted
returns-clause-held c = refl
