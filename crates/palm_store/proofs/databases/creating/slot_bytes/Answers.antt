-- The bytes are those of the slot.
use Rattle.heap_model.specs.Bytes.{u32_bytes}
use Rattle.palm_store.proofs.databases.creating.slot_bytes.Goals as goal

pub returns : goal.returns
unfolding u32_bytes
returns c = c.write_u32.ensures
