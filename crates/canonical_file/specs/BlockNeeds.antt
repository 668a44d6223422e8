-- The bytes and the slots that the block at a place takes.
use Rattle.std.specs.Prelude.{ℕ, Option}
use Rattle.pdb_format.specs.Blocks.{size_within}
use Rattle.pdb_format.specs.declared.blocks.Block.{Block}
use Rattle.canonical_file.specs.Needs.{chunk_need, chunk_slots}

abbrev pub block_need : Option Block → ℕ
block_need block = chunk_need (size_within block)

abbrev pub block_slots : Option Block → ℕ
block_slots block = chunk_slots (size_within block)
