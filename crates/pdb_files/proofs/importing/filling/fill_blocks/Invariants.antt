-- The loop of `fill_blocks` keeps its invariant: the chunks of the blocks before this one are
-- filled.
use Rattle.pdb_files.proofs.Laws.{map, bytes_at, numbers_in, IsFilling}
use Rattle.pdb_files.proofs.importing.filling.fill_blocks.Given as goal

abbrev pub invariant-loop-index : goal.invariant-loop-index
invariant-loop-index l =
    IsFilling l.initial.store l.store (map (bytes_at l.file) l.blocks) (numbers_in l.names) l.index
