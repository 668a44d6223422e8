-- The loop of `put_blocks` keeps its invariant: the run lies within the source, and the run and the
-- blocks that are left complete the text.
use Rattle.std.proofs.Common.{◌++◌, length, drop, Bool}
use Rattle.std.specs.Prelude.{Some}
use Rattle.palm_text.specs.Counted.{Writing, Writes}
use Rattle.pdb_format.specs.Blocks.{IsBlockWithin}
use Rattle.canonical_file.specs.Canonical.{blocks_at, run_bytes}
use Rattle.canonical_file.proofs.blocks.put_blocks.Given as goal

abbrev pub invariant-loop-index : goal.invariant-loop-index
invariant-loop-index g l = record {
  within : IsBlockWithin (length l.source) (Some l.run);
  text : (new : Writing g.row.W.Denot) (ok : Bool)
      → Writes g.W.Write.contents l.out new (run_bytes l.source l.run ++ blocks_at l.source (drop l.index l.blocks)) ok
      → Writes g.W.Write.contents l.fn.out new (blocks_at l.source l.blocks) ok;
}
