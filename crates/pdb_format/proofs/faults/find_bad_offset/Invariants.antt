-- The loop of `find_bad_offset` keeps its invariant: no entry before the index has a bad offset.
use Rattle.std.proofs.Common.{ℕ, ◌<◌}
use Rattle.heap_model.specs.Files.{HasFault}
use Rattle.heap_model.specs.declared.file_fault.FileFault.TheVariants.{BadOffset}
use Rattle.pdb_format.proofs.faults.find_bad_offset.Given as goal

abbrev pub invariant-loop-index : goal.invariant-loop-index
invariant-loop-index g l =
    (index : ℕ) → index < l.index → HasFault (g.B.FileBytes.bytes l.file) (BadOffset index) → ⊥
