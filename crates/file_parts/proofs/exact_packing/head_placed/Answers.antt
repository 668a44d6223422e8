-- `head_placed` does the same as `exact_head`, whether or not a block is misplaced.
use Rattle.std.proofs.Common.{◌∙◌}
use Rattle.file_parts.proofs.PackedFiles.{count_packed}
use Rattle.file_parts.proofs.exact_packing.head_placed.Goals as goal

pub head_by-requires-clause-count : goal.head_by-requires-clause-count
head_by-requires-clause-count g c =
    c.in-Ok.ensures.are.offsets.count ∙ count_packed c.args.exact.now.listed c.args.parts.now
