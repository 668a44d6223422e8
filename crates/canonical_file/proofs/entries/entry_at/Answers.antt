-- `entry_at` returns the entry at an index, with its data at an offset, by the laws of EntryTexts.
use Rattle.std.proofs.Common.{None, get_or, ap, ◌∙◌, ◌+◌}
use Rattle.heap_model.specs.Database.{entry_in}
use Rattle.heap_model.specs.Files.{blocks_in, block_offset}
use Rattle.canonical_file.proofs.EntryTexts.{written_placed}
use Rattle.canonical_file.specs.Written.{ids_of}
use Rattle.canonical_file.proofs.entries.entry_at.Goals as goal

pub returns-clause-is : goal.returns-clause-is
returns-clause-is g c =
    let file = c.args.file.now in
    c.entry_with_id.ensures.is
    ∙ written_placed (entry_in file c.args.index) (get_or (ids_of file c.args.ids) c.args.index 0)
    c.args.at c.block_offset.result (get_or (blocks_in file) (2 + c.args.index) None)
    (c.block_offset.ensures file ∙ ap (block_offset c.args.at) c.requires.block)
