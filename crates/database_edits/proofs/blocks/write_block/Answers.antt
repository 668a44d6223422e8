-- The block is named first, and then the number is raised.
use Rattle.database_edits.proofs.Laws.{arith, writes_then, room_here, block_fits, block_written}
use Rattle.database_edits.proofs.blocks.write_block.Goals as goal

pub put_info_block-requires : goal.put_info_block-requires
put_info_block-requires c = record { header = room_here c.requires.opened }

pub returns-clause-written : goal.returns-clause-written
returns-clause-written c =
    (block_written c.args.which c.args.slot c.requires.opened.spells (omega arith)
    c.heading_here-heading.ensures.modification_number c.put_info_block.ensures.puts
    c.put_modification_number.ensures.puts).leaves

pub returns-clause-fits : goal.returns-clause-fits
returns-clause-fits c =
    block_fits c.args.which c.args.slot _ (omega arith) c.requires.opened.spells.spelled.fits

pub returns-clause-kept : goal.returns-clause-kept
returns-clause-kept c =
    writes_then _ _ _ c.put_info_block.ensures.kept c.put_modification_number.ensures.kept
