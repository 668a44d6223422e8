use Rattle.file_commands.proofs.ResourceData.{never_none}
use Rattle.file_commands.proofs.wanted.find_block.Goals as goal

pub unreachable-requires : goal.unreachable-requires
unreachable-requires c = never_none c.args.file.now c.in-Ok.rank c.in-None.ensures c.in-Ok.ensures.there
