use Rattle.file_commands.proofs.ResourceData.{resource_has_data}
use Rattle.file_commands.proofs.wanted.rank_of_first.Goals as goal

pub returns-clause-there : goal.returns-clause-there
returns-clause-there c = resource_has_data c.args.file.now c.args.kind c.args.id c.args.index c.know_file.ensures.good c.requires
