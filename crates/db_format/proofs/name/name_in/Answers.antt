use Rattle.db_format.proofs.NameLaws.{name_in_front}
use Rattle.db_format.proofs.name.name_in.Goals as goal

pub returns : goal.returns
returns c = let length = c.name_length-length.ensures in name_in_front c.args.bytes.now c.name_length-length.result c.requires length.most length.before length.behind
