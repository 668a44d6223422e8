-- `part_of` returns at most `MOST_APP` bytes from an offset on, by the laws of StartLaws.
use Rattle.pdb_format.specs.FileStarts.{most_app}
use Rattle.pdb_format.proofs.StartLaws.{part_taken}
use Rattle.pdb_format.proofs.file_bytes.part_of.Goals as goal

pub returns : goal.returns
returns c = part_taken c.args.all.now c.args.at most_app c.min.result c.min.ensures
