-- `sound_name` returns the name of the new database, by the laws of SoundParts.
use Rattle.std.proofs.Common.{rules}
use Rattle.canonical_file.proofs.SoundParts.{named_stays}
use Rattle.canonical_file.proofs.mended.sound_name.Goals as goal

pub returns-else-is_empty-clause-valid : goal.returns-else-is_empty-clause-valid
returns-else-is_empty-clause-valid c =
    search (rules, named_stays c.args.file.now c.name_in-name.result.now c.name_in-name.ensures)
