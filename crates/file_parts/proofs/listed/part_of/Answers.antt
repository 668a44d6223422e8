-- `part_of` returns the part of an entry, by the laws of ListedEntries.
use Rattle.std.proofs.Common.{sym}
use Rattle.file_parts.proofs.ListedEntries.{data_listed}
use Rattle.file_parts.proofs.listed.part_of.Goals as goal

pub returns : goal.returns
returns c = sym (data_listed c.args.entries.now c.args.index _ c.requires)
