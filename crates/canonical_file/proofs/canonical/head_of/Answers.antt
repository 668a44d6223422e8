-- `head_of` returns the part of a new file before its blocks, by the contracts of its calls.
use Rattle.canonical_file.proofs.canonical.head_of.Goals as goal

pub returns-clause-is : goal.returns-clause-is
returns-clause-is g c = c.append_head.ensures.items
