-- `header_of` returns the header and entries of a database from the table, by the laws of
-- LookupLaws.
use Rattle.store_check.proofs.LookupLaws.{header_noted, header_bytes}
use Rattle.store_check.proofs.lookup.header_of.Goals as goal

pub bytes_of-requires-clause-inside : goal.bytes_of-requires-clause-inside
bytes_of-requires-clause-inside c =
    (header_noted _ _ c.args.db _ c.requires.listed c.requires.below).inside

pub returns : goal.returns
returns c = header_bytes c.args.region.now.bytes c.bytes_of.result.now c.args.db _
    (header_noted _ _ c.args.db _ c.requires.listed c.requires.below) c.bytes_of.ensures
