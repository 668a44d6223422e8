-- `directory_in` returns the bytes of the directory, or none if there is no directory, by the laws
-- of LookupLaws.
use Rattle.std.proofs.Common.{◌∙◌, sym}
use Rattle.store_check.proofs.LookupLaws.{no_directory, some_directory, the_directory}
use Rattle.store_check.proofs.lookup.directory_in.Goals as goal

pub body_under-requires-clause-managers : goal.body_under-requires-clause-managers
body_under-requires-clause-managers c = some_directory c.args.region.now.bytes _ c.requires.accepted
    c.directory-slot.ensures c.if-slot-eq0.false

pub returns-then-slot-eq0 : goal.returns-then-slot-eq0
returns-then-slot-eq0 c = c.slice.ensures ∙ no_directory c.args.region.now.bytes c.requires.accepted
    (sym c.directory-slot.ensures ∙ c.if-slot-eq0.true)

pub returns : goal.returns
returns c = c.bytes_of.ensures ∙ sym c.body_under.ensures.bytes
    ∙ the_directory c.args.region.now.bytes c.directory-slot.result c.directory-slot.ensures
