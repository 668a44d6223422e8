-- `directory_in` returns the bytes of the directory, or none if the directory word is 0.
use Rattle.heap_map.proofs.Words.{◌∙◌, sym, no_directory, some_directory, the_directory}
use Rattle.heap_map.proofs.reading.directory_in.Goals as goal

pub managers_bytes-requires-clause-managers : goal.managers_bytes-requires-clause-managers
managers_bytes-requires-clause-managers c =
    some_directory _ _ c.requires.accepted c.directory-slot.ensures c.if-slot-eq0.false

pub returns-then-slot-eq0 : goal.returns-then-slot-eq0
returns-then-slot-eq0 c = c.slice.ensures
    ∙ no_directory _ c.requires.accepted (sym c.directory-slot.ensures ∙ c.if-slot-eq0.true)

pub returns : goal.returns
returns c =
    c.managers_bytes.ensures ∙ the_directory c.args.region.now.bytes _ c.directory-slot.ensures
