-- `header_in` returns the bytes of the header that the directory lists at an index, by the laws of
-- ReadingLaws.
use Rattle.heap_map.proofs.Laws.{◌∙◌, ◌*◌, word_listed, header_owner, header_bytes}
use Rattle.db_format.proofs.WordLaws.{u32_at_part}
use Rattle.heap_map.proofs.reading.header_in.Goals as goal

pub managers_bytes-requires-clause-managers : goal.managers_bytes-requires-clause-managers
managers_bytes-requires-clause-managers c =
    header_owner _ _ c.read_u32-slot.result c.requires.accepted c.requires.below
    (u32_at_part _ (4 * c.args.db) c.args.directory.now c.read_u32-slot.ensures
    ∙ word_listed c.args.region.now.bytes _ c.args.db c.requires.directory)

pub returns : goal.returns
returns c =
    c.managers_bytes.ensures ∙ header_bytes c.args.region.now.bytes c.args.db c.read_u32-slot.result
    (u32_at_part _ (4 * c.args.db) c.args.directory.now c.read_u32-slot.ensures
    ∙ word_listed c.args.region.now.bytes _ c.args.db c.requires.directory)
