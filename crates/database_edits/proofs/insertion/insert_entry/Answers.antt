-- The chunk has the room of an entry more, those after slide into it, and the header is written
-- field by field.
use Rattle.database_edits.proofs.Laws.{◌+◌, database_here, sym, ◌∙◌, arith, entry_of, writes_then, slides_then, none_slid, is_movable, headed, entry_inserted, entry_bytes, entry_offset, header_bytes, overwritten, managers, rebodied_as, slid, then_by}
use Rattle.laws_heap.proofs.Results.{on_err}
use Rattle.database_edits.proofs.InsertedEntries.{header_inserted, header_stays, inserted_bytes, short_of}
use Rattle.database_edits.proofs.insertion.insert_entry.Goals as goal

pub sys_find-requires : goal.sys_find-requires
sys_find-requires c = is_movable _ _ c.in_ok-grow.ensures.grows.managers

pub returns-in_err-grow-clause-no_room : goal.returns-in_err-grow-clause-no_room
returns-in_err-grow-clause-no_room c = on_err _ c.from_residual.result
    (rw c.is_resource-resources.ensures at (short_of c.requires.opened.spells
    (c.is_resource-resources.ensures ∙ c.requires.kind) c.requires.opened.count
    c.entry_offset.ensures c.in_err-grow.ensures.no_room))

pub put_entry_count-requires : goal.put_entry_count-requires
put_entry_count-requires c = record {
  header = record {
    stands = c.put_entry.ensures.stands;
    managers = c.put_entry.ensures.writes.managers;
    inside = (header_stays c.is_resource-resources.result _ c.args.index c.entry_offset.result
        c.args.opened.entry_count c.requires.opened.spells (omega arith)
        c.in_ok-grow.ensures.grows c.slide_entries.ensures.slides c.put_entry.ensures.writes).inside;
  };
}

pub returns-clause-inserted : goal.returns-clause-inserted
returns-clause-inserted c =
    let kind = c.is_resource-resources.ensures ∙ c.requires.kind in
    let has = header_stays c.is_resource-resources.result _ c.args.index c.entry_offset.result
    c.args.opened.entry_count c.requires.opened.spells (omega arith) c.in_ok-grow.ensures.grows
    c.slide_entries.ensures.slides c.put_entry.ensures.writes in
    let header = header_inserted c.args.index (entry_of c.args.entry)
    (headed _ c.put_entry.ensures.writes.managers has) c.requires.inside c.requires.opened.count
    (c.seed_after.ensures _ (sym c.heading_here-heading.ensures.seed))
    c.heading_here-heading.ensures.modification_number c.put_entry_count.ensures.puts
    c.put_seed.ensures.puts c.put_modification_number.ensures.puts in
    let resources = c.is_resource-resources.result in
    let now = header_bytes (entry_inserted c.args.index (entry_of c.args.entry)
    (database_here c.args.heap.now.bytes c.args.opened.db.0)) in
    let m = managers _ _ c.requires.opened.spells in
    (rebodied_as (inserted_bytes c.args.index c.entry_offset.result c.args.opened.entry_count
    c.args.entry c.requires.opened.spells c.requires.inside (sym c.is_resource-resources.ensures)
    kind c.requires.opened.count c.entry_offset.ensures)
    (then_by (λ xs. overwritten xs 0 now) m
    (then_by (λ xs. overwritten xs (entry_offset resources c.args.index)
    (entry_bytes (entry_of c.args.entry))) m
    (then_by (slid resources c.args.index c.args.opened.entry_count (c.args.index + 1)) m
    c.in_ok-grow.ensures.grows c.slide_entries.ensures.slides) c.put_entry.ensures.writes)
    header.puts)).leaves

pub returns-clause-kept : goal.returns-clause-kept
returns-clause-kept c =
    let slid = slides_then _ _ _ c.grow.ensures.kept c.slide_entries.ensures.kept in
    let count = writes_then _ _ _ c.put_entry.ensures.kept c.put_entry_count.ensures.kept in
    let fields = writes_then _ _ _ c.put_seed.ensures.kept c.put_modification_number.ensures.kept in
    slides_then _ _ _ slid (none_slid _ _ (writes_then _ _ _ count fields))
