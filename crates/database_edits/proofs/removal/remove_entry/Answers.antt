-- What follows the entry slides over it, the header is written field by field, and then the chunk
-- shrinks.
use Rattle.database_edits.proofs.Laws.{◌+◌, ◌-◌, arith, writes_then, slides_then, none_slid, inside_body, database_here, entry_removed, entry_offset, header_bytes, overwritten, sized_to, managers, rebodied_as, then_by}
use Rattle.database_edits.proofs.RemovedEntries.{header_removed, removed_bytes, slid_kept}
use Rattle.database_edits.proofs.removal.remove_entry.Goals as goal

pub slide_entries-requires-clause-from_inside : goal.slide_entries-requires-clause-from_inside
slide_entries-requires-clause-from_inside c =
    inside_body c.args.opened.entry_count c.requires.opened.spells
    c.heading_here-heading.ensures.kind (omega (arith, c.requires.opened.count))

pub slide_entries-requires-clause-to_inside : goal.slide_entries-requires-clause-to_inside
slide_entries-requires-clause-to_inside c =
    inside_body (c.args.index + (c.args.opened.entry_count - (c.args.index + 1)))
    c.requires.opened.spells c.heading_here-heading.ensures.kind
    (omega (arith, c.requires.opened.count))

pub put_entry_count-requires : goal.put_entry_count-requires
put_entry_count-requires c = record {
  header = record {
    stands = c.slide_entries.ensures.stands;
    managers = c.slide_entries.ensures.slides.managers;
    inside = (slid_kept _ c.args.index c.args.opened.entry_count c.requires.opened.spells
        c.slide_entries.ensures.slides).inside;
  };
}

pub shrink-requires-clause-managers : goal.shrink-requires-clause-managers
shrink-requires-clause-managers c =
    (header_removed _ c.args.index c.args.opened.entry_count c.requires.opened.spells
    c.slide_entries.ensures.slides c.requires.inside (omega (arith, c.requires.opened.count))
    c.heading_here-heading.ensures.modification_number c.put_entry_count.ensures.puts
    c.put_modification_number.ensures.puts).puts.managers

pub shrink-requires-clause-inside : goal.shrink-requires-clause-inside
shrink-requires-clause-inside c =
    let header = header_removed _ c.args.index c.args.opened.entry_count c.requires.opened.spells
    c.slide_entries.ensures.slides c.requires.inside (omega (arith, c.requires.opened.count))
    c.heading_here-heading.ensures.modification_number c.put_entry_count.ensures.puts
    c.put_modification_number.ensures.puts in
    let inside = inside_body (c.args.opened.entry_count - 1) c.requires.opened.spells
    c.heading_here-heading.ensures.kind (omega (arith, c.requires.opened.count)) in
    omega (arith, header.len, inside)

pub returns-clause-removed : goal.returns-clause-removed
returns-clause-removed c =
    let header = header_removed _ c.args.index c.args.opened.entry_count c.requires.opened.spells
    c.slide_entries.ensures.slides c.requires.inside (omega (arith, c.requires.opened.count))
    c.heading_here-heading.ensures.modification_number c.put_entry_count.ensures.puts
    c.put_modification_number.ensures.puts in
    let now = header_bytes (entry_removed c.args.index
    (database_here c.args.heap.now.bytes c.args.opened.db.0)) in
    let m = managers _ _ c.requires.opened.spells in
    (rebodied_as (removed_bytes c.args.index (c.args.opened.entry_count - 1)
    c.args.opened.entry_count c.requires.opened.spells c.heading_here-heading.ensures.kind
    c.requires.opened.count (omega (arith, c.requires.opened.count))
    (omega (arith, c.requires.opened.count)))
    (then_by (λ xs. sized_to xs (entry_offset c.heading_here-heading.result.resources
    (c.args.opened.entry_count - 1))) m
    (then_by (λ xs. overwritten xs 0 now) m c.slide_entries.ensures.slides header.puts)
    (rw c.entry_offset.ensures at c.shrink.ensures.shrinks))).leaves

pub returns-clause-kept : goal.returns-clause-kept
returns-clause-kept c =
    let fields = writes_then _ _ _ c.put_entry_count.ensures.kept
    c.put_modification_number.ensures.kept in
    slides_then _ _ _ (slides_then _ _ _ c.slide_entries.ensures.kept (none_slid _ _ fields))
    c.shrink.ensures.kept
