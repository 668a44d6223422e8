-- Those between slide to the front over the entry.
use Rattle.database_edits.proofs.Laws.{◌∙◌, ◌+◌, ◌-◌, arith, entry_of, slides_then, none_slid, inside_body, went_back}
use Rattle.database_edits.proofs.moving.move_to_back.Goals as goal

pub slide_entries-requires-clause-from_inside : goal.slide_entries-requires-clause-from_inside
slide_entries-requires-clause-from_inside c = inside_body c.args.to c.requires.opened.spells
    (c.is_resource-resources.ensures ∙ c.entry_here-entry.ensures.kind) c.requires.inside

pub slide_entries-requires-clause-to_inside : goal.slide_entries-requires-clause-to_inside
slide_entries-requires-clause-to_inside c =
    inside_body (c.args.from + (c.args.to - (c.args.from + 1))) c.requires.opened.spells
    (c.is_resource-resources.ensures ∙ c.entry_here-entry.ensures.kind) (omega arith)

pub put_entry-requires-clause-inside : goal.put_entry-requires-clause-inside
put_entry-requires-clause-inside c =
    omega (
      arith,
      inside_body (c.args.to - 1 + 1) c.requires.opened.spells
          (c.is_resource-resources.ensures ∙ c.entry_here-entry.ensures.kind) (omega arith),
    )

pub returns-clause-respells : goal.returns-clause-respells
returns-clause-respells c =
    went_back c.args.from c.args.to (entry_of c.entry_here-entry.result) c.requires.opened.spells
    (c.is_resource-resources.ensures ∙ c.entry_here-entry.ensures.kind) c.requires.back
    c.requires.inside c.entry_here-entry.ensures.is c.slide_entries.ensures.slides
    c.put_entry.ensures.writes

pub returns-clause-kept : goal.returns-clause-kept
returns-clause-kept c =
    slides_then _ _ _ c.slide_entries.ensures.kept (none_slid _ _ c.put_entry.ensures.kept)
