-- The header that is written is that of the database with its number raised.
use Rattle.database_edits.proofs.Laws.{ℕ, length, sym, ap, ◌∙◌, Database, counted_fits, room_here, raised, spells_now, database_now}
use Rattle.database_edits.proofs.counting.count_change.Goals as goal

pub put_modification_number-requires : goal.put_modification_number-requires
put_modification_number-requires c = record { header = room_here c.requires.opened }

pub returns-clause-counted : goal.returns-clause-counted
returns-clause-counted c =
    (raised c.requires.opened.spells c.heading_here-heading.ensures.modification_number
    c.put_modification_number.ensures.puts).leaves

pub returns-clause-now : goal.returns-clause-now
returns-clause-now c = database_now (counted_fits _ c.requires.opened.spells.spelled.fits)
    (raised c.requires.opened.spells c.heading_here-heading.ensures.modification_number
    c.put_modification_number.ensures.puts)

pub returns-clause-opened : goal.returns-clause-opened
returns-clause-opened c = record {
  stands = c.put_modification_number.ensures.header.stands;
  spells = spells_now (counted_fits _ c.requires.opened.spells.spelled.fits)
      (raised c.requires.opened.spells c.heading_here-heading.ensures.modification_number
      c.put_modification_number.ensures.puts);
  count = c.requires.opened.count
      ∙ ap (λ (d : Database ℕ). length d.entries) (sym (returns-clause-now c));
}
