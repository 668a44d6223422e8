-- An entry takes as many bytes as entries of its kind do.
use Rattle.database_edits.proofs.Laws.{length, ap, arith, length_kept, offset_entry}
use Rattle.db_format.specs.declared.db_entry.DbEntry.TheVariants.{Record, Resource}
use Rattle.database_edits.proofs.bodies.put_entry.Goals as goal

pub put_part-requires-clause-inside : goal.put_part-requires-clause-inside
put_part-requires-clause-inside c = omega (
  arith,
  ap length c.to_bytes.ensures.is,
  offset_entry (Record c.in-Record.record) c.args.index (rw c.in-Record.is at c.requires.kind),
)

pub put_part-requires-in-Resource-clause-inside : goal.put_part-requires-in-Resource-clause-inside
put_part-requires-in-Resource-clause-inside c =
    omega (
      arith,
      ap length c.to_bytes-in-Resource.ensures.is,
      offset_entry (Resource c.in-Resource.resource) c.args.index
          (rw c.in-Resource.is at c.requires.kind),
    )

pub returns-in-Record-clause-writes : goal.returns-in-Record-clause-writes
returns-in-Record-clause-writes c = rw c.in-Record.is
    (rw (c.entry_offset-at.ensures, c.to_bytes.ensures.is) at c.put_part.ensures.writes)

pub returns-in-Resource-clause-writes : goal.returns-in-Resource-clause-writes
returns-in-Resource-clause-writes c = rw c.in-Resource.is
    (rw (c.entry_offset-at.ensures, c.to_bytes-in-Resource.ensures.is)
    at c.put_part-in-Resource.ensures.writes)

pub returns-in-Record-clause-len : goal.returns-in-Record-clause-len
returns-in-Record-clause-len c = length_kept _ _ (returns-in-Record-clause-writes c)
    (omega (arith, offset_entry c.args.entry c.args.index c.requires.kind))

pub returns-in-Resource-clause-len : goal.returns-in-Resource-clause-len
returns-in-Resource-clause-len c = length_kept _ _ (returns-in-Resource-clause-writes c)
    (omega (arith, offset_entry c.args.entry c.args.index c.requires.kind))
