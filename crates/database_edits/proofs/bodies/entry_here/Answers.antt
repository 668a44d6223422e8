-- There are as many entries as the header says, and of the kind that it says.
use Rattle.database_edits.proofs.Laws.{◌+◌, ap, ◌∙◌, arith, resources_in, header_inside, kind_read, inside_body}
use Rattle.database_edits.proofs.bodies.entry_here.Goals as goal

pub read-requires-clause-header : goal.read-requires-clause-header
read-requires-clause-header c =
    rw c.sys_body_found.ensures (header_inside _ _ c.requires.opened.spells)

pub read-requires-clause-inside : goal.read-requires-clause-inside
read-requires-clause-inside c = rw c.sys_body_found.ensures
    (inside_body (c.args.index + 1) c.requires.opened.spells (kind_read c.requires.opened.spells)
    (omega arith))

pub returns-clause-kind : goal.returns-clause-kind
returns-clause-kind c = c.read.ensures.kind ∙ ap resources_in c.sys_body_found.ensures
    ∙ kind_read c.requires.opened.spells
