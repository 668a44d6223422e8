-- The chunk of a database has no lock, so that it is refused to grow only for lack of room.
use Rattle.std.proofs.lemmas.Result.{IfErr-weaker, on_ok_weaker}
use Rattle.heap_model.specs.Bytes.{sized_to}
use Rattle.database_edits.proofs.Chunks.{rebodied}
use Rattle.database_edits.proofs.Lengths.{refused}
use Rattle.database_edits.proofs.bodies.grow.Goals as goal

pub returns-clause-grows : goal.returns-clause-grows
returns-clause-grows c = on_ok_weaker c.sys_resize.result
    (λ sized. rebodied (λ bytes. sized_to bytes c.args.size) c.requires.managers sized) c.sys_resize.ensures.done

pub returns-clause-no_room : goal.returns-clause-no_room
returns-clause-no_room c = IfErr-weaker c.sys_resize.result _ _ (λ refusal why.
    (refused c.args.heap.now c.args.opened.db.0 c.args.size refusal c.requires.managers
    (c.sys_resize.ensures.managers c.requires.managers.owner) why).2) c.sys_resize.ensures.why

pub returns-clause-refusal : goal.returns-clause-refusal
returns-clause-refusal c = IfErr-weaker c.sys_resize.result _ _ (λ refusal why.
    (refused c.args.heap.now c.args.opened.db.0 c.args.size refusal c.requires.managers
    (c.sys_resize.ensures.managers c.requires.managers.owner) why).0) c.sys_resize.ensures.why
