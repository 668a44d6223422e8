-- A chunk without a lock is never refused to shrink.
use Rattle.std.proofs.lemmas.Result.{IfOk-at_ok}
use Rattle.heap_model.specs.Bytes.{sized_to}
use Rattle.database_edits.proofs.Chunks.{rebodied}
use Rattle.database_edits.proofs.Lengths.{shrinks_ok}
use Rattle.database_edits.proofs.bodies.shrink.Goals as goal

pub unwrap-requires : goal.unwrap-requires
unwrap-requires c =
    shrinks_ok c.args.heap.now c.args.opened.db.0 c.args.size c.sys_resize.result
    c.requires.managers (c.sys_resize.ensures.managers c.requires.managers.owner)
    c.requires.inside c.sys_resize.ensures.why

pub returns-clause-shrinks : goal.returns-clause-shrinks
returns-clause-shrinks c = rebodied (λ bytes. sized_to bytes c.args.size) c.requires.managers
    (IfOk-at_ok _ c.unwrap.ensures c.sys_resize.ensures.done)
