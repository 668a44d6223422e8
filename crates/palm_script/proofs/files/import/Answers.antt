use Rattle.std.proofs.Common.{sym, ◌∙◌}
use Rattle.heap_model.specs.declared.call.Reply.TheVariants as replies
use Rattle.palm_script.proofs.CallLaws.{want_of}
use Rattle.palm_script.proofs.files.import.Goals as goal

pub returns-clause-no_memory : goal.returns-clause-no_memory
returns-clause-no_memory g c = λ want.
    c.import_from.ensures.no_memory (want_of (λ db. replies.Database db) c.import_from.result (λ db e. cc) (sym c.database.ensures ∙ want))
