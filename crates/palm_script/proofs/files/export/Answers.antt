use Rattle.std.proofs.Common.{sym, ◌∙◌}
use Rattle.heap_model.specs.declared.call.Reply.TheVariants as replies
use Rattle.palm_script.proofs.CallLaws.{want_of}
use Rattle.palm_script.proofs.files.export.Goals as goal

pub returns-clause-no_memory : goal.returns-clause-no_memory
returns-clause-no_memory g c = λ want.
    c.exported.ensures.no_memory (want_of (λ bytes. replies.Data bytes) c.exported.result (λ bytes e. cc) (sym c.data.ensures ∙ want))
