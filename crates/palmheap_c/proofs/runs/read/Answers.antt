-- `read` refuses a script with its fault, by the laws of AnswerLaws.
use Rattle.std.proofs.Common.{refl}
use Rattle.palmheap_c.proofs.AnswerLaws.{script_refused}
use Rattle.palmheap_c.proofs.runs.read.Goals as goal

pub returns-in-Err-parse-clause-refused : goal.returns-in-Err-parse-clause-refused
returns-in-Err-parse-clause-refused c =
    script_refused c.args.image.now c.args.script.now c.in-Err-parse.fault c.of_line.result
    c.in-Err-parse.fault.fault refl c.in-Ok.ensures.store.is.accepted c.of_line.ensures
    c.in-Err-parse.ensures.err c.in-Err-parse.ensures.no_memory
