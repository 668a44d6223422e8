-- `read_after_lines` reads the lines of the database, after those that only an exact folder has.
use Rattle.file_parts.proofs.AllWords.{ap, ◌∙◌, IfErr-weaker, IfOk-weaker, exact_with, head_of}
use Rattle.file_parts.proofs.exact_listed.read_after_lines.Goals as goal

pub returns-in-Ok-clause-ok : goal.returns-in-Ok-clause-ok
returns-in-Ok-clause-ok g c = IfOk-weaker c.checked.result _ _
    (λ read is. ap (exact_with (head_of c.args.exact)) c.in-Ok.ensures.ok ∙ is) c.checked.ensures.ok

pub returns-in-Ok-clause-err : goal.returns-in-Ok-clause-err
returns-in-Ok-clause-err g c = IfErr-weaker c.checked.result _ _ (λ fault faulty other.
    ap (exact_with (head_of c.args.exact)) c.in-Ok.ensures.ok ∙ faulty other) c.checked.ensures.err

pub returns-clause-err : goal.returns-clause-err
returns-clause-err g c =
    λ other. ap (exact_with (head_of c.args.exact)) (c.in-Err.ensures.err other)
