-- `read_listed_exact` reads the text of an exact folder after its first line.
use Rattle.file_parts.proofs.AllWords.{ap, ◌∙◌, IfErr-weaker, IfOk-weaker, unless_head}
use Rattle.file_parts.proofs.exact_listed.read_listed_exact.Goals as goal

pub returns-in-Ok-clause-ok : goal.returns-in-Ok-clause-ok
returns-in-Ok-clause-ok g c = IfOk-weaker c.read_after_lines.result _ _
    (λ read is. ap unless_head c.in-Ok.ensures.ok ∙ is) c.read_after_lines.ensures.ok

pub returns-in-Ok-clause-err : goal.returns-in-Ok-clause-err
returns-in-Ok-clause-err g c = IfErr-weaker c.read_after_lines.result _ _ (λ fault faulty other.
    ap unless_head c.in-Ok.ensures.ok ∙ faulty other) c.read_after_lines.ensures.err

pub returns-in-Err-clause-err : goal.returns-in-Err-clause-err
returns-in-Err-clause-err g c = λ other. ap unless_head (c.in-Err.ensures.err other)
