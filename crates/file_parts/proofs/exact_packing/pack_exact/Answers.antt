-- `pack_exact` puts the parts of an exact folder together, by their ranks and with the filler last,
-- and returns the file.
use Rattle.file_parts.proofs.AllWords.{IfErr-weaker, IfOk-weaker}
use Rattle.file_parts.proofs.exact_packing.pack_exact.Goals as goal

pub returns-in-Ok-clause-packed : goal.returns-in-Ok-clause-packed
returns-in-Ok-clause-packed g c = IfOk-weaker c.with_tail.result _ _
    (λ bytes is. rw is c.in-Ok.ensures.packed) c.with_tail.ensures.file

pub returns-in-Ok-clause-why : goal.returns-in-Ok-clause-why
returns-in-Ok-clause-why g c =
    IfErr-weaker c.with_tail.result _ _ (λ fault is. rw is tt) c.with_tail.ensures.memory
