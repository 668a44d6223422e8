use Rattle.std.proofs.Common.{ap, length, ◌∙◌}
use Rattle.std.proofs.lemmas.List.{length-replicate}
use Rattle.heap_model.specs.Memory.{Memory}
use Rattle.raw_region.proofs.LoanLaws.{all_over}
use Rattle.raw_region.proofs.region.Region.copied_from.Goals as goal

pub returns-clause-bytes : goal.returns-clause-bytes
returns-clause-bytes g c =
    c.write.ensures.bytes
    ∙ all_over c.region.inside.run.bytes c.args.bytes.now
    (ap length (ap (λ (m : Memory). m.bytes) c.region.view_is ∙ c.in_ok-region.ensures.bytes) ∙ length-replicate (length c.args.bytes.now) 0)
