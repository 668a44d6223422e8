use Rattle.std.proofs.Common.{◌+◌, ℕ, List, length, ap, ◌∙◌}
use Rattle.std.proofs.lemmas.List.{length-replicate}
use Rattle.heap_migration.proofs.HeadLaws.{head_written}
use Rattle.heap_migration.proofs.head.write_head.Goals as goal

pub returns-clause-wrote : goal.returns-clause-wrote
returns-clause-wrote c =
    let image : List ℕ = c.args.image.now.bytes in
    head_written image c.args.grown.now.bytes c.write_frame.new.grown.bytes c.raise_slots.new.grown.bytes c.args.by c.requires.accepted c.requires.one_table c.requires.zeros
    (ap (λ (xs : List ℕ). length xs) c.requires.zeros ∙ length-replicate (length image + c.args.by) 0) c.write_frame.ensures.wrote c.raise_slots.ensures.wrote
