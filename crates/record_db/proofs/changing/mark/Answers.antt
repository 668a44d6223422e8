use Rattle.std.proofs.Common.{ℕ, bit_or}
use Rattle.record_db.proofs.SetAttributes.{live_may_have, attributes_set}
use Rattle.record_db.proofs.changing.mark.Goals as goal

pub entry_set-requires-clause-info : goal.entry_set-requires-clause-info
entry_set-requires-clause-info c =
    live_may_have _ _ _ _ _ _ c.marked.result c.requires.accepted c.requires.opened.number c.requires.records c.requires.is c.requires.some

pub returns-clause-marked : goal.returns-clause-marked
returns-clause-marked c =
    attributes_set c.args.counts _ _ _ _ _ _ _ _ (λ (attributes : ℕ). bit_or attributes c.args.bits.0) c.requires.accepted c.requires.opened.number c.requires.is c.marked.ensures c.entry_set.ensures.set
