-- IDs that are known of one database are known of another of the same number.
use Rattle.palm_store.proofs.Laws.{ap, ◌∙◌, arith, times, same_number}
use Rattle.palm_store.proofs.entries.known.KnownIds.of.Goals as goal

pub returns-then-self-db-clause-free : goal.returns-then-self-db-clause-free
returns-then-self-db-clause-free c = λ store free id among.
    let same = c.if-self-db.true in
    ap (times id) (same_number store _ _ (omega (arith, same))) ∙ free id among
