-- What was known, or was found by the pass over the records, holds of the ID next to the seed.
use Rattle.std.proofs.Common.{bit_and, arith}
use Rattle.std.proofs.lemmas.Nat.{and_mask}
use Rattle.heap_model.specs.Database.{database_in}
use Rattle.heap_model.specs.Store.{unique_ids}
use Rattle.fresh_ids.proofs.StepLaws.{whole_spelled}
use Rattle.fresh_ids.proofs.EndLaws.{next_fresh, fresh_more}
use Rattle.fresh_ids.proofs.fresh.free_ids.Goals as goal

pub seed-requires : goal.seed-requires
seed-requires c = (whole_spelled c.args.body.now c.requires.spelled).header

pub returns-then-has-clause-fresh : goal.returns-then-has-clause-fresh
returns-then-has-clause-fresh c =
    next_fresh c.args.body.now c.seed.result (bit_and c.seed.result 16777215) c.id_behind-next.result c.seed.ensures (and_mask c.seed.result 24) c.id_behind-next.ensures
    (c.requires.known c.id_behind-next.result (c.has.ensures.0 c.if-has.true))

pub end_of_free-end-requires-clause-whole : goal.end_of_free-end-requires-clause-whole
end_of_free-end-requires-clause-whole c = whole_spelled c.args.body.now c.requires.spelled

pub returns-then-next-end-clause-fresh : goal.returns-then-next-end-clause-fresh
returns-then-next-end-clause-fresh c =
    let below = c.if-next-end.true in
    next_fresh c.args.body.now c.seed.result (bit_and c.seed.result 16777215) c.id_behind-next.result c.seed.ensures (and_mask c.seed.result 24) c.id_behind-next.ensures
    (c.end_of_free-end.ensures.free c.id_behind-next.result (omega arith, omega (arith, below)))

pub end_of_free-requires-clause-whole : goal.end_of_free-requires-clause-whole
end_of_free-requires-clause-whole c = whole_spelled c.args.body.now c.requires.spelled

pub returns-clause-more : goal.returns-clause-more
returns-clause-more c = fresh_more (unique_ids (database_in c.args.body.now)) (database_in c.args.body.now).header.seed c.fresh_id-first.result c.end_of_free.result c.fresh_id-first.ensures.fresh c.end_of_free.ensures
