use Rattle.file_ids.proofs.FreshLaws.{passes_first, passes_more, fewer_left, passed_fits, fresh_there}
use Rattle.file_ids.proofs.fresh.first_free.Goals as goal

pub loop-id-init : goal.loop-id-init
loop-id-init c = passes_first c.args.taken.now c.args.seed c.next_id-id.result c.next_id-id.ensures

pub loop-id-preserved : goal.loop-id-preserved
loop-id-preserved c =
    passes_more c.args.taken.now c.args.seed c.loop-id.id c.next_id-id-in-loop-id.result c.requires.seed c.requires.room (c.has.ensures.0 c.loop-id-test.true) c.next_id-id-in-loop-id.ensures c.loop-id.invariant

pub loop-id-smaller : goal.loop-id-smaller
loop-id-smaller c =
    fewer_left c.args.taken.now c.args.seed c.loop-id.id c.next_id-id-in-loop-id.result c.requires.seed c.requires.room (c.has.ensures.0 c.loop-id-test.true) c.next_id-id-in-loop-id.ensures c.loop-id.invariant

pub returns-clause-fresh : goal.returns-clause-fresh
returns-clause-fresh c ids has = fresh_there c.args.taken.now ids c.args.seed c.loop-id.id c.requires.seed (λ here. (let yes = c.has.ensures.1 here in let no = c.loop-id-test.false in cc)) c.loop-id.invariant has

pub returns-clause-some : goal.returns-clause-some
returns-clause-some c = (passed_fits c.args.taken.now c.args.seed c.loop-id.id c.requires.seed c.loop-id.invariant).0

pub returns-clause-most : goal.returns-clause-most
returns-clause-most c = (passed_fits c.args.taken.now c.args.seed c.loop-id.id c.requires.seed c.loop-id.invariant).1
