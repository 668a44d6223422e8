use Rattle.std.proofs.Common.{arith}
use Rattle.std.proofs.lemmas.List.{set-get_or}
use Rattle.file_ids.proofs.FreshLaws.{filled_first, room_left, given_stays, given_fresh, given_all}
use Rattle.file_ids.proofs.fresh.give_fresh.Goals as goal
use Rattle.file_ids.proofs.fresh.give_fresh.Goals.{then-id-eq0, else-id-eq0}

pub loop-id-init : goal.loop-id-init
loop-id-init c = record { most = c.requires.seed; filled = λ known has. filled_first known c.args.ids.now c.args.taken.now c.args.seed has }

pub first_free-last-requires-clause-seed : goal.first_free-last-requires-clause-seed
first_free-last-requires-clause-seed c = c.loop-id.invariant.most

pub first_free-last-requires-clause-room : goal.first_free-last-requires-clause-room
first_free-last-requires-clause-room c =
    let room = c.requires.room in
    room_left room.ids c.args.seed c.args.ids.now c.loop-id.taken c.loop-id.last c.loop-id.ids c.loop-id.id-index room.few (omega arith) (c.loop-id.invariant.filled room.ids room.has)

pub loop-id-preserved : goal.loop-id-preserved
loop-id-preserved c = elim c.if-id-eq0.branch [
  | then-id-eq0 w ↦ rw (w.taken-is, w.ids-is, w.last-is)
      (given_fresh c.args.taken.now c.args.seed c.args.ids.now c.loop-id.taken w.add.new.set c.loop-id.last c.loop-id.ids c.loop-id.id-index w.first_free-last.result (omega arith) (omega arith) (omega arith)
      w.first_free-last.ensures.fresh w.first_free-last.ensures.most w.add.ensures.adds c.loop-id.invariant)
  | else-id-eq0 w ↦ rw (w.taken-is, w.ids-is, w.last-is, set-get_or)
      (given_stays c.args.taken.now c.args.seed c.args.ids.now c.loop-id.taken c.loop-id.last c.loop-id.ids c.loop-id.id-index (omega arith) (omega arith) w.if-id-eq0.false c.loop-id.invariant)
]

pub returns-clause-given : goal.returns-clause-given
returns-clause-given c known has = given_all c.args.taken.now c.args.seed c.args.ids.now c.loop-id.taken c.loop-id.last c.loop-id.ids c.loop-id.id-index (omega arith) (omega arith) c.loop-id.invariant known has

pub returns-clause-most : goal.returns-clause-most
returns-clause-most c = c.loop-id.invariant.most
