-- `find_bad_id` returns the first bad ID of all databases, by the laws of IdLaws.
use Rattle.std.proofs.Common.{refl, arith, inl, length}
use Rattle.store_check.proofs.IdLaws.{bad_first, bad_more, room_here}
use Rattle.store_check.proofs.ids.find_bad_id.Goals as goal

pub find_bad_id_in-requires-clause-room : goal.find_bad_id_in-requires-clause-room
find_bad_id_in-requires-clause-room c index id inside e =
    let count = c.requires.listed.count in
    let room = room_here c.args.region.now.bytes c.header_of.result.now c.loop-db.db
    (length c.args.seen.now) c.header_of.ensures (omega arith) c.requires.room index id inside e in
    omega arith

pub returns-in-Some-clause-some : goal.returns-in-Some-clause-some
returns-in-Some-clause-some c =
    let count = c.requires.listed.count in
    inl (
      c.loop-db.db,
      c.in-Some.index,
      bad_first _ _ _ _ _ c.header_of.ensures
          (omega arith) c.in-Some.ensures.some c.loop-db.invariant,
      refl,
    )

pub loop-db-preserved : goal.loop-db-preserved
loop-db-preserved c = bad_more _ _ _ c.find_bad_id_in.new.seen _ c.header_of.ensures
    c.in_default.ensures.none c.in_default.ensures.empty c.loop-db.invariant
