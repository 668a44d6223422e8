-- `follow` takes away the mark of each table along the chain, by the laws of FollowLaws.
use Rattle.std.proofs.Common.{refl, arith}
use Rattle.laws_heap.proofs.Lending.{all_within}
use Rattle.heap_check.proofs.FollowLaws.{followed_none, followed_more, followed_bound, table_inside, followed_bad, followed_all}
use Rattle.heap_check.proofs.chained.follow.Goals as goal

pub loop-next-init : goal.loop-next-init
loop-next-init c = record {
  followed = followed_none c.args.region.now.bytes _ _ c.args.marks.now refl c.slot_count.ensures
      c.first_next-next.ensures c.requires.marked;
  room = refl;
}

pub take_table-requires-clause-bodies : goal.take_table-requires-clause-bodies
take_table-requires-clause-bodies c =
    λ word has. ((c.loop-next.invariant.followed.marked word).0 has).0

pub returns-in_default-clause-bad : goal.returns-in_default-clause-bad
returns-in_default-clause-bad c = followed_bad c.args.region.now.bytes c.args.bodies
    c.loop-next.chain c.loop-next.next c.loop-next.marks c.requires.found
    c.loop-next.invariant.followed c.loop-next-test.true c.in_default.ensures.none

pub returns-clause-followed : goal.returns-clause-followed
returns-clause-followed c =
    followed_all c.args.region.now.bytes c.loop-next.chain c.loop-next.next c.loop-next.marks
    c.requires.head c.requires.found.spelled c.loop-next.invariant.followed c.loop-next-test.false

pub overflow_add-chain : goal.overflow_add-chain
overflow_add-chain c =
    let bound = followed_bound c.args.region.now.bytes c.loop-next.chain c.loop-next.next
    c.in-Some.count c.loop-next.marks c.take_table.new.marks c.requires.head
    c.requires.found.spelled c.loop-next.invariant.followed c.in-Some.ensures.some in
    let most = c.requires.head.most in
    omega arith

pub overflow_add-chain-in-loop-next : goal.overflow_add-chain-in-loop-next
overflow_add-chain-in-loop-next c =
    let bound = followed_bound c.args.region.now.bytes c.loop-next.chain c.loop-next.next
    c.in-Some.count c.loop-next.marks c.take_table.new.marks c.requires.head
    c.requires.found.spelled c.loop-next.invariant.followed c.in-Some.ensures.some in
    let most = c.requires.head.most in
    omega arith

pub get_u32-next-requires : goal.get_u32-next-requires
get_u32-next-requires c =
    let inside = table_inside c.args.region.now.bytes c.loop-next.next c.in-Some.count
    c.loop-next.marks c.take_table.new.marks c.requires.found.spelled c.in-Some.ensures.some in
    all_within c.args.region.now c.loop-next.next 4 c.requires.whole (omega (arith, inside))

pub loop-next-smaller : goal.loop-next-smaller
loop-next-smaller c =
    let bound = followed_bound c.args.region.now.bytes c.loop-next.chain c.loop-next.next
    c.in-Some.count c.loop-next.marks c.take_table.new.marks c.requires.head
    c.requires.found.spelled c.loop-next.invariant.followed c.in-Some.ensures.some in
    omega arith

pub loop-next-preserved : goal.loop-next-preserved
loop-next-preserved c =
    let room = c.loop-next.invariant.room in
    let len = c.take_table.ensures.len in
    record {
      followed =
          followed_more c.args.region.now.bytes c.loop-next.chain _ c.loop-next.next c.in-Some.count
          c.get_u32-next.result c.loop-next.marks c.take_table.new.marks c.requires.found.spelled
          c.loop-next.invariant.followed c.in-Some.ensures.some refl refl c.get_u32-next.ensures;
      room = omega arith;
    }
