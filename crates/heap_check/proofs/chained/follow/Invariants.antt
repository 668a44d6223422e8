-- The loop of `follow` keeps its invariant: the tables before this word have no mark any more.
use Rattle.std.proofs.Common.{◌≡◌, ◌-◌, length}
use Rattle.heap_check.proofs.FollowLaws.{HasFollowed}
use Rattle.heap_check.proofs.chained.follow.Given as goal

abbrev pub invariant-loop-next : goal.invariant-loop-next
invariant-loop-next l = record {
  followed : HasFollowed l.region.bytes l.chain l.next l.marks;
  room : length l.marks ≡ length l.fn.marks;
}

abbrev pub decreases-loop-next : goal.decreases-loop-next
decreases-loop-next l = length l.region.bytes - l.chain.tables
