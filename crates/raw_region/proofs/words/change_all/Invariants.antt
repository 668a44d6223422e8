-- What the bytes become once those from here on are changed too is what all of them are to become.
use Rattle.std.proofs.Common.{◌-◌, length}
use Rattle.raw_region.proofs.ChangeLaws.{IsOnWay}
use Rattle.raw_region.proofs.words.change_all.Given as goal

abbrev pub invariant-loop-at : goal.invariant-loop-at
invariant-loop-at g l = IsOnWay (g.C.ByteChange.made l.change) l.step l.skip l.initial.bytes l.bytes l.at

abbrev pub decreases-loop-at : goal.decreases-loop-at
decreases-loop-at g l = length l.initial.bytes - l.at
