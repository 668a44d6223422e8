use Rattle.std.proofs.Common.{◌≡◌, true, take}
use Rattle.std.specs.List.{list_all}
use Rattle.hints.specs.Lookalikes.{is_in_name}
use Rattle.hints.proofs.lookalikes.are_in_name.Given as goal

abbrev pub invariant-loop-byte : goal.invariant-loop-byte
invariant-loop-byte l = list_all is_in_name (take l.byte-index l.bytes) ≡ true
