use Rattle.std.proofs.Common.{drop, Bool}
use Rattle.std.specs.List.{flat_map}
use Rattle.palm_text.specs.Counted.{Writing, Writes}
use Rattle.palm_text.proofs.has_text.put_each.Given as goal

-- whatever is written from here on completes the text
abbrev pub invariant-loop-value : goal.invariant-loop-value
invariant-loop-value g l = (new : Writing g.row.W.Denot) (ok : Bool) → Writes g.W.Write.contents l.out new (flat_map g.T.HasText.text (drop l.value-index l.values)) ok → Writes g.W.Write.contents l.fn.out new (flat_map g.T.HasText.text l.values) ok
