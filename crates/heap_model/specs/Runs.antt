-- Lists of calls, done one after the other.
use Rattle.std.specs.Prelude.{◌≡◌, List, [], ◌∷◌}
use Rattle.heap_model.specs.Memory.{Memory}
use Rattle.heap_model.specs.StoreSteps.{Call, DoesInStore}
use Rattle.heap_model.specs.declared.call.Reply.{Reply}

-- A run of calls from one region to another, with their replies in order. Without calls nothing
-- changes. Otherwise the first call does one step, and the other calls run from the region after
-- that step.
abbrev pub Run : Memory → List Call → List Reply → Memory → Type 0
Run old [] replies new = (replies ≡ []) × (new ≡ old)
Run old (call ∷ calls) replies new =
    (reply : Reply) × (rest : List Reply) × (mid : Memory)
    × (replies ≡ reply ∷ rest) × DoesInStore old call reply mid × Run mid calls rest new
