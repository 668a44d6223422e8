use Rattle.std.proofs.Common.{◌≡◌, ◌+◌, ℕ, List, arith, inl, inr, ap}
use Rattle.std.proofs.lemmas.Bool.{OnTrue_from, ltb-true, cases_lt}
use Rattle.heap_model.specs.Slots.{IsSlot}
use Rattle.master_table.specs.Known.{Remembered, KnowsTables}
use Rattle.master_table.proofs.FurtherLaws.{slot_after}
use Rattle.master_table.proofs.known.KnownTables.has_slot.Goals as goal

pub returns : goal.returns
returns c = OnTrue_from _ ((image : List ℕ) → KnowsTables image c.args.self.now → IsSlot image c.args.slot)
    (λ is. λ image knows.
    let few = ltb-true c.words.result 15 is in
    let far = c.if-slot-lt-BLOCK_SIZE.false in
    let least = c.min-least.ensures in
    let w = c.words.ensures in
    elim (cases_lt c.distance.result c.distance-here.result) [
      | inl before ↦
          let same : c.min-least.result ≡ c.distance.result = omega (arith, least, before) in
          slot_after image c.self.inside.places c.args.self.now c.entry_of_block-before.result c.args.slot c.min-least.result c.words.result (ap (λ (k : Remembered). k.places) c.self.view_is) (omega (arith, far))
          (λ low. let d = c.distance.ensures.after low in omega (arith, d, same)) (λ low. let d = c.distance.ensures.before low in omega (arith, d, same)) w.whole w.broken few knows
      | inr here ↦
          let same : c.min-least.result ≡ c.distance-here.result = omega (arith, least, here) in
          slot_after image c.self.inside.places c.args.self.now (c.entry_of_block-before.result + 1) c.args.slot c.min-least.result c.words.result (ap (λ (k : Remembered). k.places) c.self.view_is) (omega (arith, far))
          (λ low. let d = c.distance-here.ensures.after low in omega (arith, d, same)) (λ low. let d = c.distance-here.ensures.before low in omega (arith, d, same)) w.whole w.broken few knows
    ])
