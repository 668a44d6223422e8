-- The data has the given bytes, and nothing else changes.
use Rattle.palm_store.proofs.Laws.{length, arith, refl, HasDataOf, data_held, filled_movable, data_long, filled_steps, loose_here}
use Rattle.palm_store.proofs.OpenedHere.{still_store, wrote}
use Rattle.palm_store.proofs.store.Store.fill_data.Goals as goal

pub sys_find-chunk-requires : goal.sys_find-chunk-requires
sys_find-chunk-requires c =
    filled_movable _ _ (length c.args.bytes.now) c.self.invariant.accepted.heap (rw c.self.view_is c.requires)

pub sys_write-requires : goal.sys_write-requires
sys_write-requires c =
    let has : HasDataOf c.self.inside.heap.bytes c.args.name.0 (length c.args.bytes.now) =
    rw c.self.view_is c.requires in
    let d = data_held _ _ _ has in
    let long = data_long _ _ _ has in
    let found = c.sys_find-chunk.ensures in record {
      stands = found.stands;
      here = loose_here _ _ _ _ c.self.invariant.accepted.heap found.stands d.there d.loose found.unlocked;
      within = omega (arith, long);
    }

pub returns : goal.returns
returns c =
    let a = c.self.invariant.accepted in
    let e = c.sys_write.ensures in record {
      filled = rw (← c.self.view_is) (filled_steps _ _ _ _ a (rw c.self.view_is c.requires) e.leaves);
      unmoved = rw (← c.self.view_is) e.unmoved;
      kept = rw (← c.self.view_is) (wrote e.loan e.rest);
    }

pub invariant_of-self : goal.invariant_of-self
invariant_of-self c = still_store (returns c).filled refl (rw (← c.self.view_is) c.self.invariant)
