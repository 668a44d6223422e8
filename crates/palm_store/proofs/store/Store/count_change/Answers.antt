-- The database counts the call, and nothing else changes.
use Rattle.palm_store.proofs.Laws.{store_of, opened_here, counting_steps, respelled_none, raised_free}
use Rattle.palm_store.proofs.OpenedHere.{opened_in}
use Rattle.palm_store.proofs.store.Store.count_change.Goals as goal

pub count_change-requires : goal.count_change-requires
count_change-requires c =
    let opened = opened_in c.self.view_is c.requires.opened in
    record { opened = opened_here _ _ c.self.invariant.accepted opened }

pub returns : goal.returns
returns c =
    let a = c.self.invariant.accepted in
    let has = (opened_in c.self.view_is c.requires.opened).number in
    let e = c.count_change.ensures in record {
      counted = rw (← c.self.view_is) (counting_steps _ _ _ a has e.counted);
      none_made = rw (← c.self.view_is) (respelled_none _ _ _ _ a has e.counted);
      unmoved = rw (← c.self.view_is) e.unmoved;
      kept = rw (← c.self.view_is) e.kept;
    }

pub invariant_of-self : goal.invariant_of-self
invariant_of-self c =
    let left = (returns c).counted in record {
      accepted = left.accepted;
      free = raised_free (store_of c.args.self.now.bytes) (store_of c.count_change.new.heap.bytes) _ _
          left.same.databases (rw (← c.self.view_is) c.self.invariant.free);
    }
