-- The entries are in the new order, and nothing else changes.
use Rattle.palm_store.proofs.Laws.{arith, store_of, opened_here, move_steps, respelled_none, move_free}
use Rattle.palm_store.proofs.OpenedHere.{opened_in, few_in, below_in, most_in}
use Rattle.palm_store.proofs.store.Store.entry_move.Goals as goal

pub overflow_cast-from : goal.overflow_cast-from
overflow_cast-from c =
    let few = few_in c.self.view_is c.self.invariant.accepted c.requires.opened in
    omega (arith, few, c.requires.from_inside)

pub overflow_cast-to : goal.overflow_cast-to
overflow_cast-to c =
    let few = few_in c.self.view_is c.self.invariant.accepted c.requires.opened in
    omega (arith, few, c.requires.to_inside)

pub move_entry-requires : goal.move_entry-requires
move_entry-requires c =
    let opened = opened_in c.self.view_is c.requires.opened in record {
      opened = opened_here _ _ c.self.invariant.accepted opened;
      from_inside = below_in _ c.self.view_is c.requires.opened c.requires.from_inside;
      to_inside = most_in _ c.self.view_is c.requires.opened c.requires.to_inside;
    }

pub returns : goal.returns
returns c =
    let a = c.self.invariant.accepted in
    let has = (opened_in c.self.view_is c.requires.opened).number in
    let from = below_in _ c.self.view_is c.requires.opened c.requires.from_inside in
    let to = most_in _ c.self.view_is c.requires.opened c.requires.to_inside in
    let m = c.move_entry.ensures in record {
      moved = rw (← c.self.view_is) (move_steps _ _ _ _ _ a has from to m.moved);
      none_made = rw (← c.self.view_is) (respelled_none _ _ _ _ a has m.moved);
      kept = rw (← c.self.view_is) m.kept;
    }

pub invariant_of-self : goal.invariant_of-self
invariant_of-self c =
    let left = (returns c).moved in record {
      accepted = left.accepted;
      free = move_free (store_of c.args.self.now.bytes) (store_of c.move_entry.new.heap.bytes)
          c.args.opened.db.0 c.args.from c.args.to c.self.inside.known left.same.databases (rw (← c.self.view_is) c.self.invariant.free);
    }
