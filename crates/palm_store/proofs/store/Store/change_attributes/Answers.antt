-- Only the attributes of the records change.
use Rattle.palm_store.proofs.Laws.{store_of, opened_here, respelled_none, attributes_free, open_with_attributes}
use Rattle.palm_store.proofs.AttributeChanges.{attributes_steps, kind_of_records}
use Rattle.palm_store.proofs.OpenedHere.{opened_in}
use Rattle.palm_store.proofs.store.Store.change_attributes.Goals as goal

pub change_attributes-requires : goal.change_attributes-requires
change_attributes-requires g c =
    let opened = opened_in c.self.view_is c.requires.opened in record {
      opened = opened_here _ _ c.self.invariant.accepted opened;
      records = kind_of_records _ _ opened.number (rw c.self.view_is c.requires.records);
    }

pub returns : goal.returns
returns g c =
    let a = c.self.invariant.accepted in
    let opened = opened_in c.self.view_is c.requires.opened in
    let made = g.C.ByteChange.made c.args.change in
    let e = c.change_attributes.ensures in
    let left = attributes_steps _ _ _ made c.requires.change a opened.number e.changed in record {
      changed = rw (← c.self.view_is) left;
      opened = open_with_attributes _ _ _ made a opened e.stands left.same;
      none_made = rw (← c.self.view_is) (respelled_none _ _ _ _ a opened.number e.changed);
      kept = rw (← c.self.view_is) e.kept;
    }

pub invariant_of-self : goal.invariant_of-self
invariant_of-self g c =
    let left = (returns g c).changed in record {
      accepted = left.accepted;
      free = attributes_free (store_of c.args.self.now.bytes) (store_of c.change_attributes.new.heap.bytes)
          _ (g.C.ByteChange.made c.args.change) _ left.same.databases (rw (← c.self.view_is) c.self.invariant.free);
    }
