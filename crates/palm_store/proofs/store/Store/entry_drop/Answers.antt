-- The entry is dropped, and its data is freed or gets an owner.
use Rattle.palm_store.proofs.Laws.{arith, rules, store_of, MayOwn, slides_then, none_slid, opened_here, drop_steps, hand_over_steps, slot_movable, slot_unlocked, slot_no_directory, slot_some, go_free}
use Rattle.palm_store.proofs.OpenedHere.{opened_in, few_in, below_in, wrote}
use Rattle.palm_store.proofs.store.Store.entry_drop.Goals as goal

pub overflow_cast-index : goal.overflow_cast-index
overflow_cast-index c =
    let few = few_in c.self.view_is c.self.invariant.accepted c.requires.opened in
    omega (arith, few, c.requires.inside)

pub remove_entry-requires : goal.remove_entry-requires
remove_entry-requires c =
    let opened = opened_in c.self.view_is c.requires.opened in record {
      opened = opened_here _ _ c.self.invariant.accepted opened;
      inside = below_in _ c.self.view_is c.requires.opened c.requires.inside;
    }

pub free_chunk_of-requires : goal.free_chunk_of-requires
free_chunk_of-requires c =
    let a = c.self.invariant.accepted in
    let has = (opened_in c.self.view_is c.requires.opened).number in
    let at = c.read_entry.ensures.is in
    let is = c.slot.ensures in
    let removed = c.remove_entry.ensures.removed in record {
      heap = removed.frame.accepted;
      movable = slot_movable _ _ _ _ _ _ _ a has at is removed;
      unlocked = slot_unlocked _ _ _ _ _ _ _ a has at is removed
          (rw c.self.view_is (rw c.in-None.is at c.requires.unlocked));
      no_directory = slot_no_directory _ _ _ _ _ _ _ a has at is removed;
    }

pub sys_set_owner-requires : goal.sys_set_owner-requires
sys_set_owner-requires c =
    let a = c.self.invariant.accepted in
    let has = (opened_in c.self.view_is c.requires.opened).number in
    let at = c.read_entry.ensures.is in
    let is = c.slot.ensures in
    let removed = c.remove_entry.ensures.removed in
    let some = slot_some _ _ _ _ _ has at is (rw c.self.view_is (rw c.in-Some.is at c.requires.there)) in
    let may : MayOwn c.in-Some.owner = rw c.in-Some.is at c.requires.owner in record {
      movable = slot_movable _ _ _ _ _ _ _ a has at is removed some;
      no_directory = slot_no_directory _ _ _ _ _ _ _ a has at is removed some;
      some_owner = may.0;
      most_owner = search rules;
    }

pub returns-in-None : goal.returns-in-None
returns-in-None c =
    let has = (opened_in c.self.view_is c.requires.opened).number in
    let below = below_in _ c.self.view_is c.requires.opened c.requires.inside in
    let both = drop_steps _ _ _ _ _ _ c.self.invariant.accepted has c.read_entry.ensures.is below
    c.remove_entry.ensures.removed (rw c.slot.ensures at c.free_chunk_of.ensures.leaves) in record {
      dropped = rw (c.in-None.is, ← c.self.view_is) both.0;
      none_made = rw (← c.self.view_is) both.1;
      kept = rw (← c.self.view_is)
          (slides_then _ _ _ c.remove_entry.ensures.kept (none_slid _ _ c.free_chunk_of.ensures.kept));
    }

pub invariant_of-self : goal.invariant_of-self
invariant_of-self c =
    let left = (returns-in-None c).dropped in record {
      accepted = left.accepted;
      free = go_free (store_of c.args.self.now.bytes) (store_of c.free_chunk_of.new.heap.bytes)
          c.args.opened.db.0 c.args.index c.self.inside.known (rw c.in-None.is at left.same.databases)
          (rw (← c.self.view_is) c.self.invariant.free);
    }

pub returns-in-Some : goal.returns-in-Some
returns-in-Some c =
    let has = (opened_in c.self.view_is c.requires.opened).number in
    let may : MayOwn c.in-Some.owner = rw c.in-Some.is at c.requires.owner in
    let owned = c.sys_set_owner.ensures in
    let both = hand_over_steps _ _ _ _ _ _ _ _ c.self.invariant.accepted has c.read_entry.ensures.is
    c.slot.ensures (below_in _ c.self.view_is c.requires.opened c.requires.inside)
    (rw c.self.view_is (rw c.in-Some.is at c.requires.there)) may.0 may.1
    c.remove_entry.ensures.removed owned.leaves in record {
      dropped = rw (c.in-Some.is, ← c.self.view_is) both.0;
      none_made = rw (← c.self.view_is) both.1;
      kept = rw (← c.self.view_is) (slides_then _ _ _ c.remove_entry.ensures.kept
          (none_slid _ _ (wrote owned.loan owned.rest)));
    }

pub invariant_of-self-in-Some : goal.invariant_of-self-in-Some
invariant_of-self-in-Some c =
    let left = (returns-in-Some c).dropped in record {
      accepted = left.accepted;
      free = go_free (store_of c.args.self.now.bytes) (store_of c.sys_set_owner.new.self.bytes)
          c.args.opened.db.0 c.args.index c.self.inside.known (rw c.in-Some.is at left.same.databases)
          (rw (← c.self.view_is) c.self.invariant.free);
    }
