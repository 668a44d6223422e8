-- The entry names no data, and then its data is freed.
use Rattle.palm_store.proofs.Laws.{arith, rules, refl, sym, None, ◌∙◌, held, without_data, data_freed, store_of, stands_still, writes_then, fits_here, opened_here, free_steps, slot_owner, slot_movable, slot_unlocked, slot_no_directory, name_apart, emptied_names, emptied_id, emptied_data, change_free, emptied_gets, open_without_data}
use Rattle.laws_store.proofs.Edited.{apart as updated_apart}
use Rattle.palm_store.proofs.OpenedHere.{opened_in, few_in, below_in}
use Rattle.palm_store.proofs.store.Store.entry_free_data.Goals as goal

pub overflow_cast-index : goal.overflow_cast-index
overflow_cast-index c =
    let few = few_in c.self.view_is c.self.invariant.accepted c.requires.opened in
    omega (arith, few, c.requires.inside)

pub write_entry-requires : goal.write_entry-requires
write_entry-requires c =
    let opened = opened_in c.self.view_is c.requires.opened in record {
      opened = opened_here _ _ c.self.invariant.accepted opened;
      inside = below_in _ c.self.view_is c.requires.opened c.requires.inside;
      kind = c.emptied.ensures.kind ∙ c.read_entry-entry.ensures.kind;
      id = search rules;
    }

pub free_chunk_of-requires : goal.free_chunk_of-requires
free_chunk_of-requires c =
    let a = c.self.invariant.accepted in
    let has = (opened_in c.self.view_is c.requires.opened).number in
    let at = c.read_entry-entry.ensures.is in
    let is = c.slot.ensures in
    let written = c.write_entry.ensures.written in record {
      heap = written.frame.accepted;
      movable = slot_movable _ _ _ _ _ _ _ a has at is written;
      unlocked = slot_unlocked _ _ _ _ _ _ _ a has at is written (rw c.self.view_is c.requires.unlocked);
      no_directory = slot_no_directory _ _ _ _ _ _ _ a has at is written;
    }

pub returns : goal.returns
returns c =
    let a = c.self.invariant.accepted in
    let has = (opened_in c.self.view_is c.requires.opened).number in
    let read = c.read_entry-entry.ensures in
    let e = c.emptied.ensures in
    let freed = c.free_chunk_of.ensures in
    let written = c.write_entry.ensures in
    let both = free_steps _ _ _ _ _ _ _ _ a has read.is e.is written.written (rw c.slot.ensures at freed.leaves)
    (fits_here _ _ _ _ (e.kind ∙ read.kind) e.is e.fits)
    (emptied_names _ _ _ _ a has read.is (rw c.self.view_is c.requires.records)) (emptied_id _) (emptied_data _) in
    let own = slot_owner _ _ _ _ _ a has read.is c.slot.ensures in
    let apart = updated_apart (held c.write_entry.new.heap.bytes) _ None _
    (λ same. name_apart _ _ _ a has own (sym same)) in
    let stands = stands_still _ _ _ _ written.written.frame.accepted freed.leaves.frame.accepted
    written.stands (freed.leaves.map c.args.opened.db.0 ∙ apart) freed.unmoved in record {
      freed = rw (← c.self.view_is) both.0;
      opened = open_without_data c.args.counts _ _ _ _ a (opened_in c.self.view_is c.requires.opened) stands both.0.same;
      none_made = rw (← c.self.view_is) both.1;
      kept = rw (← c.self.view_is) (writes_then _ _ _ written.kept freed.kept);
    }

pub invariant_of-self : goal.invariant_of-self
invariant_of-self c =
    let left = (returns c).freed in record {
      accepted = left.accepted;
      free = change_free c.args.counts (store_of c.args.self.now.bytes)
          (data_freed (store_of c.args.self.now.bytes) c.args.opened.db c.args.index)
          (store_of c.free_chunk_of.new.heap.bytes) c.args.opened.db c.args.index without_data
          c.self.inside.known refl left.same.databases
          (emptied_gets c.self.inside.known) (rw (← c.self.view_is) c.self.invariant.free);
    }
