-- The entry has the given fields and its old data.
use Rattle.palm_store.proofs.Laws.{arith, rules, refl, ◌∙◌, entry_of, with_info, entry_changed, store_of, fits_here, opened_here, set_steps, respelled_none, fitting_info, informed_names, informed_own, informed_data, change_free}
use Rattle.palm_store.proofs.OpenedHere.{opened_in, few_in, below_in}
use Rattle.palm_store.proofs.store.Store.entry_set.Goals as goal

pub overflow_cast-index : goal.overflow_cast-index
overflow_cast-index c =
    let few = few_in c.self.view_is c.self.invariant.accepted c.requires.opened in
    omega (arith, few, c.requires.inside)

pub entry_with-entry-requires-clause-info : goal.entry_with-entry-requires-clause-info
entry_with-entry-requires-clause-info c =
    fitting_info c.args.self.now.bytes c.args.opened.db _ _ c.requires.info

pub write_entry-requires : goal.write_entry-requires
write_entry-requires c =
    let opened = opened_in c.self.view_is c.requires.opened in record {
      opened = opened_here _ _ c.self.invariant.accepted opened;
      inside = below_in _ c.self.view_is c.requires.opened c.requires.inside;
      kind = c.entry_with-entry.ensures.kind ∙ c.read_entry.ensures.kind;
      id = search rules;
    }

pub returns : goal.returns
returns c =
    let a = c.self.invariant.accepted in
    let has = (opened_in c.self.view_is c.requires.opened).number in
    let read = c.read_entry.ensures in
    let e = c.entry_with-entry.ensures in
    let written = c.write_entry.ensures.written in
    let set = set_steps c.args.counts _ _ _ _ (with_info c.args.info) _ _ a has read.is e.is written
    (fits_here _ _ _ _ (e.kind ∙ read.kind) e.is e.fits)
    (informed_names _ _ _ _ _ a has read.is (rw c.self.view_is c.requires.info))
    (informed_own _ _ _ _ _ a has read.is (rw c.self.view_is c.requires.info)) (informed_data c.args.info (entry_of c.read_entry.result)) in record {
      set = rw (← c.self.view_is) set;
      none_made = rw (← c.self.view_is) (respelled_none _ _ _ _ a has written);
      kept = rw (← c.self.view_is) c.write_entry.ensures.kept;
    }

pub invariant_of-self : goal.invariant_of-self
invariant_of-self c =
    let left = (returns c).set in
    let known = c.without-self-inside.ensures in record {
      accepted = left.accepted;
      free = change_free c.args.counts (store_of c.args.self.now.bytes)
          (entry_changed (store_of c.args.self.now.bytes) c.args.opened.db c.args.index (with_info c.args.info))
          (store_of c.write_entry.new.heap.bytes) c.args.opened.db c.args.index (with_info c.args.info)
          c.without-self-inside.result refl left.same.databases
          known.none (known.free (store_of c.args.self.now.bytes) (rw (← c.self.view_is) c.self.invariant.free));
    }
