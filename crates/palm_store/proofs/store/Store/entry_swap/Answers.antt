-- The entry has the name that was given first; then the two chunks change their owners.
use Rattle.palm_store.proofs.Laws.{◌∙◌, ℕ, arith, rules, ap, refl, true, entry_with, entry_given, store_of, with_info, writes_then, fits_here, opened_here, slot_movable, slot_no_directory, slot_owner, slot_some, fitting_info, informed_own, given, given_kept_then, given_movable, given_no_directory, swap_steps, change_free, named_gets}
use Rattle.palm_store.proofs.OpenedHere.{opened_in, few_in, below_in, wrote}
use Rattle.palm_store.proofs.store.Store.entry_swap.Goals as goal

pub overflow_cast-index : goal.overflow_cast-index
overflow_cast-index c =
    let few = few_in c.self.view_is c.self.invariant.accepted c.requires.opened in
    omega (arith, few, c.requires.inside)

pub entry_with-requires-clause-info : goal.entry_with-requires-clause-info
entry_with-requires-clause-info c =
    fitting_info c.args.self.now.bytes c.args.opened.db _ _ c.requires.info

pub write_entry-requires : goal.write_entry-requires
write_entry-requires c =
    let opened = opened_in c.self.view_is c.requires.opened in
    let kind = c.entry_with.ensures.kind ∙ c.read_entry-was.ensures.kind in record {
      opened = opened_here _ _ c.self.invariant.accepted opened;
      inside = below_in _ c.self.view_is c.requires.opened c.requires.inside;
      kind = c.with_slot-entry.ensures.kind ∙ kind;
      id = search rules;
    }

pub sys_set_owner-requires : goal.sys_set_owner-requires
sys_set_owner-requires c =
    let a = c.self.invariant.accepted in
    let has = (opened_in c.self.view_is c.requires.opened).number in
    let at = c.read_entry-was.ensures.is in
    let is = c.slot.ensures in
    let written = c.write_entry.ensures.written in
    let some = slot_some _ _ _ _ _ has at is (rw c.self.view_is c.requires.there) in record {
      movable = slot_movable _ _ _ _ _ _ _ a has at is written some;
      no_directory = slot_no_directory _ _ _ _ _ _ _ a has at is written some;
      some_owner = search rules;
      most_owner = search rules;
    }

pub sys_set_owner-requires-2 : goal.sys_set_owner-requires-2
sys_set_owner-requires-2 c =
    let a = c.self.invariant.accepted in
    let has = (opened_in c.self.view_is c.requires.opened).number in
    let at = c.read_entry-was.ensures.is in
    let some = slot_some _ _ _ _ _ has at c.slot.ensures (rw c.self.view_is c.requires.there) in
    let own = slot_owner _ _ _ _ _ a has at c.slot.ensures some in
    let g = given c.self.inside.heap.bytes c.args.name.0 (rw c.self.view_is c.requires.given) in
    let written = c.write_entry.ensures.written in
    let first = c.sys_set_owner.ensures.leaves in record {
      movable = given_movable _ _ _ g (given_kept_then _ _ _ _ _ _ _ _ a has g own written first);
      no_directory = given_no_directory _ _ _ a.heap g (first.frame.directory ∙ written.frame.directory);
      some_owner = search rules;
      most_owner = search rules;
    }

pub returns : goal.returns
returns c =
    let a = c.self.invariant.accepted in
    let has = (opened_in c.self.view_is c.requires.opened).number in
    let at = c.read_entry-was.ensures.is in
    let named = c.with_slot-entry.ensures in
    let info = c.entry_with.ensures in
    let is = named.is ∙ ap (entry_with (λ old. c.args.name.0)) info.is in
    let fits = fits_here _ _ _ _ (named.kind ∙ info.kind ∙ c.read_entry-was.ensures.kind) is (named.fits info.fits) in
    let own = informed_own _ _ _ _ _ a has at (rw c.self.view_is c.requires.info) in
    let first = c.sys_set_owner.ensures in
    let second = c.sys_set_owner-2.ensures in
    let both = swap_steps _ _ _ _ _ _ (with_info c.args.info) _ _ _ _ _ a has at c.slot.ensures
    (rw c.self.view_is c.requires.there) is (rw c.self.view_is c.requires.given) c.requires.owner.0
    c.requires.owner.1 c.write_entry.ensures.written first.leaves second.leaves fits own in record {
      swapped = rw (← c.self.view_is) both.0;
      none_made = rw (← c.self.view_is) both.1;
      kept = rw (← c.self.view_is) (writes_then _ _ _ (writes_then _ _ _ c.write_entry.ensures.kept
          (wrote first.loan first.rest)) (wrote second.loan second.rest));
    }

pub invariant_of-self : goal.invariant_of-self
invariant_of-self c =
    let left = (returns c).swapped in
    let known = c.without-self-inside.ensures in record {
      accepted = left.accepted;
      free = change_free true (store_of c.args.self.now.bytes)
          (entry_given (store_of c.args.self.now.bytes) c.args.opened.db c.args.index c.args.info c.args.name.0 c.args.owner)
          (store_of c.sys_set_owner-2.new.self.bytes) c.args.opened.db c.args.index
          (λ entry. entry_with (λ (slot : ℕ). c.args.name.0) (with_info c.args.info entry)) c.without-self-inside.result
          refl left.same.databases (named_gets c.without-self-inside.result c.args.name.0 (with_info c.args.info) known.none)
          (known.free (store_of c.args.self.now.bytes) (rw (← c.self.view_is) c.self.invariant.free));
    }
