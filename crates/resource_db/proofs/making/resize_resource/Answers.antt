-- The data is resized, and then the call is counted.
use Rattle.resource_db.proofs.Words.{◌≡◌, refl, sym, ap, inr, refused, handed_on, changes, store_of, data_of_entry, data_under, Done}
use Rattle.laws_heap.proofs.Unmoved.{itself_alone}
use Rattle.palm_store.proofs.Rests.{slides_then, none_slid}
use Rattle.palm_store.proofs.TwoChanges.{raised_after, nothing_moved, one_stretch_moved}
use Rattle.resource_db.proofs.making.resize_resource.Goals as goal

pub returns-in_err-resource-clause-one_stretch : goal.returns-in_err-resource-clause-one_stretch
returns-in_err-resource-clause-one_stretch c = itself_alone c.args.store.now.bytes _

pub entry_resize-requires : goal.entry_resize-requires
entry_resize-requires c = record {
  own = record { db = c.args.db; index = c.args.index; number = c.in_ok-resource.ensures.found.known; is = ap data_of_entry c.in_ok-resource.ensures.is; some = c.in_ok-resource.ensures.some };
}

pub returns-in_err-entry_resize-clause-does : goal.returns-in_err-entry_resize-clause-does
returns-in_err-entry_resize-clause-does c =
    let none = c.in_ok-resource.ensures.passes in
    let named : c.in_ok-resource.resource.item.«data».0 ≡ data_under (store_of c.args.store.now.bytes) c.args.db c.args.index = sym (ap data_of_entry c.in_ok-resource.ensures.is) in
    let e = c.from_residual-in_err-entry_resize.ensures in
    handed_on (λ done. Done) _ c.from_residual-in_err-entry_resize.result (e.0, e.1) (rw c.in_err-entry_resize.ensures.refused (refused _ _ c.in_err-entry_resize.field-0.0 c.in_ok-resource.ensures.accepted
    (inr (none.0, inr (none.1.0, inr (none.1.1.0, inr (none.1.1.1.0, rw named at c.in_err-entry_resize.ensures.why)))))))

pub returns : goal.returns
returns c =
    let none = c.in_ok-resource.ensures.passes in
    let named : c.in_ok-resource.resource.item.«data».0 ≡ data_under (store_of c.args.store.now.bytes) c.args.db c.args.index = sym (ap data_of_entry c.in_ok-resource.ensures.is) in
    let leaves = raised_after _ _ _ c.args.db _ (rw named at c.in_ok-entry_resize.ensures.done) (rw c.opened_of-opened.ensures.db at c.count_change.ensures.counted) c.count_change.ensures.none_made in
    let kept = slides_then _ _ _ c.in_ok-entry_resize.ensures.kept (none_slid _ _ c.count_change.ensures.kept) in
    record {
      does = changes _ _ _ _ _ (λ slots. refl) c.in_ok-resource.ensures.accepted leaves
          ((none.0, (none.1.0, (none.1.1.0, (none.1.1.1.0, rw named at c.in_ok-entry_resize.ensures.could)))), (tt, leaves.same)) kept.loan tt kept.rest;
      unmoved = λ fits. nothing_moved _ _ _ (c.in_ok-entry_resize.ensures.unmoved (rw named fits)) c.count_change.ensures.unmoved c.count_change.ensures.none_made;
      one_stretch = rw (← named) (one_stretch_moved _ _ _ _ c.in_ok-entry_resize.ensures.one_stretch c.count_change.ensures.unmoved c.count_change.ensures.none_made);
      refused = tt;
    }
