-- The attributes are changed, and then the call is counted.
use Rattle.record_db.proofs.Words.{refl, map, store_of, with_entries, moved_category, MoveCategory, Done, changes, here, writes_then, raised_after}
use Rattle.heap_model.specs.declared.call.Call.TheVariants as calls
use Rattle.record_db.proofs.Moved.{below_categories, may_move, category_moved}
use Rattle.record_db.proofs.categories.move_category.Goals as goal

pub change_attributes-requires-clause-change : goal.change_attributes-requires-clause-change
change_attributes-requires-clause-change c =
    may_move c.args.to c.args.from c.args.dirty (below_categories c.args.to c.in_ok-check_category.ensures.passes.0)

pub returns-clause-does : goal.returns-clause-does
returns-clause-does c =
    let opened = c.in_ok-opened.ensures in
    let none = opened.passes in
    let moved = category_moved c.args.to c.args.from c.args.dirty (here _ c.args.db.0 opened.accepted opened.known) opened.accepted (rw opened.db at c.change_attributes.ensures.changed) in
    let leaves = raised_after _ _ _ c.args.db _ moved (rw opened.db at c.count_change.ensures.counted) c.count_change.ensures.none_made in
    let kept = writes_then _ _ _ c.change_attributes.ensures.kept c.count_change.ensures.kept in
    changes _ _ _ _ _ (λ slots. refl) opened.accepted leaves
    ((none.0, (none.1.0, (none.1.1.0, (c.in_ok-check_category.ensures.passes.0, (c.in_ok-check_category-2.ensures.passes.0, tt))))), (tt, leaves.same)) kept.loan tt kept.rest
