-- The records of the category are deleted, and then the call is counted.
use Rattle.record_db.proofs.Words.{refl, inl, inr, store_of, category_deleted, DeleteCategory, Done, ChunkLocked, refused, changes, writes_then, raised_after, iff_false}
use Rattle.heap_model.specs.declared.call.Call.TheVariants as calls
use Rattle.record_db.proofs.categories.delete_category.Goals as goal

pub returns-then-has_locked_of-clause-does : goal.returns-then-has_locked_of-clause-does
returns-then-has_locked_of-clause-does c =
    let opened = c.in_ok-opened.ensures in
    let none = opened.passes in
    refused _ _ _ opened.accepted (inr (none.0, inr (none.1.0, inr (none.1.1.0, inr (c.in_ok-check_category.ensures.passes.0, inl (rw opened.db at (c.has_locked_of.ensures.0 c.if-has_locked_of.true), refl))))))

pub delete_all_of-requires-clause-unlocked : goal.delete_all_of-requires-clause-unlocked
delete_all_of-requires-clause-unlocked c = iff_false c.has_locked_of.ensures c.if-has_locked_of.false

pub returns-clause-does : goal.returns-clause-does
returns-clause-does c =
    let opened = c.in_ok-opened.ensures in
    let none = opened.passes in
    let leaves = raised_after _ _ _ c.args.db _ (rw opened.db at c.delete_all_of.ensures.deleted) (rw opened.db at c.count_change.ensures.counted) c.count_change.ensures.none_made in
    let kept = writes_then _ _ _ c.delete_all_of.ensures.kept c.count_change.ensures.kept in
    changes _ _ _ _ _ (λ slots. refl) opened.accepted leaves
    ((none.0, (none.1.0, (none.1.1.0, (c.in_ok-check_category.ensures.passes.0, (rw opened.db at (iff_false c.has_locked_of.ensures c.if-has_locked_of.false), tt))))), (tt, leaves.same)) kept.loan tt kept.rest
