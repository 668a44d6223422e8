-- The record gets the chunk for its data, and only its dirty bit changes.
use Rattle.record_db.proofs.Laws.{ℕ, sym, ap, bit_or, refl, dirty_bit, data_of_entry, AttachReplacing, Named, changes, data_swapped}
use Rattle.heap_model.specs.declared.call.Call.TheVariants as calls
use Rattle.record_db.proofs.giving.attach_replacing.Goals as goal

pub returns-clause-does : goal.returns-clause-does
returns-clause-does c =
    let found = c.in_ok-live.ensures in
    let passes = found.passes in
    let given = c.in_ok-check_given.ensures.could in
    let leaves = data_swapped _ _ _ _ _ _ _ _ _ _ (λ (attributes : ℕ). bit_or attributes dirty_bit) found.accepted found.found.known found.is c.marked.ensures (rw found.found.db at c.entry_swap.ensures.swapped) in
    changes _ _ _ _ _ (λ slots. refl) found.accepted leaves
    ((passes.0, (passes.1.0, (passes.1.1.0, (passes.1.1.1.0, (passes.1.1.1.1.0, (given.0, (given.1.0, (given.1.1.0, (c.in_ok-check_owner.ensures.ok, tt))))))))), (sym (ap data_of_entry found.is), leaves.same)) c.entry_swap.ensures.kept.loan tt c.entry_swap.ensures.kept.rest
