-- Where nothing is locked, all that goes is freed before the slot is taken out of the directory.
use Rattle.palm_store.proofs.Laws.{both_ways, keeps_then, kept_then, viewed, ask_viewed, nothing_known, then_moved, managers_here}
use Rattle.palm_store.proofs.Deleted.{header_other, header_left, all_freed, lists_still, deleted, not_deleted}
use Rattle.palm_store.proofs.store.Store.delete_database.Goals as goal

pub returns-then-has_locked-clause-does : goal.returns-then-has_locked-clause-does
returns-then-has_locked-clause-does c =
    rw (← c.in_ok-opened.ensures.db) (ask_viewed c.self.inside.heap c.args.self.now _ _ c.self.view_is (not_deleted c.self.inside.heap c.in_ok-opened.opened.db c.self.invariant.accepted c.in_ok-opened.ensures.opened.number (c.has_locked.ensures.0 c.if-has_locked.true)))

pub sys_free-requires-clause-no_directory : goal.sys_free-requires-clause-no_directory
sys_free-requires-clause-no_directory c =
    header_other c.self.inside.heap.bytes c.free_data.new.heap.bytes c.in_ok-opened.opened.db.0 c.self.invariant.accepted c.in_ok-opened.ensures.opened.number c.free_data.ensures.leaves

pub unlist-requires : goal.unlist-requires
unlist-requires c =
    let freed = all_freed c.self.inside.heap.bytes c.free_data.new.heap.bytes c.sys_free.new.self.bytes c.in_ok-opened.opened.db.0 c.free_data.ensures.leaves c.sys_free.ensures.leaves in
    let still = lists_still c.self.inside.heap.bytes c.sys_free.new.self.bytes c.in_ok-opened.opened.db.0 c.index_of-index.result c.self.invariant.accepted c.index_of-index.ensures freed in
    record { heap = still.heap; some = still.some; few = still.few; inside = still.inside }

pub invariant_of-self : goal.invariant_of-self
invariant_of-self c =
    let freed = all_freed c.self.inside.heap.bytes c.free_data.new.heap.bytes c.sys_free.new.self.bytes c.in_ok-opened.opened.db.0 c.free_data.ensures.leaves c.sys_free.ensures.leaves in
    let does = deleted c.self.inside.heap c.sys_free.new.self c.unlist.new.heap c.in_ok-opened.opened.db c.index_of-index.result c.self.invariant.accepted c.in_ok-opened.ensures.opened.number c.index_of-index.ensures
    (λ locked. both_ways _ c.if-has_locked.false (c.has_locked.ensures.1 locked)) freed c.unlist.ensures.unlists
    (keeps_then c.self.inside.heap c.sys_free.new.self c.unlist.new.heap (keeps_then c.self.inside.heap c.free_data.new.heap c.sys_free.new.self c.free_data.ensures.kept.loan c.sys_free.ensures.loan) c.unlist.ensures.kept.loan)
    (then_moved c.self.inside.heap c.sys_free.new.self c.unlist.new.heap (kept_then c.self.inside.heap c.free_data.new.heap c.sys_free.new.self c.free_data.ensures.kept.rest c.sys_free.ensures.rest) c.unlist.ensures.kept.rest) in
    nothing_known _ does.accepted

pub returns-clause-does : goal.returns-clause-does
returns-clause-does c =
    let freed = all_freed c.self.inside.heap.bytes c.free_data.new.heap.bytes c.sys_free.new.self.bytes c.in_ok-opened.opened.db.0 c.free_data.ensures.leaves c.sys_free.ensures.leaves in
    let does = deleted c.self.inside.heap c.sys_free.new.self c.unlist.new.heap c.in_ok-opened.opened.db c.index_of-index.result c.self.invariant.accepted c.in_ok-opened.ensures.opened.number c.index_of-index.ensures
    (λ locked. both_ways _ c.if-has_locked.false (c.has_locked.ensures.1 locked)) freed c.unlist.ensures.unlists
    (keeps_then c.self.inside.heap c.sys_free.new.self c.unlist.new.heap (keeps_then c.self.inside.heap c.free_data.new.heap c.sys_free.new.self c.free_data.ensures.kept.loan c.sys_free.ensures.loan) c.unlist.ensures.kept.loan)
    (then_moved c.self.inside.heap c.sys_free.new.self c.unlist.new.heap (kept_then c.self.inside.heap c.free_data.new.heap c.sys_free.new.self c.free_data.ensures.kept.rest c.sys_free.ensures.rest) c.unlist.ensures.kept.rest) in
    rw (← c.in_ok-opened.ensures.db) (viewed c.self.inside.heap c.args.self.now c.unlist.new.heap _ _ c.self.view_is does)

pub free_data-requires-clause-unlocked : goal.free_data-requires-clause-unlocked
free_data-requires-clause-unlocked c locked = both_ways _ c.if-has_locked.false (c.has_locked.ensures.1 locked)

pub sys_free-requires-clause-here : goal.sys_free-requires-clause-here
sys_free-requires-clause-here c = managers_here c.free_data.new.heap c.in_ok-opened.opened.db.0 (header_left c.self.inside.heap.bytes c.free_data.new.heap.bytes c.in_ok-opened.opened.db.0 c.self.invariant.accepted c.in_ok-opened.ensures.opened.number c.free_data.ensures.leaves)
