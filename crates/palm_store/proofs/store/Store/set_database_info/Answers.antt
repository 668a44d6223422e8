-- The database, the name and what was written are those of a header that is set.
use Rattle.palm_store.proofs.Laws.{ℕ, List, refl, subst, inl, inr, IsDatabaseName, IsSpelled, database_in, overwritten, store_of, IsTaken, refused, known_number, viewed, ask_viewed, not_taken, nothing_known, number_here}
use Rattle.palm_store.proofs.HeaderInfos.{with_info, set_spelled, set_step}
use Rattle.palm_store.proofs.store.Store.set_database_info.Goals as goal

pub returns-clause-does : goal.returns-clause-does
returns-clause-does c =
    let image : List ℕ = c.self.inside.heap.bytes in
    let body = c.header_in-header.ensures.is in
    let given = c.as_slice.ensures.is in
    let named : IsDatabaseName c.args.info.now.name = subst (λ (name : List ℕ). IsDatabaseName name) given c.in-Some.ensures.0 in
    let free : IsTaken (store_of image) c.in_ok-opened.opened.db.0 c.args.info.now.name → ⊥ = not_taken image _ c.args.info.now.name c.in_ok-opened.opened.db.0 _ c.has_other_name.ensures.1 c.if-has_other_name.false c.as_slice-2.ensures.is in
    let spelled = set_spelled c.header_in-header.result.now c.to_bytes.result c.args.info.now c.read.result c.with_info-header.result c.header_in-header.ensures.spelled c.read.ensures c.with_info-header.ensures.set c.with_info-header.ensures.keeps c.to_bytes.ensures.written in
    let does = set_step c.self.inside.heap c.sys_write.new.self c.in_ok-opened.opened.db c.args.info.now c.self.invariant.accepted
    (record {
      number = c.in_ok-opened.ensures.opened.number;
      name = named;
      free = free;
      bytes = c.to_bytes.result;
      spelled = subst (λ (bytes : List ℕ). IsSpelled (with_info c.args.info.now (database_in bytes)) (overwritten bytes 0 c.to_bytes.result)) body spelled;
      leaves = c.sys_write.ensures.leaves;
    }) c.sys_write.ensures.loan c.sys_write.ensures.rest in
    rw (← c.in_ok-opened.ensures.db) (viewed c.self.inside.heap c.args.self.now c.sys_write.new.self _ _ c.self.view_is does)

pub invariant_of-self : goal.invariant_of-self
invariant_of-self c = nothing_known _ (returns-clause-does c).accepted

pub returns-then-has_other_name-clause-does : goal.returns-then-has_other_name-clause-does
returns-then-has_other_name-clause-does c =
    let named = rw c.as_slice.ensures.is at c.in-Some.ensures.0 in
    let taken = rw c.as_slice-2.ensures.is at (c.has_other_name.ensures.0 c.if-has_other_name.true) in
    let known = known_number _ c.in_ok-opened.opened.db c.in_ok-opened.ensures.opened.number in
    rw (← c.in_ok-opened.ensures.db) (ask_viewed _ _ _ _ c.self.view_is
    (refused _ _ _ c.self.invariant.accepted (inr (known, inr ((λ bad. bad named), inl (taken, refl))))))

pub sys_write-requires-clause-here : goal.sys_write-requires-clause-here
sys_write-requires-clause-here c =
    number_here _ _ c.self.invariant.accepted c.in_ok-opened.ensures.opened.number
