-- A movable chunk that was found goes to another owner.
use Rattle.mem_manager.proofs.Laws.{refl, reown_changes, keeps_changed, found_viewed, may_go_to}
use Rattle.mem_manager.proofs.StepWords.{altered, managed_changed, one_of, same_lents}
use Rattle.mem_manager.proofs.heap.Heap.sys_set_owner.Goals as goal

pub reown-requires-clause-found : goal.reown-requires-clause-found
reown-requires-clause-found c = one_of (found_viewed c.self.view_is c.sys_find-found.ensures.stands)

pub reown-requires-clause-owner : goal.reown-requires-clause-owner
reown-requires-clause-owner c = may_go_to c.self.view_is c.sys_find-found.ensures.stands
    c.requires.no_directory c.requires.some_owner c.requires.most_owner

pub invariant_of-self : goal.invariant_of-self
invariant_of-self c =
    let go = may_go_to c.self.view_is c.sys_find-found.ensures.stands c.requires.no_directory
    c.requires.some_owner c.requires.most_owner in
    managed_changed c.self.invariant c.reown.ensures.heap
    (reown_changes c.self.invariant.heap.accepted (found_viewed c.self.view_is c.sys_find-found.ensures.stands) go c.reown.ensures.made)

pub returns : goal.returns
returns c =
    let region = c.self.inside.space in let h = c.self.invariant.heap.accepted in
    let f = found_viewed c.self.view_is c.sys_find-found.ensures.stands in
    let go = may_go_to c.self.view_is c.sys_find-found.ensures.stands c.requires.no_directory
    c.requires.some_owner c.requires.most_owner in
    let ch = reown_changes h f go c.reown.ensures.made in let rest = c.reown.ensures.rest in
    rw (← c.self.view_is) (record {
      leaves = (altered region c.reown.new.self (λ live. record live { owner = c.args.owner }) h f ch rest).leaves;
      loan = keeps_changed region c.reown.new.self _ h (same_lents rest) f ch refl;
      rest = rest;
    })
