-- A movable chunk takes another length, or the first check refuses.
use Rattle.mem_manager.proofs.Laws.{checks_of_growth, itself_alone, found_viewed, keeps_replied, growth_lent, managed_resized, here_of, lent_of, managers_here}
use Rattle.mem_manager.proofs.StepWords.{one_of, refuses, same_lents}
use Rattle.mem_manager.proofs.heap.Heap.sys_resize.Goals as goal

pub returns-in_err-check_here-clause-why : goal.returns-in_err-check_here-clause-why
returns-in_err-check_here-clause-why c =
    let f = found_viewed c.self.view_is c.requires.stands in
    rw (← c.self.view_is) (refuses (checks_of_growth c.self.inside.space c.args.name.0 c.args.size) c.from_residual.result c.from_residual.ensures c.in_err-check_here.ensures.refusal
    (growth_lent c.args.size c.self.invariant.heap f (lent_of c.self.inside.space c.self.invariant.heap.accepted f c.in_err-check_here.ensures.err)))

pub check_here-requires : goal.check_here-requires
check_here-requires c = record { found = one_of (found_viewed c.self.view_is c.requires.stands) }

pub resize_found-requires-clause-found : goal.resize_found-requires-clause-found
resize_found-requires-clause-found c = one_of (found_viewed c.self.view_is c.requires.stands)

pub invariant_of-self : goal.invariant_of-self
invariant_of-self c = managed_resized c.args.found.name.0 c.args.size c.resize_found.result c.self.invariant c.resize_found.ensures.heap c.resize_found.ensures.done c.resize_found.ensures.refused

pub returns-clause-could : goal.returns-clause-could
returns-clause-could c =
    rw (← c.self.view_is)
    (rw c.requires.stands.is.name_is at c.resize_found.ensures.could)

pub returns-in_err-check_here-clause-one_stretch : goal.returns-in_err-check_here-clause-one_stretch
returns-in_err-check_here-clause-one_stretch c = itself_alone c.args.self.now.bytes c.args.name.0

pub returns-clause-loan : goal.returns-clause-loan
returns-clause-loan c =
    let f = found_viewed c.self.view_is c.requires.stands in
    rw (← c.self.view_is)
    (keeps_replied c.resize_found.new.space c.args.found.name.0 c.args.size c.resize_found.result c.self.invariant.heap (same_lents c.resize_found.ensures.rest) c.resize_found.ensures.done c.resize_found.ensures.refused
    (λ is. here_of c.self.invariant.heap f c.in_ok-check_here.ensures.ok (rw f.name_is at is)))

pub returns-clause-managers : goal.returns-clause-managers
returns-clause-managers c own is =
    managers_here c.args.name.0 c.self.view_is c.self.invariant.heap own is

pub returns-in_err-check_here-clause-managers : goal.returns-in_err-check_here-clause-managers
returns-in_err-check_here-clause-managers c own is =
    managers_here c.args.name.0 c.self.view_is c.self.invariant.heap own is
