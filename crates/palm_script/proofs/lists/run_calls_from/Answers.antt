use Rattle.std.proofs.Common.{◌≡◌, arith}
use Rattle.std.proofs.lemmas.List.Elements.{All-push}
use Rattle.heap_model.specs.declared.call.Reply.{Reply}
use Rattle.heap_model.specs.declared.call.Reply.TheVariants.{Refused}
use Rattle.heap_model.specs.declared.refusal.Refusal.TheVariants.{OutOfMemory}
use Rattle.palm_script.proofs.LoanLaws.{run_stays, runs_on_loan}
use Rattle.palm_script.proofs.RunLaws.{as_run, goes_on-one, goes_on-end}
use Rattle.palm_script.proofs.lists.run_calls_from.Goals as goal

pub loop-call-preserved : goal.loop-call-preserved
loop-call-preserved g c = record {
  goes_on = rw c.push_reserved.ensures.items (goes_on-one c.args.store.now c.args.calls.now c.loop-call.call-index c.loop-call.replies.items c.loop-call.store c.call-item.result c.do_call_from.result c.do_call_from.new.store c.loop-call-test.true c.call-item.is c.loop-call.invariant.goes_on c.do_call_from.ensures.does c.do_call_from.ensures.moves);
  used = omega (arith, c.push_reserved.ensures.len, c.loop-call.invariant.used);
  room = omega (arith, c.push_reserved.ensures.capacity, c.loop-call.invariant.room);
  no_memory = rw c.push_reserved.ensures.items (All-push (λ (reply : Reply). reply ≡ Refused OutOfMemory → g.A.Allowance.is_short c.args.memory.now) c.loop-call.replies.items c.do_call_from.result c.loop-call.invariant.no_memory c.do_call_from.ensures.no_memory);
}

pub returns-clause-run : goal.returns-clause-run
returns-clause-run g c = as_run c.args.store.now c.args.calls.now c.loop-call.replies.items c.loop-call.store
    (goes_on-end c.args.store.now c.args.calls.now c.loop-call.call-index c.loop-call.replies.items c.loop-call.store c.loop-call-test.false c.loop-call.invariant.goes_on)

pub returns-clause-loan : goal.returns-clause-loan
returns-clause-loan g c = runs_on_loan c.args.store.now c.args.calls.now c.loop-call.replies.items c.loop-call.store
    (goes_on-end c.args.store.now c.args.calls.now c.loop-call.call-index c.loop-call.replies.items c.loop-call.store c.loop-call-test.false c.loop-call.invariant.goes_on)

pub returns-clause-stays : goal.returns-clause-stays
returns-clause-stays g c = run_stays c.args.store.now c.args.calls.now c.loop-call.replies.items c.loop-call.store
    (goes_on-end c.args.store.now c.args.calls.now c.loop-call.call-index c.loop-call.replies.items c.loop-call.store c.loop-call-test.false c.loop-call.invariant.goes_on)

pub returns-clause-no_memory : goal.returns-clause-no_memory
returns-clause-no_memory g c = c.loop-call.invariant.no_memory
