use Rattle.std.proofs.Common.{subst}
use Rattle.heap_model.specs.StoreSteps.{Call, DoesInStore}
use Rattle.script_calls.specs.Movement.{Moves}
use Rattle.palm_script.proofs.CallLaws.{same_call}
use Rattle.palm_script.proofs.calls.do_call_from.Goals as goal

pub returns-in-Replied-clause-does : goal.returns-in-Replied-clause-does
returns-in-Replied-clause-does g c = subst (λ (call : Call). DoesInStore c.args.store.now call c.in-Replied.reply c.do_given.new.store) (same_call c.args.call.now) c.in-Replied.ensures.answers.0

pub returns-in-Replied-clause-moves : goal.returns-in-Replied-clause-moves
returns-in-Replied-clause-moves g c = subst (λ (call : Call). Moves c.args.store.now call c.do_given.new.store) (same_call c.args.call.now) c.do_given.ensures.moves

pub returns-in-Reads-clause-moves : goal.returns-in-Reads-clause-moves
returns-in-Reads-clause-moves g c = subst (λ (call : Call). Moves c.args.store.now call c.do_given.new.store) (same_call c.args.call.now) c.do_given.ensures.moves
