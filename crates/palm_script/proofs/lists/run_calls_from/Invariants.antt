use Rattle.std.proofs.Common.{◌≡◌, length}
use Rattle.std.specs.Prelude.{All, vec_capacity, vec_len}
use Rattle.heap_model.specs.declared.call.Reply.TheVariants.{Refused}
use Rattle.heap_model.specs.declared.refusal.Refusal.TheVariants.{OutOfMemory}
use Rattle.palm_script.proofs.RunLaws.{GoesOn}
use Rattle.palm_script.proofs.lists.run_calls_from.Given as goal

abbrev pub invariant-loop-call : goal.invariant-loop-call
invariant-loop-call g l = record {
  goes_on : GoesOn l.fn.store l.calls l.call-index l.replies.items l.store;
  used : vec_len l.replies ≡ l.call-index;
  room : vec_capacity l.replies ≡ length l.calls;
  no_memory : All (λ reply. reply ≡ Refused OutOfMemory → g.A.Allowance.is_short l.memory) l.replies.items;
}
