use Rattle.std.proofs.Common.{ℕ, List, subst}
use Rattle.std.specs.Prelude.{IfOk}
use Rattle.heap_model.specs.Runs.{Run}
use Rattle.example_memos.specs.Memos.{writing}
use Rattle.example_memos.proofs.memos.write_memo.Goals as goal

-- the copied text is the given text
pub returns-clause-run : goal.returns-clause-run
returns-clause-run c = subst (λ (text : List ℕ). IfOk c.run_calls.result (λ replies. Run c.args.store.now (writing c.args.memo text) replies.items c.run_calls.new.store)) c.in-Ok.ensures c.run_calls.ensures.run
