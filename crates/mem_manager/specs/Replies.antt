-- The reply of a call that may be refused: its result, or the refusal.
use Rattle.std.specs.Prelude.{ℕ, Result}
use Rattle.heap_model.specs.MemorySteps.{reply_of}
use Rattle.heap_model.specs.declared.names.Name.{Name}
use Rattle.heap_model.specs.declared.refusal.Refusal.{Refusal}
use Rattle.heap_model.specs.declared.call.Reply.{Reply}
use Rattle.heap_model.specs.declared.call.Reply.TheVariants as replies
use Rattle.mem_manager.specs.declared.heap.Locked.{Locked}

-- the reply of a call without a result
abbrev pub done_or_refused : {A : Type 0} → Result A Refusal → Reply
done_or_refused result = reply_of (λ done. replies.Done) result

-- the reply of a call whose result is a number
abbrev pub number_or_refused : Result ℕ Refusal → Reply
number_or_refused result = reply_of (λ number. replies.Number number) result

-- the reply of a call whose result is a name
abbrev pub name_or_refused : Result Name Refusal → Reply
name_or_refused result = reply_of (λ name. replies.Named name) result

-- the reply of a call whose result is a locked chunk: its place and its lock count
abbrev pub lock_or_refused : Result Locked Refusal → Reply
lock_or_refused result = reply_of (λ locked. replies.Locked locked.place locked.count) result
