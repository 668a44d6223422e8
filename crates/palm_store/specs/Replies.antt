-- The calls on a store by their kinds, and the reply to a call that may be refused: its result, or
-- the refusal.
use Rattle.std.specs.Prelude.{ℕ, Result}
use Rattle.heap_model.specs.Memory.{Memory}
use Rattle.heap_model.specs.MemorySteps.{MemoryCall, reply_of}
use Rattle.heap_model.specs.StoreSteps.{DoesInStore}
use Rattle.heap_model.specs.declared.names.Db.{Db}
use Rattle.heap_model.specs.declared.names.Name.{Name}
use Rattle.heap_model.specs.declared.refusal.Refusal.{Refusal}
use Rattle.heap_model.specs.DatabaseSteps.{DatabaseCall}
use Rattle.heap_model.specs.declared.call.Call.TheVariants as calls
use Rattle.heap_model.specs.declared.call.Reply.{Reply}
use Rattle.heap_model.specs.declared.call.Reply.TheVariants as replies
pub use Rattle.mem_manager.specs.Replies.{done_or_refused, number_or_refused, name_or_refused}

abbrev pub DoesMemory : Memory → MemoryCall → Reply → Memory → Type 0
DoesMemory old call reply new = DoesInStore old (calls.Memory call) reply new

abbrev pub DoesDatabase : Memory → DatabaseCall → Reply → Memory → Type 0
DoesDatabase old call reply new = DoesInStore old (calls.Database call) reply new

-- ---- replies

-- the result of the call that makes an entry, as a reply
abbrev pub made_reply : ℕ × Name → Reply
made_reply made = replies.Made made.0 made.1

abbrev pub database_or_refused : Result Db Refusal → Reply
database_or_refused result = reply_of (λ db. replies.Database db) result
