-- Calls by names, given by these names.
use Rattle.std.proofs.Common.{◌≡◌, ◌≢◌, refl, ap, false}
use Rattle.std.specs.Prelude.{Result, Ok, Err}
use Rattle.heap_model.specs.Memory.{Memory as Region}
use Rattle.heap_model.specs.MemorySteps.{MemoryCall, memory_call, reply_of}
use Rattle.heap_model.specs.DatabaseSteps.{DatabaseCall, database_call}
use Rattle.heap_model.specs.RecordSteps.{RecordCall, record_call}
use Rattle.heap_model.specs.ResourceSteps.{ResourceCall, resource_call}
use Rattle.heap_model.specs.FileSteps.{FileCall, file_call}
use Rattle.heap_model.specs.StoreSteps.{Call, call_by}
use Rattle.heap_model.specs.declared.call.Call.TheVariants.{Memory, Database, Record, Resource, File}
use Rattle.heap_model.specs.declared.call.MemoryCall.TheVariants.{FreeBytes}
use Rattle.heap_model.specs.declared.call.DatabaseCall.TheVariants as databases
use Rattle.heap_model.specs.declared.call.RecordCall.TheVariants as records
use Rattle.heap_model.specs.declared.call.ResourceCall.TheVariants as resources
use Rattle.heap_model.specs.declared.call.FileCall.TheVariants as files
use Rattle.heap_model.specs.declared.call.Reply.{Reply}
use Rattle.heap_model.specs.declared.call.Reply.TheVariants.{Refused}
use Rattle.heap_model.specs.declared.refusal.Refusal.{Refusal}
use Rattle.heap_model.specs.declared.refusal.Refusal.TheVariants.{OutOfMemory}
use Rattle.script_calls.specs.declared.calls.Outcome.{Outcome}
use Rattle.script_calls.specs.declared.calls.Outcome.TheVariants.{Replied, Reads}
use Rattle.script_calls.specs.Lines.{Answers, OnWant, may_want_memory}

memory_call-same : (call : MemoryCall) → memory_call (λ name. name) (λ bytes. bytes) call ≡ call
memory_call-same FreeBytes = refl
memory_call-same call = refl

database_call-same : (call : DatabaseCall) → database_call (λ name. name) (λ db. db) call ≡ call
database_call-same databases.Count = refl
database_call-same call = refl

record_call-same : (call : RecordCall) → record_call (λ name. name) (λ db. db) call ≡ call
record_call-same (records.Count db) = refl
record_call-same call = refl

resource_call-same : (call : ResourceCall) → resource_call (λ name. name) (λ db. db) call ≡ call
resource_call-same (resources.Count db) = refl
resource_call-same call = refl

file_call-same : (call : FileCall) → file_call (λ db. db) (λ bytes. bytes) call ≡ call
file_call-same (files.Export db) = refl
file_call-same (files.Import file) = refl

-- they are the same calls
pub same_call : (call : Call) → call_by (λ name. name) (λ db. db) (λ bytes. bytes) call ≡ call
same_call (Memory call) = ap Memory (memory_call-same call)
same_call (Database call) = ap Database (database_call-same call)
same_call (Record call) = ap Record (record_call-same call)
same_call (Resource call) = ap Resource (resource_call-same call)
same_call (File call) = ap File (file_call-same call)

-- a call that takes no memory isn't refused with out of memory
pub never_wants : (old : Region) (call : Call) (outcome : Outcome) (new : Region) (fact : Type 0) → Answers old call outcome new → may_want_memory call ≡ false → OnWant outcome fact
never_wants old call (Replied reply) new fact answers without = λ want. absurd (answers.1 without want)
never_wants old call (Reads name at count) new fact answers without = tt

-- a reply is out of memory only if the result is
pub want_of : {A : Type 0} (f : A → Reply) (answer : Result A Refusal) → ((a : A) → f a ≢ Refused OutOfMemory) → reply_of f answer ≡ Refused OutOfMemory → answer ≡ Err OutOfMemory
want_of f (Ok a) other want = absurd (other a want)
want_of f (Err refusal) other want = cc
