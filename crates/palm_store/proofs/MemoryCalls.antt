-- A call of the memory manager on the heap inside is one on the store, whose value is the heap's.
use Rattle.palm_store.proofs.Words.{◌≡◌, Memory, MemoryCall, Does, Accepted, databases, store_of, Call, DoesInStore, IsStore, KnownIds, has_databases}
use Rattle.heap_model.specs.declared.call.Call.TheVariants as calls
use Rattle.heap_model.specs.declared.call.Reply.{Reply}
use Rattle.laws_store.proofs.LiftedCalls.{memory_call_steps}
use Rattle.palm_store.proofs.KnownIds.{stand_still}
use Rattle.laws_store.proofs.Counts.{accepted_with, databases_are}
use Rattle.laws_store.proofs.MemoryCalls.{does_keeps}

-- a call that may change the heap
pub forwarded : {known : KnownIds} (inside value new : Memory) (call : MemoryCall) (reply : Reply) → inside ≡ value → IsStore inside.bytes known → Does inside call reply new → DoesInStore value (calls.Memory call) reply new
forwarded inside value new call reply same store does = rw same at (memory_call_steps inside new call reply store.accepted does)

-- it leaves the databases as they are, and so a store, and what is known of its IDs
pub kept : {known : KnownIds} (inside new : Memory) (call : MemoryCall) (reply : Reply) → IsStore inside.bytes known → Does inside call reply new → IsStore new.bytes known
unfolding store_of
kept {known} inside new call reply store does =
    let has = does_keeps inside new call reply (databases inside.bytes) does (has_databases inside.bytes store.accepted) in
    record { accepted = accepted_with new.bytes (databases inside.bytes) has; free = stand_still (store_of inside.bytes) (store_of new.bytes) known (databases_are new.bytes (databases inside.bytes) has) store.free }

-- a call that asks
pub asked : (inside value : Memory) (call : MemoryCall) (reply : Reply) → inside ≡ value → Accepted inside.bytes → Does inside call reply inside → DoesInStore value (calls.Memory call) reply value
asked inside value call reply same accepted does = rw same at (memory_call_steps inside inside call reply accepted does)

-- calls on databases
pub viewed : (inside value new : Memory) (call : Call) (reply : Reply) → inside ≡ value → DoesInStore inside call reply new → DoesInStore value call reply new
viewed inside value new call reply same does = rw same at does

pub ask_viewed : (inside value : Memory) (call : Call) (reply : Reply) → inside ≡ value → DoesInStore inside call reply inside → DoesInStore value call reply value
ask_viewed inside value call reply same does = rw same at does
