-- The frame that a call of the memory manager leaves, whichever call it is.
use Rattle.laws_heap.proofs.Words.{◌≡◌, ℕ, Bool, List, length, refl, subst, arith, Memory, Table, Tables, tables_of, HeapAccepted, directory_of, SameFrame}
use Rattle.heap_model.specs.MemorySteps.{MemoryCall, MemoryStep, Frames}
use Rattle.heap_model.specs.declared.call.MemoryCall.TheVariants.{MoreSlots}
use Rattle.heap_model.specs.declared.call.Call.TheVariants as calls
use Rattle.heap_model.specs.declared.call.Reply.{Reply}
use Rattle.heap_model.specs.declared.call.Reply.TheVariants.{Refused, Done}
use Rattle.heap_model.specs.declared.refusal.Refusal.{Refusal}
use Rattle.heap_model.specs.StoreSteps.{LeavesTables}
use Rattle.laws_heap.proofs.SameLayouts.{same_frame}

-- what every call leaves
pub record KeepsHead (old new : List ℕ) : Type 0 where
  pub accepted : HeapAccepted new
  pub len : length new ≡ length old
  pub directory : directory_of new ≡ directory_of old

pub frames_head : (call : MemoryCall) (reply : Reply) (old new : List ℕ) → Frames call reply old new
    → KeepsHead old new
frames_head MoreSlots Done old new f =
    record { accepted = f.1.accepted; len = f.1.len; directory = f.1.directory }
frames_head call reply old new f =
    record { accepted = f.accepted; len = f.len; directory = f.directory }

same_fields : (t : Tables) (chained : Bool) (count : ℕ) (further : List Table) → t.chained ≡ chained
    → t.count ≡ count → t.further ≡ further
    → t ≡ record { chained = chained; count = count; further = further }
same_fields t chained count further a b c =
    subst (λ (x : Bool). t ≡ record { chained = x; count = count; further = further }) a
    (subst (λ (x : ℕ). t ≡ record { chained = t.chained; count = x; further = further }) b
    (subst (λ x. t ≡ record { chained = t.chained; count = t.count; further = x }) c refl))

-- and which tables there are then
pub frames_tables : (call : MemoryCall) (reply : Reply) (old new : List ℕ)
    → Frames call reply old new
    → LeavesTables (calls.Memory call) reply (tables_of old) (tables_of new)
frames_tables MoreSlots Done old new f =
    let g = f.1 in
    (f.0, same_fields (tables_of new) _ _ _ g.chained g.count g.further)
frames_tables call reply old new f = f.tables

-- a refused call leaves it as it was
pub frames_refused : (call : MemoryCall) (refusal : Refusal) (old new : List ℕ) → SameFrame old new
    → Frames call (Refused refusal) old new
frames_refused MoreSlots refusal old new f = f
frames_refused call refusal old new f = f

-- and so does one that leaves the region as it is
pub frames_same : (region : Memory) (call : MemoryCall) (reply : Reply) → HeapAccepted region.bytes
    → MemoryStep region call reply region → Frames call reply region.bytes region.bytes
frames_same region MoreSlots Done h s = let more = s.1.0.1 in absurd (omega arith)
frames_same region call reply h s = same_frame region.bytes h
