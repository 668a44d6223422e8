-- What a call on an open store returns in C.
use Rattle.std.specs.Prelude.{◌≡◌, ◌≢◌, ◌⊎◌, ℕ, List, Bool, if◌then◌else◌}
use Rattle.heap_model.specs.Memory.{Memory}
use Rattle.heap_model.specs.Numbers.{number_of}
use Rattle.heap_model.specs.StoreSteps.{Call, DoesInStore}
use Rattle.heap_model.specs.declared.call.Reply.{Reply}
use Rattle.heap_model.specs.declared.call.Reply.TheVariants.{Data, Refused}
use Rattle.heap_model.specs.declared.names.Db.{Db}
use Rattle.heap_model.specs.declared.names.Name.{Name}
use Rattle.heap_model.specs.declared.names.Place.{Place}
use Rattle.heap_model.specs.declared.names.Which.{Which}
use Rattle.heap_model.specs.declared.names.Which.TheVariants.{App, Sort}
use Rattle.heap_model.specs.declared.refusal.Refusal.{Refusal}
use Rattle.palmheap_c.specs.Buffers.{Buffer, PutsCoded}
use Rattle.palmheap_c.specs.Opened.{Opened}

-- ---- numbers of C

abbrev pub as_name : ℕ → Name
as_name n = record { 0 = n }

abbrev pub as_place : ℕ → Place
as_place n = record { 0 = n }

abbrev pub as_db : ℕ → Db
as_db n = record { 0 = n }

abbrev pub which_of : Bool → Which
which_of sort = if sort then Sort else App

-- ---- calls

-- the call was refused, and the result is the number of the refusal
abbrev pub IsRefused : Memory → Call → ℕ → Memory → Type 0
IsRefused old call result new = (refusal : Refusal) × (result ≡ number_of refusal) × DoesInStore old call (Refused refusal) new

-- A call did its step. The result is 0, and this is the reply. Or the result is the number of the
-- refusal. The same pointers are out, and the bytes at them are the same.
pub record DoesInC (old : Opened) (call : Call) (reply : Reply) (result : ℕ) (new : Opened) : Type 0 where
  pub done : result ≡ 0 → DoesInStore old.memory call reply new.memory
  pub refused : result ≢ 0 → IsRefused old.memory call result new.memory
  pub pointers : new.pointers ≡ old.pointers

-- the same of a call that is never refused
pub record DoesAlways (old : Opened) (call : Call) (reply : Reply) (new : Opened) : Type 0 where
  pub done : DoesInStore old.memory call reply new.memory
  pub pointers : new.pointers ≡ old.pointers

-- A call that returns bytes did its step, and the buffer got the bytes or is too short for them.
-- Otherwise the call was refused, and the buffer and the count are unchanged. The same pointers are
-- out, and the bytes at them are the same.
abbrev pub DoesData : Opened → Call → (before after : Buffer) → (result : ℕ) → Opened → Type 0
DoesData old call before after result new =
    (((bytes : List ℕ) × DoesInStore old.memory call (Data bytes) new.memory × PutsCoded bytes before.bytes after.bytes after.count result)
    ⊎ (IsRefused old.memory call result new.memory × (after.bytes ≡ before.bytes) × (after.count ≡ before.count)))
    × (new.pointers ≡ old.pointers)
