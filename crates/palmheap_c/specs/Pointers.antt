-- What the calls do that give a pointer to the bytes of a chunk, and unlock it.
use Rattle.std.specs.Prelude.{◌≡◌, ◌<◌, ◌+◌, ◌-◌, ◌≤◌, ◌⊎◌, ℕ, List, ◌∷◌, [], Option, Some, None, Result, Ok, Err, length}
use Rattle.std.specs.BTreeMap.{insert_entry, is_at}
use Rattle.std.specs.Map.{lookup, remove_entry, set_value}
use Rattle.std.specs.Mem.{manually_drop_value}
use Rattle.std.specs.Ordering.{nat_cmp}
use denote.RawPtr.{Ptr, ◌+ₚ◌}
use Rattle.allowance.specs.Refusals.{GrowthRefused}
use Rattle.heap_model.specs.Chunk.{fixed_lock, most_locks}
use Rattle.heap_model.specs.Lending.{IsLent}
use Rattle.heap_model.specs.Maps.{callers_map}
use Rattle.heap_model.specs.Memory.{Memory}
use Rattle.heap_model.specs.MemorySteps.{Of, lent_out, unknown, where_it}
use Rattle.heap_model.specs.Numbers.{number_of}
use Rattle.heap_model.specs.Refusals.{Check, FirstBrings}
use Rattle.heap_model.specs.Space.{place_of}
use Rattle.heap_model.specs.StoreSteps.{DoesInStore}
use Rattle.heap_model.specs.declared.call.Call.TheVariants as calls
use Rattle.heap_model.specs.declared.call.MemoryCall.TheVariants.{Lock, Unlock}
use Rattle.heap_model.specs.declared.call.Reply.TheVariants.{Locked, Number, Refused}
use Rattle.heap_model.specs.declared.names.Place.{Place}
use Rattle.heap_model.specs.declared.refusal.Refusal.{Refusal}
use Rattle.heap_model.specs.declared.refusal.Refusal.TheVariants.{ChunkFixed, LockOverflow, OutOfMemory}
use Rattle.mem_manager.specs.Loans.{IsOutUnder, OnLoan}
use Rattle.palm_store.specs.Loans as stores
use Rattle.palmheap_c.specs.Calls.{as_name}
use Rattle.palmheap_c.specs.Opened.{Opened}
use Rattle.palmheap_c.specs.declared.pointers.NotUnlocked.{NotUnlocked}
use Rattle.palmheap_c.specs.declared.pointers.NotUnlocked.TheVariants.{LockRefused, NoPointer}
use Rattle.palmheap_c.specs.declared.pointers.Pinned.{Pinned}

-- ---- the chunks to which pointers are out

-- the chunks to which pointers are out, by their names in order
abbrev pub Pointers : Type 0
Pointers = List (ℕ × Pinned)

-- what is out to the chunk of a name
abbrev pub pinned : Pointers → ℕ → Option Pinned
pinned pointers name = lookup (is_at (nat_cmp name)) pointers

-- the same with another number of locks
abbrev pub locked_times : Pinned → ℕ → Pinned
locked_times it locks = record it { locks = locks }

abbrev pub loan_of : Pinned → OnLoan
loan_of it = manually_drop_value it.loan

-- the bytes of a chunk are out, under this name, and the pointer is to them
pub record IsPinned (store : Memory) (name : ℕ) (it : Pinned) : Type 0 where
  pub named_so : (loan_of it).name ≡ as_name name
  pub out : IsOutUnder store name (loan_of it).part
  pub starts : it.at ≡ (loan_of it).part.start

-- The bytes of each chunk to which pointers are out are lent. A store has this when it is opened,
-- and each call leaves it so. For the functions on loans and pointers the clause `holds` states it,
-- for other calls the laws `calls_keep`, `always_keep` and `data_keep` do. `palmheap_put_back` must
-- get no loan of a chunk to which pointers are out.
abbrev pub HoldsPointers : Opened → Type 0
HoldsPointers store = (name : ℕ) (it : Pinned) → pinned store.pointers name ≡ Some it → IsPinned store.memory name it

-- the pointer to a chunk is where an image starts, plus the place of the chunk
pub record IsAtPlace (start : Ptr) (store : Memory) (name : ℕ) (it : Pinned) : Type 0 where
  pub place : ℕ
  pub of_chunk : place_of store.bytes name ≡ Some place
  pub within : place ≤ length store.bytes
  pub at_is : it.at ≡ start +ₚ place

-- so is each pointer that is out
abbrev pub AreAtPlaces : Ptr → Opened → Type 0
AreAtPlaces start store = (name : ℕ) (it : Pinned) → pinned store.pointers name ≡ Some it → IsAtPlace start store.memory name it

-- the most times that a pointer can be out
abbrev pub most_times : ℕ
most_times = 4294967295

-- If pointers to a chunk are out, there are now so many of them. Nothing else has changed.
abbrev pub CountsPointers : (old new : Opened) → (name locks : ℕ) → Type 0
CountsPointers old new name locks = (it : Pinned) → pinned old.pointers name ≡ Some it → new ≡ record old { pointers = set_value (is_at (nat_cmp name)) old.pointers (locked_times it locks) }

-- ---- locking

-- The pointer is out already, and is given once more.
pub record LocksAgain (old new : Opened) (name : ℕ) (at : Ptr) (count : ℕ) : Type 0 where
  pub it : Pinned
  pub was : pinned old.pointers name ≡ Some it
  pub more : new ≡ record old { pointers = set_value (is_at (nat_cmp name)) old.pointers (locked_times it (it.locks + 1)) }
  pub at_is : at ≡ it.at
  pub count_is : count ≡ length (loan_of it).part.bytes

-- a pointer to the bytes of a loan is out once
pub record GivesPointer (old new : Opened) (name : ℕ) (loan : OnLoan) (at : Ptr) (count : ℕ) : Type 0 where
  pub it : Pinned
  pub is : loan_of it ≡ loan
  pub once : it.locks ≡ 1
  pub starts : it.at ≡ loan.part.start
  pub more : new ≡ record old { pointers = insert_entry nat_cmp old.pointers name it }
  pub at_is : at ≡ loan.part.start
  pub count_is : count ≡ length loan.part.bytes

-- No pointer to the chunk is out. It is locked, and its bytes are taken out.
pub record LocksFirst (old new : Opened) (name : ℕ) (at : Ptr) (count : ℕ) : Type 0 where
  pub none : pinned old.pointers name ≡ None
  pub locked : Memory
  pub out : Opened
  pub place : Place
  pub locks : ℕ
  pub loan : OnLoan
  pub locks_it : DoesInStore old.memory (calls.Memory (Lock (as_name name))) (Locked place locks) locked
  pub takes : stores.TakesOutOfStore locked out.memory (as_name name) loan
  pub same : out.pointers ≡ old.pointers
  pub keeps : GivesPointer out new name loan at count

abbrev pub LocksPointer : (old new : Opened) → (name : ℕ) → Ptr → (count : ℕ) → Type 0
LocksPointer old new name at count = LocksAgain old new name at count ⊎ LocksFirst old new name at count

-- The refusals of locking a chunk for a pointer whose bytes another loan has: those of a lock, and
-- then that the bytes are out.
abbrev pub pointer_checks : Memory → ℕ → List Check
pointer_checks old name =
    unknown (callers_map old.bytes) name
    ∷ where_it (callers_map old.bytes) name (λ live. live.lock ≡ fixed_lock) ChunkFixed
    ∷ where_it (callers_map old.bytes) name (λ live. live.lock ≡ most_locks) LockOverflow
    ∷ lent_out old (callers_map old.bytes) name
    ∷ []

-- the bytes of the chunk are out
abbrev pub HasBytesOut : Memory → ℕ → Type 0
HasBytesOut store name = Of (callers_map store.bytes name) (λ live. IsLent store name)

-- the pointer is out as often as it can be
pub record IsOutMost (old new : Opened) (name result : ℕ) : Type 0 where
  pub it : Pinned
  pub was : pinned old.pointers name ≡ Some it
  pub most : it.locks ≡ most_times
  pub same : new ≡ old
  pub is : result ≡ number_of LockOverflow

-- The bytes are out by another loan, and nothing has changed.
pub record IsOutElsewhere (old new : Opened) (name result : ℕ) : Type 0 where
  pub refusal : Refusal
  pub is : result ≡ number_of refusal
  pub first : FirstBrings (pointer_checks old.memory name) refusal
  pub same : new ≡ old

-- the lock was refused
pub record RefusesLock (old new : Opened) (name result : ℕ) : Type 0 where
  pub refusal : Refusal
  pub is : result ≡ number_of refusal
  pub refused : DoesInStore old.memory (calls.Memory (Lock (as_name name))) (Refused refusal) new.memory
  pub same : new.pointers ≡ old.pointers

-- a lock was taken off, or that was refused
abbrev pub Unlocks : (old new : Memory) → ℕ → Type 0
Unlocks old new name =
    ((left : ℕ) × DoesInStore old (calls.Memory (Unlock (as_name name))) (Number left) new)
    ⊎ ((refusal : Refusal) × DoesInStore old (calls.Memory (Unlock (as_name name))) (Refused refusal) new)

-- An allocation failed. So the bytes were put back, and the lock was taken off.
pub record LetsLoanGo (old new : Opened) (name : ℕ) (loan : OnLoan) : Type 0 where
  pub short : GrowthRefused
  pub back : Memory
  pub puts : stores.PutsBackInStore old.memory back loan
  pub unlocks : Unlocks back new.memory name
  pub same : new.pointers ≡ old.pointers

-- the same, after the chunk was locked and its bytes were taken out
pub record WantsEntry (old new : Opened) (name result : ℕ) : Type 0 where
  pub is : result ≡ number_of OutOfMemory
  pub locked : Memory
  pub out : Opened
  pub place : Place
  pub locks : ℕ
  pub loan : OnLoan
  pub locks_it : DoesInStore old.memory (calls.Memory (Lock (as_name name))) (Locked place locks) locked
  pub takes : stores.TakesOutOfStore locked out.memory (as_name name) loan
  pub same : out.pointers ≡ old.pointers
  pub goes : LetsLoanGo out new name loan

-- No pointer to the chunk is out, and none was given.
abbrev pub RefusesFirst : (old new : Opened) → (name result : ℕ) → Type 0
RefusesFirst old new name result =
    (pinned old.pointers name ≡ None)
    × (IsOutElsewhere old new name result ⊎ (RefusesLock old new name result ⊎ WantsEntry old new name result))

abbrev pub RefusesPointer : (old new : Opened) → (name result : ℕ) → Type 0
RefusesPointer old new name result = IsOutMost old new name result ⊎ RefusesFirst old new name result

-- ---- unlocking

-- the result of unlocking if no pointer to the chunk is out
abbrev pub call_no_pointer : ℕ
call_no_pointer = 102

-- the number of a result of unlocking
abbrev pub unlock_code : {A : Type 0} → Result A NotUnlocked → ℕ
unlock_code (Ok done) = 0
unlock_code (Err NoPointer) = call_no_pointer
unlock_code (Err (LockRefused refusal)) = number_of refusal

-- no pointer to the chunk is out
pub record HasNoPointer (old new : Opened) (name result : ℕ) : Type 0 where
  pub none : pinned old.pointers name ≡ None
  pub same : new ≡ old
  pub is : result ≡ call_no_pointer

-- the pointer stays out, once less
pub record UnlocksOne (old new : Opened) (name result : ℕ) : Type 0 where
  pub it : Pinned
  pub was : pinned old.pointers name ≡ Some it
  pub more : 1 < it.locks
  pub less : new ≡ record old { pointers = set_value (is_at (nat_cmp name)) old.pointers (locked_times it (it.locks - 1)) }
  pub is : result ≡ 0

-- The bytes were put back, and a lock was taken off. The result is 0, or the number of the refusal
-- of the latter.
pub record UnlocksBytes (old new : Opened) (name result : ℕ) (it : Pinned) : Type 0 where
  pub back : Memory
  pub puts : stores.PutsBackInStore old.memory back (loan_of it)
  pub unlocked : ((result ≡ 0) × ((left : ℕ) × DoesInStore back (calls.Memory (Unlock (as_name name))) (Number left) new.memory))
      ⊎ ((refusal : Refusal) × (result ≡ number_of refusal) × DoesInStore back (calls.Memory (Unlock (as_name name))) (Refused refusal) new.memory)
  pub less : new.pointers ≡ remove_entry (is_at (nat_cmp name)) old.pointers
  pub gone : pinned new.pointers name ≡ None

abbrev pub LetsGo : (old new : Opened) → (name result : ℕ) → Type 0
LetsGo old new name result = (it : Pinned) → pinned old.pointers name ≡ Some it → UnlocksBytes old new name result it

-- the pointer was out once
pub record UnlocksLast (old new : Opened) (name result : ℕ) : Type 0 where
  pub it : Pinned
  pub was : pinned old.pointers name ≡ Some it
  pub last : it.locks ≤ 1
  pub lets : UnlocksBytes old new name result it

abbrev pub UnlocksPointer : (old new : Opened) → (name result : ℕ) → Type 0
UnlocksPointer old new name result = HasNoPointer old new name result ⊎ (UnlocksOne old new name result ⊎ UnlocksLast old new name result)
