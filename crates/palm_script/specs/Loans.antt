-- The loans of a store while calls are done on it.
use Rattle.std.specs.Prelude.{[], ◌≡◌, ◌≤◌, ◌+◌, ℕ, List, length, slice_get, Some}
use Rattle.heap_model.specs.Memory.{Memory}
use Rattle.heap_model.specs.Lending.{IsLent, KeepsLoan}
use Rattle.heap_model.specs.Space.{place_of}
use Rattle.heap_model.specs.StoreSteps.{Call, DoesInStore}
use Rattle.heap_model.specs.declared.call.Reply.{Reply}
use Rattle.script_calls.specs.Movement.{Moves}

-- All loans stay from one region to another. The same bytes are out, and each name that is lent
-- stays lent, with the length and the place of its chunk. If nothing is lent of the first region,
-- nothing is lent of the second.
pub record LoanStays (old new : Memory) : Type 0 where
  pub lent : new.lents ≡ old.lents
  pub names : KeepsLoan old new
  pub places : (name : ℕ) → IsLent old name → place_of new.bytes name ≡ place_of old.bytes name

-- A list of calls was run, and all loans stay after each of them, even after a compaction. `region
-- count` is the region after the first `count` calls. Each reply is that of its call's step from
-- one of these regions to the next. `Moves` limits which chunks five of the calls move.
pub record RunsOnLoan (old : Memory) (calls : List Call) (replies : List Reply) (new : Memory) : Type 0 where
  pub region : ℕ → Memory
  pub first : region 0 ≡ old
  pub end : region (length calls) ≡ new
  pub replied : length replies ≡ length calls
  pub step : (count : ℕ) (call : Call) (reply : Reply) → slice_get calls count ≡ Some call → slice_get replies count ≡ Some reply → DoesInStore (region count) call reply (region (count + 1))
  pub moves : (count : ℕ) (call : Call) → slice_get calls count ≡ Some call → Moves (region count) call (region (count + 1))
  pub loan : (count : ℕ) → count ≤ length calls → LoanStays old (region count)
