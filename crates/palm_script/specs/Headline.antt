-- The headline: what a list of manager calls does to an accepted image.
use Rattle.std.specs.Prelude.{◌≡◌, ◌<◌, ◌≤◌, ◌+◌, ◌⊎◌, ℕ, List, length, slice_get, Some}
use Rattle.heap_model.specs.Memory.{Memory}
use Rattle.heap_model.specs.Space.{Still}
use Rattle.heap_model.specs.Store.{Accepted, Means, store_of}
use Rattle.heap_model.specs.StoreSteps.{Call, DoesInStore}
use Rattle.heap_model.specs.declared.call.Reply.{Reply}
use Rattle.script_calls.specs.Movement.{Moves}
use Rattle.store_check.specs.declared.fault.StoreFault.TheVariants.{OutOfMemory as CheckOutOfMemory}
use Rattle.palm_script.specs.declared.lists.NotRun.{NotRun}
use Rattle.palm_script.specs.declared.lists.NotRun.TheVariants.{NotAStore, OutOfMemory}

-- A list of calls, run from an accepted image, is answered as a run of the abstract store answers.
-- The abstract store is a map from names to chunks (bytes, lock count, owner), together with
-- databases as lists of entries. The run begins with the store that the image means.
--
-- `region count` is the region after the first `count` calls. It is an accepted image, and means
-- the store of the run at that point. Each reply is that of its call's step from one of these
-- stores to the next. In each step every chunk that was locked or fixed, and is still live, keeps
-- its place. `Moves` limits which other chunks five of the calls move.
pub record AnswersAsRun (image : Memory) (calls : List Call) (replies : List Reply) (last : Memory) : Type 0 where
  pub region : ℕ → Memory
  pub first : region 0 ≡ image
  pub end : region (length calls) ≡ last
  pub accepted : (count : ℕ) → count ≤ length calls → Accepted (region count).bytes
  pub means : (count : ℕ) → count ≤ length calls → Means (region count).bytes (store_of (region count).bytes)
  pub replied : length replies ≡ length calls
  pub step : (count : ℕ) (call : Call) (reply : Reply) → slice_get calls count ≡ Some call → slice_get replies count ≡ Some reply → DoesInStore (region count) call reply (region (count + 1))
  pub still : (count : ℕ) → count < length calls → Still (region count).bytes (region (count + 1)).bytes
  pub moves : (count : ℕ) (call : Call) → slice_get calls count ≡ Some call → Moves (region count) call (region (count + 1))

-- No call was done, and the region is returned unchanged. Either it is no accepted image, or an
-- allocation failed, for the check or for the replies.
abbrev pub HandsBack : Memory → NotRun → Type 0
HandsBack region (NotAStore error) = (error.region ≡ region) × ((error.fault ≡ CheckOutOfMemory) ⊎ (Accepted region.bytes → ⊥))
HandsBack region (OutOfMemory store) = store ≡ region

-- an allocation failed, for the check or for the replies
abbrev pub WantsMemory : NotRun → Type 0
WantsMemory (NotAStore error) = error.fault ≡ CheckOutOfMemory
WantsMemory (OutOfMemory store) = Unit
