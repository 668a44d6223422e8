-- A chunk's bytes are taken out of a store, and put back.
use Rattle.std.specs.Prelude.{◌≡◌, ℕ, ◌∷◌, length, replicate, Some}
use Rattle.heap_model.specs.Memory.{Memory, without}
use Rattle.heap_model.specs.Lending.{IsLentAs}
use Rattle.heap_model.specs.Space.{place_of}
use Rattle.heap_model.specs.Store.{bytes_of, store_of}
use Rattle.heap_model.specs.Refusals.{NoneHolds}
use Rattle.heap_model.specs.declared.names.Name.{Name}
use Rattle.mem_manager.specs.Loans.{OnLoan, IsOutUnder, also_out_checks}
use Rattle.palm_store.specs.EntryCalls.{LeavesChanged}
use Rattle.palm_store.specs.Files.{data_filled}

-- The bytes under a name were taken out, and zeros replace them. Nothing else of the store has
-- changed. Each name has the same place, and all other loans stay.
pub record TakesOutOfStore (old new : Memory) (name : Name) (loan : OnLoan) : Type 0 where
  pub could : NoneHolds (also_out_checks old name.0)
  pub name_is : loan.name ≡ name
  pub bytes : loan.part.bytes ≡ bytes_of ((store_of old.bytes).map name.0)
  pub leaves : LeavesChanged old new (λ store. data_filled store name.0 (replicate (length loan.part.bytes) 0))
  pub out : IsOutUnder new name.0 loan.part
  pub is_lent : IsLentAs new name.0 (length loan.part.bytes)
  pub unmoved : (other : ℕ) → place_of new.bytes other ≡ place_of old.bytes other
  pub at : ℕ
  pub placed : place_of old.bytes name.0 ≡ Some at
  pub there : place_of new.bytes name.0 ≡ Some at
  pub rest : new ≡ record old { bytes = new.bytes; lents = record { at = at; count = length loan.part.bytes; start = loan.part.start } ∷ old.lents }

-- The bytes under the name of a loan are those of the loan. Nothing else of the store has changed.
-- Each name has the same place, and all other loans stay.
pub record PutsBackInStore (old new : Memory) (loan : OnLoan) : Type 0 where
  pub bytes : bytes_of ((store_of new.bytes).map loan.name.0) ≡ loan.part.bytes
  pub leaves : LeavesChanged old new (λ store. data_filled store loan.name.0 loan.part.bytes)
  pub unmoved : (other : ℕ) → place_of new.bytes other ≡ place_of old.bytes other
  pub at : ℕ
  pub placed : place_of old.bytes loan.name.0 ≡ Some at
  pub rest : new ≡ record old { bytes = new.bytes; lents = without at old.lents }
