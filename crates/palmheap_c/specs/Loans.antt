-- What the calls do that take the bytes of chunks out of a store, and put them back.
use Rattle.std.specs.Prelude.{◌≡◌, ◌≢◌, ℕ, length, None}
use denote.RawPtr.{null_ptr}
use Rattle.heap_model.specs.Memory.{Memory}
use Rattle.heap_model.specs.Numbers.{number_of}
use Rattle.heap_model.specs.Refusals.{FirstBrings}
use Rattle.heap_model.specs.Store.{owner_under}
use Rattle.heap_model.specs.Chunk.{managers_owner}
use Rattle.heap_model.specs.declared.refusal.Refusal.{Refusal}
use Rattle.raw_region.specs.LentParts.{IsFull, bytes_in, part_in}
use Rattle.mem_manager.specs.Loans.{OnLoan, IsOutUnder, also_out_checks, out_checks}
use Rattle.palm_store.specs.Loans as stores
use Rattle.palmheap_c.specs.Calls.{as_name}
use Rattle.palmheap_c.specs.declared.loans.KeptLoan.{KeptLoan}

-- the loan that a place holds
abbrev pub loan_in : KeptLoan → OnLoan
loan_in place = record { name = as_name place.name; part = part_in place.part.bytes place.part.values }

-- the place holds this loan, and the count of its bytes
pub record Keeps (place : KeptLoan) (loan : OnLoan) : Type 0 where
  pub full : IsFull place.part.values
  pub counted : place.part.count ≡ length (bytes_in place.part.values)
  pub is : loan_in place ≡ loan

-- The bytes under a name were taken out of a store. The place holds them, their count, and the name.
pub record TakesOutInC (old new : Memory) (name : ℕ) (place : KeptLoan) : Type 0 where
  pub full : IsFull place.part.values
  pub counted : place.part.count ≡ length (bytes_in place.part.values)
  pub takes : stores.TakesOutOfStore old new (as_name name) (loan_in place)

-- Nothing was taken out, and the result is the number of the first refusal.
abbrev pub RefusesOut : Memory → ℕ → ℕ → Type 0
RefusesOut store name result = (refusal : Refusal) × (result ≡ number_of refusal) × FirstBrings (out_checks store name) refusal

-- the same, where the bytes of other chunks may be out
abbrev pub RefusesOutAlso : Memory → ℕ → ℕ → Type 0
RefusesOutAlso store name result = (refusal : Refusal) × (result ≡ number_of refusal) × FirstBrings (also_out_checks store name) refusal

-- the place holds bytes of this store that are out, and the name of their chunk
pub record HoldsLoan (store : Memory) (place : KeptLoan) : Type 0 where
  pub full : IsFull place.part.values
  pub out : IsOutUnder store place.name (part_in place.part.bytes place.part.values)

-- The bytes that the place held are those under its name, whose chunk the manager doesn't own.
pub record PutsBackInC (old new : Memory) (place : KeptLoan) : Type 0 where
  pub back : stores.PutsBackInStore old new (loan_in place)
  pub owned : owner_under old.bytes place.name ≢ managers_owner

-- the place holds no loan
pub record HoldsNoLoan (place : KeptLoan) : Type 0 where
  pub null : place.part.bytes ≡ null_ptr
  pub none_counted : place.part.count ≡ 0
  pub none : place.part.values ≡ None
  pub no_name : place.name ≡ 0
