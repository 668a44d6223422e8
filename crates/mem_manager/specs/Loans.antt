-- The loans of a heap: all of the body of a chunk that stays, under its name.
use Rattle.std.specs.Prelude.{◌≡◌, ◌≢◌, ℕ, List, [], ◌∷◌, length, replicate, Some}
use Rattle.heap_model.specs.Memory.{Memory, SomeLent, without}
use Rattle.heap_model.specs.Reading.{held}
use Rattle.heap_model.specs.Space.{place_of}
use Rattle.heap_model.specs.Maps.{callers_map}
use Rattle.heap_model.specs.Store.{bytes_of, bytes_under}
use Rattle.heap_model.specs.Leaving.{Leaves, rewritten}
use Rattle.heap_model.specs.Lending.{IsLentAs}
use Rattle.heap_model.specs.Refusals.{Check, ◌brings◌, NoneHolds}
use Rattle.heap_model.specs.MemorySteps.{unknown, where_it, lent_out}
use Rattle.heap_model.specs.declared.names.Name.{Name}
use Rattle.heap_model.specs.declared.refusal.Refusal.TheVariants.{ChunkNotLocked, Lent as OutAlready}
use Rattle.raw_region.specs.Parts.{PartOut}
use Rattle.raw_region.specs.Marks.{IsNextLent, NoneBeginsAbove}

-- a loan, as contracts see it: the name, and the part that is lent
pub record OnLoan : Type 0 where
  pub name : Name
  pub part : PartOut

-- this part is lent, and is the body of the name's chunk
abbrev pub IsOutUnder : Memory → ℕ → PartOut → Type 0
IsOutUnder memory name part = SomeLent (λ lent. (place_of memory.bytes name ≡ Some lent.at) × (part.start ≡ lent.start) × (length part.bytes ≡ lent.count)) memory.lents

-- the refusals of taking out the bytes under a name, where other bytes may be out
abbrev pub also_out_checks : Memory → ℕ → List Check
also_out_checks old name =
    unknown (callers_map old.bytes) name
    ∷ where_it (callers_map old.bytes) name (λ live. live.lock ≡ 0) ChunkNotLocked
    ∷ lent_out old (callers_map old.bytes) name
    ∷ []

-- the refusals of taking out the bytes under a name, where no other bytes may be out
abbrev pub out_checks : Memory → ℕ → List Check
out_checks old name =
    unknown (callers_map old.bytes) name
    ∷ where_it (callers_map old.bytes) name (λ live. live.lock ≡ 0) ChunkNotLocked
    ∷ ((old.lents ≢ []) brings OutAlready)
    ∷ []

-- The bytes under a name were taken out, and zeros replace them. Each name has the same place, and
-- all other loans stay.
pub record TakesOut (old new : Memory) (name : Name) (loan : OnLoan) : Type 0 where
  pub could : NoneHolds (also_out_checks old name.0)
  pub name_is : loan.name ≡ name
  pub bytes : loan.part.bytes ≡ bytes_under old.bytes name.0
  pub leaves : Leaves old.bytes new.bytes (rewritten (held old.bytes) name.0 (replicate (length loan.part.bytes) 0))
  pub out : IsOutUnder new name.0 loan.part
  pub is_lent : IsLentAs new name.0 (length loan.part.bytes)
  pub unmoved : (other : ℕ) → place_of new.bytes other ≡ place_of old.bytes other
  pub at : ℕ
  pub placed : place_of old.bytes name.0 ≡ Some at
  pub there : place_of new.bytes name.0 ≡ Some at
  pub rest : new ≡ record old { bytes = new.bytes; lents = record { at = at; count = length loan.part.bytes; start = loan.part.start } ∷ old.lents }

-- The name of a loan has a caller's chunk with the loan's bytes, and no other name differs. Each name
-- has the same place, and all other loans stay.
pub record PutsBack (old new : Memory) (loan : OnLoan) : Type 0 where
  pub bytes : bytes_of (callers_map new.bytes loan.name.0) ≡ loan.part.bytes
  pub leaves : Leaves old.bytes new.bytes (rewritten (held old.bytes) loan.name.0 loan.part.bytes)
  pub unmoved : (other : ℕ) → place_of new.bytes other ≡ place_of old.bytes other
  pub at : ℕ
  pub placed : place_of old.bytes loan.name.0 ≡ Some at
  pub rest : new ≡ record old { bytes = new.bytes; lents = without at old.lents }

-- The chunk of a name is lent. Its place is above an offset, and no lent body begins between them.
pub record IsNextLoan (memory : Memory) (after name place : ℕ) : Type 0 where
  pub placed : place_of memory.bytes name ≡ Some place
  pub next : IsNextLent memory.lents after place

-- the chunk of a name is the lent one with the least place
abbrev pub IsFirstLoan : Memory → ℕ → Type 0
IsFirstLoan memory name = (place : ℕ) × IsNextLoan memory 0 name place

-- These are the names of the lent chunks above an offset, in order of their places: first the next
-- loan, then those above its place.
abbrev pub AreLoansAbove : Memory → ℕ → List Name → Type 0
AreLoansAbove memory after [] = NoneBeginsAbove after memory.lents
AreLoansAbove memory after (name ∷ names) = (place : ℕ) × (IsNextLoan memory after name.0 place × AreLoansAbove memory place names)
