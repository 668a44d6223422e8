-- The loans of a store that are held together.
use Rattle.std.specs.Prelude.{◌≡◌, List, [], ◌∷◌, length, Some}
use Rattle.heap_model.specs.Memory.{Memory, Lent, NoneBegins}
use Rattle.heap_model.specs.Space.{place_of}
use Rattle.mem_manager.specs.Loans.{OnLoan}

-- the loan has this lent part, and none of the others begins at its offset
pub record HasPart (memory : Memory) (loan : OnLoan) (lent : Lent) (others : List Lent) : Type 0 where
  pub placed : place_of memory.bytes loan.name.0 ≡ Some lent.at
  pub start : loan.part.start ≡ lent.start
  pub count : length loan.part.bytes ≡ lent.count
  pub alone : NoneBegins lent.at others

-- these loans have all of the lent parts, in order
abbrev pub AreAllOut : Memory → List OnLoan → List Lent → Type 0
AreAllOut memory [] [] = Unit {0}
AreAllOut memory [] (lent ∷ lents) = ⊥
AreAllOut memory (loan ∷ loans) [] = ⊥
AreAllOut memory (loan ∷ loans) (lent ∷ lents) = HasPart memory loan lent lents × AreAllOut memory loans lents
