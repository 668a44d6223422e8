-- Names that were copied to the start of an array are those of all loans.
use Rattle.palmheap_c.proofs.Words.{◌≡◌, ◌<◌, ℕ, List, length, take, drop, refl, Memory, Name, AreLoansAbove, AreLoans, HasMoreLoans, numbers_of_names}

pub are_loans : (store : Memory) (names : List Name) (old new : List ℕ)
    → AreLoansAbove store 0 names → take (length names) new ≡ numbers_of_names names
    → drop (length names) new ≡ drop (length names) old → AreLoans store old new (length names)
are_loans store names old new all copied others =
    record { names = names; all = all; counted = refl; are = copied; others = others }

pub has_more : (store : Memory) (names : List Name) (numbers : List ℕ) → AreLoansAbove store 0 names
    → length numbers < length names → HasMoreLoans store numbers numbers (length names)
has_more store names numbers all more =
    record { names = names; all = all; counted = refl; more = more; same = refl }
