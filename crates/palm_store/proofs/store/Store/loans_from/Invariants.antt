-- The names so far, followed by those of the loans above the last place, are those of all loans.
use Rattle.palm_store.proofs.Words.{List, ◌++◌, ◌-◌, ◌^◌, Name, AreLoansAbove}
use Rattle.palm_store.proofs.store.Store.loans_from.Given as goal

abbrev pub invariant-loop-loan : goal.invariant-loop-loan
invariant-loop-loan g l = (rest : List Name) → AreLoansAbove l.self l.place.0 rest → AreLoansAbove l.self 0 (l.names.items ++ rest)

abbrev pub decreases-loop-loan : goal.decreases-loop-loan
decreases-loop-loan g l = 2 ^ 32 - l.place.0
