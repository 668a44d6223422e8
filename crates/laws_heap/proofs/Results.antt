-- What is said of the error of a result, where it is known.
use Rattle.laws_heap.proofs.Words.{◌≡◌, Result, Ok, Err, sym, subst, IsErr, IsErrAnd, IfErr, OnErr}

-- an error that was handed up brings what the one below brought
pub if_err : {A E : Type 0} {brought : E} (P : E → Type 0) (result : Result A E)
    → IsErr result × IsErrAnd result (λ error. error ≡ brought) → P brought → IfErr result P
if_err P (Ok answer) is p = tt
if_err P (Err error) is p = subst P (sym is.1) p

pub on_err : {A E : Type 0} (P : Type 0) (result : Result A E) → P → OnErr result P
on_err P (Ok answer) p = tt
on_err P (Err error) p = p
