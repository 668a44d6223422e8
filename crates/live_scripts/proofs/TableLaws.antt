-- Laws on tables that grow.
use Rattle.live_scripts.proofs.Words.{◌≡◌, ℕ, zero, suc, List, [], ◌∷◌, ◌++◌, get_or, refl, table}

found_grown : {Bound : Type 0} (items : List Bound) (unbound : Bound) (label : ℕ)
    → get_or (items ++ unbound ∷ []) label unbound ≡ get_or items label unbound
found_grown [] unbound zero = refl
found_grown [] unbound (suc label) = refl
found_grown (item ∷ items) unbound zero = refl
found_grown (item ∷ items) unbound (suc label) = found_grown items unbound label

-- a table with one more item that stands for no binding
pub table_grown : {Bound : Type 0} (items : List Bound) (unbound : Bound)
    → table unbound (items ++ unbound ∷ []) ≡ table unbound items
table_grown items unbound = λ i label. found_grown items unbound label i
