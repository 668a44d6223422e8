use Rattle.std.proofs.Common.{◌≡◌, ℕ, zero, suc, ◌<◌, [], ◌∷◌, refl, arith}
use Rattle.heap_model.specs.Lists.{times}
use Rattle.heap_model.specs.UniqueIds.{id_behind}
use Rattle.test_formats.proofs.store.definitions.ids_go_round.Goals as goal

-- the two before it are taken
taken : (count : ℕ) → count < 2 → times (id_behind 0xFFFFFE count) (0xFFFFFF ∷ 1 ∷ []) ≡ 0 → ⊥
taken zero less e = omega arith
taken (suc zero) less e = omega arith
taken (suc (suc count)) less e = omega arith

pub returns-clause-fresh : goal.returns-clause-fresh
returns-clause-fresh c = record { behind = 2; first = record { here = refl; none_below = taken }; is = refl }

pub returns-clause-first_of_none : goal.returns-clause-first_of_none
returns-clause-first_of_none c = record { behind = 0; first = record { here = refl; none_below = λ count less e. omega arith }; is = refl }
