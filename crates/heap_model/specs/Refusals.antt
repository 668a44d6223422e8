-- Checks in their order, and the refusals that they bring.
use Rattle.std.specs.Prelude.{◌≡◌, ◌⊎◌, Bool, true, false, List, [], ◌∷◌}
use Rattle.std.specs.Bool.{OnTrue}
use Rattle.heap_model.specs.declared.refusal.Refusal.{Refusal}

-- A condition and a refusal. If the check must refuse (`brings`), the call refuses whenever the
-- condition is true. Otherwise (`may_bring`) the call may also go on, to later checks or to
-- success.
pub record Check : Type 1 where
  pub condition : Type 0
  pub refusal : Refusal
  pub must : Bool

infix 70 ◌brings◌
abbrev pub ◌brings◌ : Type 0 → Refusal → Check
◌brings◌ P refusal = record { condition = P; refusal = refusal; must = true }

infix 70 ◌may_bring◌
abbrev pub ◌may_bring◌ : Type 0 → Refusal → Check
◌may_bring◌ P refusal = record { condition = P; refusal = refusal; must = false }

-- a call may go on after this check
abbrev pub Passes : Check → Type 0
Passes check = OnTrue check.must (check.condition → ⊥)

-- a call may go on after all of these checks
abbrev pub NoneHolds : List Check → Type 0
NoneHolds [] = Unit {0}
NoneHolds (check ∷ checks) = Passes check × NoneHolds checks

-- a check brings this refusal, and the call may go on after all checks before it
abbrev pub FirstBrings : List Check → Refusal → Type 0
FirstBrings [] refusal = ⊥
FirstBrings (check ∷ checks) refusal = (check.condition × (refusal ≡ check.refusal)) ⊎ (Passes check × FirstBrings checks refusal)
