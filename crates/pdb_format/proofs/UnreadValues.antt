-- The machine value of a struct that has only ghost fields is made of nothing.
use Rattle.std.proofs.Common.{List, [], ◌∷◌, refl}
use seplogic.Ra.Ura.{Ura}
use mir.Val.{Val, vstruct, vnil}
use base.Logic.{ent, emp}
use base.Fml.{Fml}
use types.Logic.{Logic, sem}
use denote.RattleType.{RattleType}
use denote.Shadow.{makes_shadow}
use denote.Struct.Struct.{Struct}

abbrev pub no_fields : RattleType
no_fields = Struct (record { name = []; args = []; types = []; fields = [] })

abbrev pub none_val : Val
none_val = vstruct vnil

abbrev pub none_own : List Val → Fml
none_own = no_fields.own_val tt

pub none_made : {M : Type 1} {𝓤 : Ura M} (𝓛 : Logic 𝓤)
    → ent 𝓤 (emp 𝓤) (sem 𝓛 (none_own (none_val ∷ [])))
none_made 𝓛 = makes_shadow 𝓛 (none_own (none_val ∷ [])) (λ _. (tt, tt)) (tt, (refl, tt))
