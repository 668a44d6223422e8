-- The machine value of a `LentPart`: a pointer and a number. Assumes `Logic`.
use Rattle.palmheap_c.proofs.Words.{◌≡◌, ℕ, ◌^◌, ◌<◌, List, [], ◌∷◌, ◌++◌, refl, ◌∙◌, w64, Ura, Val, vint, vstruct, vcons, vnil, of_list, ent, emp, Fml, Logic, sem, RattleType, Ptr, RawPtr, ptr_val, Struct}
use denote.Builtin.{usize}
use denote.Shadow.{shadow, makes_shadow}

-- a struct by its fields alone: what it owns does not read its name
abbrev pub plainly : List RattleType → RattleType
plainly Rs = Struct (record { name = []; args = []; types = []; fields = Rs })

abbrev pub sized_val : Ptr → ℕ → Val
sized_val p n = vstruct (vcons (ptr_val p) (vcons (vint w64 n) vnil))

abbrev pub sized_own : Ptr → ℕ → List Val → Fml
sized_own p n = (plainly (RawPtr ∷ usize ∷ [])).own_val (p, (n, tt))

pub sized_told : (p : Ptr) (n : ℕ) (vs : List Val) → shadow (sized_own p n vs)
    → (vs ≡ sized_val p n ∷ []) × (n < 2 ^ 64)
sized_told p n vs s =
    (s.1.0 ∙ (λ i. vstruct (of_list (s.1.1.0 i ++ (s.1.1.1.0.0 i ++ []))) ∷ []), s.1.1.1.0.1)

pub sized_made : {M : Type 1} {𝓤 : Ura M} (𝓛 : Logic 𝓤) (p : Ptr) (n : ℕ) → (n < 2 ^ 64)
    → ent 𝓤 (emp 𝓤) (sem 𝓛 (sized_own p n (sized_val p n ∷ [])))
sized_made 𝓛 p n f =
    makes_shadow 𝓛 (sized_own p n (sized_val p n ∷ [])) (λ _. (tt, (tt, ((tt, tt), tt))))
    ((ptr_val p ∷ [], (vint w64 n ∷ [], tt)), (refl, (refl, ((refl, f), tt))))
