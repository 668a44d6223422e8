-- An image is written only if nothing is lent.
use Rattle.palmheap_c.proofs.Words.{◌≡◌, ◌≢◌, List, [], ◌∷◌, rules, refl, inl, Lent}
use Rattle.palmheap_c.proofs.opening.palmheap_write_image.Goals as goal

none_lent : (lents : List Lent) → (lents ≢ [] → ⊥) → lents ≡ []
none_lent [] not = refl
none_lent (lent ∷ lents) not = absurd (not (λ e. cc))

pub returns-in-Ok-clause-writes : goal.returns-in-Ok-clause-writes
returns-in-Ok-clause-writes c =
    let whole =
    none_lent c.as_mut.result.now.lents (λ some. let e = c.in-Ok.ensures.lent.1 some in cc) in
    let wrote = c.in-Ok.ensures.writes whole in
    inl (rw c.as_mut.ensures.value at whole, search rules)
