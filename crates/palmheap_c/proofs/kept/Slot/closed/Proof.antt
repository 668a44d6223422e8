-- `closed` has a null pointer, and owns nothing. Assumes `Logic`.
use Rattle.palmheap_c.proofs.Laws.{◌≡◌, [], ◌∷◌, refl, lit<, proved_at, leaves, Option, None, Fn, Val, SProp, emp, ftrue, fact, fact_i, tables, ‵, raw, ◌⊛◌, ◌$◌, ◌∵◌, !, qed, by, move, use0, split, agg, lit, no_more, and_then, returns, enter, alloc_all, pass_all, free_all, look_at, sets, owns, null_ptr, types_at, nothing, alive, Stays, walk_of, Opened, word, word_in}
use types.Kit.{drop}
use Rattle.palmheap_c.specs.contracts.kept.Slot as slot
use Rattle.palmheap_c.specs.contracts.kept.Slot.closed.{ended, clauses}
use Rattle.palmheap_c.specs.contracts.kept.Slot.closed.Key.{name as #self}
use Rattle.palmheap_c.proofs.kept.Slot.closed.Statement.{statement}
use Rattle.palmheap_c.proofs.kept.Slot.closed.Code as compiled

pub closed_spec : {M : Type 1} → statement M
closed_spec 𝓤 𝓛 𝓜 𝓡 wired =
    let H = 𝓛.H in
    let fn : Fn = compiled.function in
    let stays : Stays ended.signature.params ended.kept = tt in
    let c = clauses 𝓛 𝓜.mem 𝓡.returns in
    let C = (tables 𝓤 H 𝓜 𝓡 𝓡.env).C in
    let Λ = (tables 𝓤 H 𝓜 𝓡 𝓡.env).Λ in
    proved_at 𝓛 ended stays c 𝓜 𝓡 tt #self fn (compiled.unfolded 𝓤 H 𝓜 𝓡 wired) (λ z are.
    let Post : Val → SProp 𝓤 = (walk_of 𝓛 ended stays c).post z in
    let none : Option Opened = None in
    let made : slot.the_row.Denot = record { at = null_ptr; store = none } in
    qed 𝓛 ((raw (alive 𝓛 ended.signature z.0.0 z.0.1) ⊛ ‵
    (owns (types_at ended.signature.params z.0.0) z.0.3 z.0.4)) ∷ ‵ ftrue ∷ []) ∵ move ! (1 ∷ [])
    $ drop ! $ split ! $ move ! (1 ∷ []) $ drop ! $ enter ! C Λ fn [] Post
    $ alloc_all ! (λ l. pass_all ! refl tt
    $ sets ! (agg ! (and_then ! (lit ! tt) (no_more !))) refl (tt, (record { fits = lit< tt }, tt))
    $ returns ! (look_at ! 0 refl) $ free_all ! refl $ nothing ! $ word_in ! null_ptr none
    $ use0 𝓛 (raw (fact 𝓤 ((none ≡ none) × (null_ptr ≡ null_ptr))))
    (fact_i 𝓤 ((none ≡ none) × (null_ptr ≡ null_ptr)) (emp 𝓤) (refl, refl)) $ nothing !
    $ move ! (3 ∷ 0 ∷ 2 ∷ 1 ∷ []) $ by ! (leaves 𝓛 ended stays c z (word null_ptr) made tt tt)))
