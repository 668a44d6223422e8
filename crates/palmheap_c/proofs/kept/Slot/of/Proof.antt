-- `of` keeps the pointer, and what it owns. Assumes `Logic`.
use Rattle.palmheap_c.proofs.Laws.{◌≡◌, List, [], ◌∷◌, ◌++◌, refl, sym, subst, proved_at, leaves, Fn, Val, vptr, SProp, ent, emp, id⊢, ftrue, WpFn, fact, fact_i, tables, ‵, raw, ◌⊛◌, ◌$◌, ◌∵◌, !, qed, by, move, use0, split, suffices, fsplit, fjoin, whole, sub, agg, stop, fld, of_opd, no_more, and_then, returns, enter, alloc_all, pass_all, free_all, look_at, get, get_in, sets, RattleType, owns, block_ptr, types_at, plain, nothing, alive, Stays, stay_dropped, walk_of, Goes-blank, Opened, Option, Some, both, parts_good, parts_out, word, word_in}
use types.Kit.{drop}
use Rattle.std_heap.specs.contracts.Global as heap
use Rattle.std_heap.specs.contracts.GlobalAllocator.TheImpl as heap_impl
use Rattle.std_heap.proofs.Global.TheLaws as heap_laws
use Rattle.palmheap_c.specs.contracts.kept.Held as stores
use Rattle.palmheap_c.specs.contracts.kept.Slot as slot
use Rattle.palmheap_c.specs.contracts.parts.Parts as parts
use Rattle.palmheap_c.specs.contracts.kept.Slot.of.{ended, clauses}
use Rattle.palmheap_c.specs.contracts.kept.Slot.of.Key.{name as #self}
use Rattle.palmheap_c.proofs.kept.Slot.of.Statement.{statement}
use Rattle.palmheap_c.proofs.kept.Slot.of.Code as compiled

abbrev R : RattleType
R = stores.the_row

abbrev Z : RattleType
Z = heap.the_row

abbrev P : RattleType
P = parts.the_row R Z heap_impl.ghosts

pub of_spec : {M : Type 1} → statement M
of_spec 𝓤 𝓛 𝓜 𝓡 wired =
    let H = 𝓛.H in
    let fn : Fn = compiled.function in
    let stays : Stays ended.signature.params ended.kept =
    (stay_dropped (plain (λ _. P)) ended.kept.0, tt) in
    let c = clauses 𝓛 𝓜.mem 𝓡.returns in
    let C = (tables 𝓤 H 𝓜 𝓡 𝓡.env).C in
    let Λ = (tables 𝓤 H 𝓜 𝓡 𝓡.env).Λ in
    proved_at 𝓛 ended stays c 𝓜 𝓡 (Goes-blank 𝓛 0 (plain (λ _. P)) ended.kept.0 (λ κs x f. tt), tt)
    #self fn (compiled.unfolded 𝓤 H 𝓜 𝓡 wired) (λ z are.
    let Post : Val → SProp 𝓤 = (walk_of 𝓛 ended stays c).post z in
    let Run : List Val → SProp 𝓤 = λ ws. WpFn 𝓤 H C Λ fn ws Post in
    qed 𝓛 ((raw (alive 𝓛 ended.signature z.0.0 z.0.1) ⊛ ‵
    (owns (types_at ended.signature.params z.0.0) z.0.3 z.0.4)) ∷ ‵ ftrue ∷ []) ∵ move ! (1 ∷ [])
    $ drop ! $ split ! $ move ! (1 ∷ []) $ fsplit !
    $ parts_out R Z heap_laws.the_row_laws heap_impl.ghosts ! z.0.3.0 z.0.4.0 (λ b o h at ws fits.
    -- [the store with the right to free it; the handle; true; the tokens]
    move ! (1 ∷ []) $ drop ! $ move ! (1 ∷ []) $ drop ! $ suffices ! (Run (both (vptr b o) h ∷ []))
    (subst (λ (us : List Val). ent 𝓤 (Run (both (vptr b o) h ∷ [])) (Run us))
    (sym (λ i. ws i ++ [])) (id⊢ 𝓤 (Run (both (vptr b o) h ∷ []))))
    $ enter ! C Λ fn (both (vptr b o) h ∷ []) Post $ alloc_all !
    (λ l. pass_all ! refl (parts_good R Z heap_laws.the_row_laws heap_impl.ghosts b o h fits, tt)
    $ sets ! (of_opd ! (get_in ! (fld ! refl (stop !)) (sub ! 0 refl (whole !)))) refl (tt, tt)
    $ sets ! (of_opd ! (get ! refl)) refl (tt, tt)
    $ sets ! (agg ! (and_then ! (get ! refl) (no_more !))) refl (tt, (tt, tt)) $
    let x = z.0.3.0.value in
    let made : slot.the_row.Denot = record { at = block_ptr b o; store = Some x } in
    word_in ! (block_ptr b o) (Some x)
    $ use0 𝓛 (raw (fact 𝓤 (◌≡◌ {A = Option Opened} (Some x) (Some x)))) (fact_i 𝓤
    (◌≡◌ {A = Option Opened} (Some x) (Some x)) (emp 𝓤) refl) $ returns ! (look_at ! 0 refl)
    $ free_all ! refl $ nothing ! $ nothing ! $ fjoin ! $ move ! (3 ∷ 0 ∷ 2 ∷ 1 ∷ [])
    $ by ! (leaves 𝓛 ended stays c z (word (block_ptr b o)) made (tt, tt) (tt, tt)))))
