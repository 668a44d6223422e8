-- `into_parts` takes the pointer out of a `Slot` that holds a store, with what it owns. Assumes
-- `Logic`.
use Rattle.palmheap_c.proofs.Laws.{◌≡◌, List, [], ◌∷◌, ◌++◌, refl, sym, ap, ◌∙◌, subst, proved_at, leaves, Fn, Val, vptr, SProp, ent, emp, id⊢, never, fst∗, WpFn, sem, fact, fact_i, tables, ‵, raw, ◌⊛◌, ◌$◌, ◌∵◌, !, qed, by, move, keep, use0, split, suffices, rewrite, fsplit, fsplit3, fjoin, whole, sub, agg, stop, fld, of_opd, no_more, and_then, returns, enter, alloc_all, pass_all, free_all, look_at, get, get_in, sets, RattleType, owns, Ptr, block_ptr, null_ptr, in_a_block, lone, types_at, plain, nothing, heard, alive, Stays, stay_dropped, walk_of, Goes-blank, handle_tells, box_owns, HoldsStore, frees, kept_in, slot_owns, Opened, Option, word, both, told, al, parts_good, parts_in}
use mir.Raw.{raw as bare}
use types.Kit.{drop}
use Rattle.std_heap.specs.contracts.Global as heap
use Rattle.std_heap.specs.contracts.GlobalAllocator.TheImpl as heap_impl
use Rattle.std_heap.proofs.Global.TheLaws as heap_laws
use Rattle.palmheap_c.specs.contracts.kept.Held as stores
use Rattle.palmheap_c.specs.contracts.parts.Parts as parts
use Rattle.palmheap_c.specs.contracts.kept.Slot as slot
use Rattle.palmheap_c.specs.contracts.kept.Slot.into_parts.{ended, clauses}
use Rattle.palmheap_c.specs.contracts.kept.Slot.into_parts.Key.{name as #self}
use Rattle.palmheap_c.proofs.kept.Slot.into_parts.Statement.{statement}
use Rattle.palmheap_c.proofs.kept.Slot.into_parts.Code as compiled

abbrev R : RattleType
R = stores.the_row

abbrev Z : RattleType
Z = heap.the_row

pub into_parts_spec : {M : Type 1} → statement M
into_parts_spec 𝓤 𝓛 𝓜 𝓡 wired =
    let H = 𝓛.H in
    let fn : Fn = compiled.function in
    let stays : Stays ended.signature.params ended.kept = (
      stay_dropped (plain (λ _. slot.the_row)) ended.kept.0,
      (stay_dropped (plain (λ _. Z)) ended.kept.1.0, tt),
    ) in
    let c = clauses 𝓛 𝓜.mem 𝓡.returns in
    let C = (tables 𝓤 H 𝓜 𝓡 𝓡.env).C in
    let Λ = (tables 𝓤 H 𝓜 𝓡 𝓡.env).Λ in
    proved_at 𝓛 ended stays c 𝓜 𝓡 (
      Goes-blank 𝓛 0 (plain (λ _. slot.the_row)) ended.kept.0 (λ κs x f. tt),
      (Goes-blank 𝓛 0 (plain (λ _. Z)) ended.kept.1.0 (λ κs x f. tt), tt),
    ) #self fn (compiled.unfolded 𝓤 H 𝓜 𝓡 wired) (λ z are.
    let Post : Val → SProp 𝓤 = (walk_of 𝓛 ended stays c).post z in
    let Run : List Val → SProp 𝓤 = λ ws. WpFn 𝓤 H C Λ fn ws Post in
    let self = z.0.3.0 in let a = z.0.3.1.0 in let x = kept_in self.store in
    let Asked : Type 0 = HoldsStore self.store in
    qed 𝓛 ((raw (alive 𝓛 ended.signature z.0.0 z.0.1) ⊛ ‵
    (owns (types_at ended.signature.params z.0.0) z.0.3 z.0.4)) ∷ raw (fact 𝓤 Asked) ∷ []) ∵ move !
    (1 ∷ []) $ heard ! Asked (λ asked. split ! $ move ! (1 ∷ []) $ fsplit3 ! $ fsplit ! $ drop !
    $ rewrite ! 0 (λ (s : Option Opened). ‵ (slot_owns self.at s)) asked refl
    $ in_a_block ! self.at (λ p. box_owns frees R p x)
    (fst∗ 𝓤 (never 𝓤) (sem 𝓛 (frees (bare (lone R.mir)) null_ptr))) (λ b o at. move ! (1 ∷ [])
    $ handle_tells (al R Z heap_laws.the_row_laws heap_impl.ghosts) ! a z.0.4.1.0 (λ h ea fits.
    -- [the handle; the store with the right to free it; true; the tokens]
    let args : z.0.4.0 ++ (z.0.4.1.0 ++ []) ≡ word (block_ptr b o) ∷ h ∷ [] =
    λ i. (told self.at z.0.4.0 are.0.0 ∙ ap (λ (p : Ptr). word p ∷ []) at) i ++ (ea i ++ []) in
    suffices ! (Run (word (block_ptr b o) ∷ h ∷ []))
    (subst (λ (us : List Val). ent 𝓤 (Run (word (block_ptr b o) ∷ h ∷ [])) (Run us)) (sym args)
    (id⊢ 𝓤 (Run (word (block_ptr b o) ∷ h ∷ [])))) $ enter ! C Λ fn (word (block_ptr b o) ∷ h ∷ [])
    Post $ alloc_all ! (λ l. pass_all ! refl ((tt, (tt, tt)), (fits, tt))
    $ sets ! (of_opd ! (get_in ! (fld ! refl (stop !)) (sub ! 0 refl (whole !)))) refl (tt, tt)
    $ sets ! (of_opd ! (get ! refl)) refl (tt, tt)
    $ sets ! (agg ! (and_then ! (get ! refl) (and_then ! (get ! refl) (no_more !)))) refl
    (parts_good R Z heap_laws.the_row_laws heap_impl.ghosts b o h fits) $ move ! (1 ∷ 0 ∷ [])
    $ parts_in R Z heap_laws.the_row_laws heap_impl.ghosts ! b o h a x
    $ use0 𝓛 (raw (fact 𝓤 (x ≡ x))) (fact_i 𝓤 (x ≡ x) (emp 𝓤) refl) $ nothing ! $ nothing !
    $ fjoin ! $ nothing ! $ fjoin ! $ returns ! (look_at ! 0 refl) $ free_all ! refl $
    let made : (parts.the_row R Z heap_impl.ghosts).Denot =
    record { ptr = block_ptr b o; alloc = a; value = x } in
    keep ! (4 ∷ 0 ∷ 2 ∷ 1 ∷ [])
    $ by ! (leaves 𝓛 ended stays c z (both (vptr b o) h) made (tt, (tt, tt)) (tt, (tt, tt))))))))
