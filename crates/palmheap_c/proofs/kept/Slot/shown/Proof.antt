-- `shown` copies the pointer, and keeps the place as it is. Assumes `Logic`.
use Rattle.palmheap_c.proofs.Laws.{◌≡◌, ◌⊎◌, List, [], ◌∷◌, ◌++◌, refl, sym, lit<, inl, inr, proved_at, leaves, Option, Some, None, Fn, Val, vptr, vnull, vstruct, vcons, vnil, SProp, ent, emp, guard, guard_i, never, fst∗, snd∗, via, full_share, WpFn, fact, fact_i, fact_use, tables, Logic, sem, ‵, raw, ◌⊛◌, prop, ◌$◌, ◌∵◌, !, qed, by, move, use0, use1, learn, rewrite, split, regoal, fsplit, fjoin, feq_i, fpack, whole, sub, agg, stop, fld, of_opd, no_more, and_then, returns, enter, alloc_all, pass_all, free_all, look_at, get, get_in, sets, RattleType, owns, Valss, lone, Ptr, RawPtr, InBlock, Testable, block_ptr, null_ptr, in_a_block, lies_at, types_at, plain, nothing, heard, shape, within, tuple_type, alive, Stays, stay_dropped, walk_of, Ura, Goes-blank, box_owns, Opened, IsNullIfClosed, HoldsStore, frees, kept_in, slot_owns, word, told, word_in}
use mir.Raw.{raw as bare}
use types.Kit.{given, drop}
use Rattle.std.proofs.GlobalToken.{dealloc_token-Testable}
use Rattle.palmheap_c.specs.contracts.kept.Held as stores
use Rattle.palmheap_c.specs.contracts.kept.Slot as slot
use Rattle.palmheap_c.specs.contracts.kept.Slot.shown.{ended, clauses}
use Rattle.palmheap_c.specs.contracts.kept.Slot.shown.Key.{name as #self}
use Rattle.palmheap_c.proofs.kept.Slot.shown.Statement.{statement}
use Rattle.palmheap_c.proofs.kept.Slot.shown.Code as compiled

abbrev R : RattleType
R = stores.the_row

abbrev S : RattleType
S = slot.the_row

either : (store : Option Opened) → (store ≡ None) ⊎ HoldsStore store
either None = inl refl
either (Some store) = inr refl

not_closed : {store : Option Opened} → store ≡ None → HoldsStore store → ⊥
not_closed none is = cc

module _ {M : Type 1} {𝓤 : Ura M} (𝓛 : Logic 𝓤) where
  tested : (p : Ptr) (x : Opened)
      → ent 𝓤 (sem 𝓛 (box_owns frees R p x)) (guard 𝓤 (Testable p) (sem 𝓛 (box_owns frees R p x)))
  tested p x = fact_use 𝓤 (Testable p)
      (via 𝓤 _ (snd∗ 𝓤 (sem 𝓛 (lies_at R full_share p x)) (sem 𝓛 (frees (bare (lone R.mir)) p)))
      (dealloc_token-Testable 𝓛 (record { memory = record { seal = tt } }) (bare (lone R.mir)) p))
      (guard_i 𝓤 (Testable p) (sem 𝓛 (box_owns frees R p x)))

pub shown_spec : {M : Type 1} → statement M
shown_spec 𝓤 𝓛 𝓜 𝓡 wired =
    let H = 𝓛.H in
    let fn : Fn = compiled.function in
    let stays : Stays ended.signature.params ended.kept =
    (stay_dropped (plain (λ _. S)) ended.kept.0, tt) in
    let c = clauses 𝓛 𝓜.mem 𝓡.returns in
    let C = (tables 𝓤 H 𝓜 𝓡 𝓡.env).C in
    let Λ = (tables 𝓤 H 𝓜 𝓡 𝓡.env).Λ in
    proved_at 𝓛 ended stays c 𝓜 𝓡 (Goes-blank 𝓛 0 (plain (λ _. S)) ended.kept.0 (λ κs x f. tt), tt)
    #self fn (compiled.unfolded 𝓤 H 𝓜 𝓡 wired) (λ z are.
    let Post : Val → SProp 𝓤 = (walk_of 𝓛 ended stays c).post z in
    let self = z.0.3.0 in
    let x = kept_in self.store in
    let told = told self.at z.0.4.0 are.0.0 in
    let Asked : Type 0 = IsNullIfClosed self.store self.at in
    let Says : Ptr → Type 0 =
    λ p. (◌≡◌ {A = S.Denot} (record { at = p; store = self.store }) self) × Testable p
    × (HoldsStore self.store → InBlock p) × ((HoldsStore self.store → ⊥) → p ≡ null_ptr) in
    qed 𝓛 ((raw (alive 𝓛 ended.signature z.0.0 z.0.1) ⊛ ‵
    (owns (types_at ended.signature.params z.0.0) z.0.3 z.0.4)) ∷ raw (fact 𝓤 Asked) ∷ []) ∵ move !
    (1 ∷ []) $ heard ! Asked (λ asked. split ! $ move ! (1 ∷ []) $ fsplit ! $ fsplit ! $ drop !
    $ move ! (1 ∷ []) $ drop ! $ regoal ! (λ (us : List Val). prop (WpFn 𝓤 H C Λ fn us Post))
    (λ i. told i ++ []) refl $ elim (either self.store) [
      | inl none ↦
          let at : self.at ≡ null_ptr = asked none in
          let v : Val = vstruct (vcons (word null_ptr) (vcons vnull vnil)) in
          rewrite ! 0 (λ (p : Ptr). ‵ (slot_owns p self.store)) at refl
          $ regoal ! (λ (p : Ptr). prop (WpFn 𝓤 H C Λ fn (word p ∷ []) Post)) at refl
          $ enter ! C Λ fn (word null_ptr ∷ []) Post
          $ alloc_all ! (λ l. pass_all ! refl ((tt, (record { fits = lit< tt }, tt)), tt)
          $ sets ! (of_opd ! (get_in ! (fld ! refl (stop !)) (sub ! 0 refl (whole !)))) refl
          (tt, record { fits = lit< tt })
          $ sets ! (of_opd ! (get ! refl)) refl (tt, (record { fits = lit< tt }, tt))
          $ sets ! (agg ! (and_then ! (get ! refl) (and_then ! (get ! refl) (no_more !)))) refl
          (tt, ((record { fits = lit< tt }, tt), (record { fits = lit< tt }, tt)))
          $ returns ! (look_at ! 0 refl) $ free_all ! refl $ word_in ! null_ptr self.store
          $ nothing ! $ feq_i ! (List Val) (vnull ∷ []) (vnull ∷ []) refl $ fjoin !
          $ move ! (1 ∷ 0 ∷ []) $ fjoin ! $ feq_i ! (List Val) (v ∷ []) (v ∷ []) refl $ fjoin !
          $ fpack ! (Valss (S ∷ RawPtr ∷ [])) (within (shape (tuple_type (S ∷ RawPtr ∷ [])))
          (record { at = null_ptr; store = self.store }, (null_ptr, tt)) (v ∷ []))
          (word null_ptr ∷ [], (vnull ∷ [], tt))
          $ use0 𝓛 (raw (fact 𝓤 (Says null_ptr))) (fact_i 𝓤 (Says null_ptr) (emp 𝓤) (
            (λ i. record { at = sym at i; store = self.store }),
            lit< tt,
            (λ is. absurd (not_closed none is)),
            (λ closed. refl),
          )) $ nothing ! $ nothing ! $ fjoin ! $ move ! (3 ∷ 0 ∷ 2 ∷ 1 ∷ []) $ by ! (leaves 𝓛 ended
          stays c z v (record { at = null_ptr; store = self.store }, null_ptr) (tt, tt) (tt, tt)))
      | inr holds ↦ rewrite ! 0 (λ (s : Option Opened). ‵ (slot_owns self.at s)) holds refl
          $ in_a_block ! self.at (λ p. box_owns frees R p x) (fst∗ 𝓤 (never 𝓤) (sem 𝓛
          (frees (bare (lone R.mir)) null_ptr))) (λ b o at. use1 𝓛 (given (Testable (block_ptr b o))
          (‵ (box_owns frees R (block_ptr b o) x))) (tested 𝓛 (block_ptr b o) x) $ learn ! (λ low.
          let p = block_ptr b o in
          let v : Val = vstruct (vcons (word p) (vcons (vptr b o) vnil)) in
          rewrite ! 0 (λ (s : Option Opened). ‵ (slot_owns p s)) (sym holds) refl
          $ regoal ! (λ (p : Ptr). prop (WpFn 𝓤 H C Λ fn (word p ∷ []) Post)) at refl $ enter ! C Λ
          fn (word p ∷ []) Post $ alloc_all ! (λ l. pass_all ! refl ((tt, (tt, tt)), tt) $ sets !
          (of_opd ! (get_in ! (fld ! refl (stop !)) (sub ! 0 refl (whole !)))) refl (tt, tt)
          $ sets ! (of_opd ! (get ! refl)) refl (tt, (tt, tt))
          $ sets ! (agg ! (and_then ! (get ! refl) (and_then ! (get ! refl) (no_more !)))) refl
          (tt, ((tt, tt), (tt, tt))) $ returns ! (look_at ! 0 refl) $ free_all ! refl $ word_in ! p
          self.store $ nothing ! $ feq_i ! (List Val) (vptr b o ∷ []) (vptr b o ∷ []) refl $ fjoin !
          $ move ! (1 ∷ 0 ∷ []) $ fjoin ! $ feq_i ! (List Val) (v ∷ []) (v ∷ []) refl $ fjoin !
          $ fpack ! (Valss (S ∷ RawPtr ∷ [])) (within (shape (tuple_type (S ∷ RawPtr ∷ [])))
          (record { at = p; store = self.store }, (p, tt)) (v ∷ []))
          (word p ∷ [], (vptr b o ∷ [], tt))
          $ use0 𝓛 (raw (fact 𝓤 (Says p))) (fact_i 𝓤 (Says p) (emp 𝓤) (
            (λ i. record { at = sym at i; store = self.store }),
            low,
            (λ is. tt),
            (λ closed. absurd (closed holds)),
          )) $ nothing ! $ nothing ! $ fjoin ! $ move ! (3 ∷ 0 ∷ 2 ∷ 1 ∷ [])
          $ by ! (leaves 𝓛 ended stays c z v (record { at = p; store = self.store }, p) (tt, tt)
          (tt, tt)))))
    ]))
