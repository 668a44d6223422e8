-- `held` lends the store, and C's hold follows it. Assumes `Logic`.
use Rattle.palmheap_c.proofs.Laws.{◌≡◌, ℕ, List, [], ◌∷◌, refl, sym, ap, ◌∙◌, proved, full_share, ent, sep, never, fst∗, id⊢, Fml, GName, ftrue, fsep, flft, named, Val, vptr, Ura, tables, Logic, sem, ‵, raw, ◌⊛◌, some, later, at_ret, ◌$◌, ◌∵◌, !, qed, move, keep, use1, split, split3, join, fsplit, fsplit3, fjoin, fpack, rewrite, await, pick, suffices, frame, group, done, whole, sub, look_in, enter, of_opd, load, addr, stop, fld, first, blocks, exec, returns, alloc_all, pass_all, free_all, look_at, get, through, sets, sets_last, env, no, shows, mem, cell_at, part_of, lone, RattleType, Ptr, block_ptr, null_ptr, in_a_block, plain, mut_ref_to, nothing, opens, peeks, Stays, walk_of, says, stay_dropped, Goes-spent_ref, ends_at, box_owns, Opened, frees, Data}
use mir.Raw.{raw as bare}
use denote.Follow.{follows, Part, lends_Part}
use denote.Memory.{part_at}
use denote.Ref.{MutBor, MutRef, mut_vals, mut_Tells}
use Rattle.std_alloc.proofs.VecSteps.Shapes.{after}
use Rattle.palmheap_c.specs.contracts.kept.Held as stores
use Rattle.palmheap_c.specs.Keeping.{with_store}
use Rattle.palmheap_c.specs.declared.kept.Kept.{Kept}
use Rattle.palmheap_c.proofs.kept.Kept.TheLaws.{lowers}
use Rattle.palmheap_c.specs.contracts.kept.Kept as kept
use Rattle.palmheap_c.specs.contracts.kept.Kept.held as f
use Rattle.palmheap_c.proofs.kept.Kept.held.Statement.{statement}
use Rattle.palmheap_c.proofs.kept.Kept.held.Code as code

abbrev R : RattleType
R = stores.the_row

abbrev K : RattleType
K = kept.the_row

abbrev stayed : Stays f.ended.signature.params f.ended.kept
stayed = (stay_dropped (mut_ref_to (0 ∷ []) tt (plain (λ _. K))) no, tt)

module _ {M : Type 1} {𝓤 : Ura M} (𝓛 : Logic 𝓤) (d : Kept) (b o b' o' : ℕ) (us : List Val) where
  -- all but the store
  abbrev Rest : Fml
  Rest = fsep (fsep (frees (bare (lone R.mir)) (block_ptr b' o')) (Data.own_val (d.at, tt) us))
      (cell_at full_share K.mir us b o)

  back : d.at ≡ block_ptr b' o' → (w : Opened) → ent 𝓤 (sep 𝓤 (sem 𝓛 ((mem R).own_at w b' o'))
      (sem 𝓛 Rest)) (sem 𝓛 ((mem K).own_at (with_store d w) b o))
  unfolding part_of
  back e w = qed 𝓛 (‵ (part_at R full_share w b' o') ∷ ‵ Rest ∷ []) ∵ move ! (1 ∷ []) $ fsplit !
      $ fsplit ! $
      -- [the right to free; the pointer; its cell; the store]
      move ! (3 ∷ 0 ∷ []) $ fjoin ! $ rewrite ! 0 (λ (p : Ptr). ‵ (box_owns frees R p w)) (sym e)
      refl $ move ! (1 ∷ 0 ∷ []) $ fjoin ! $ move ! (1 ∷ 0 ∷ []) $ fjoin ! $ fpack ! (List Val)
      (λ vs. fsep (cell_at full_share K.mir vs b o) (K.own_val (with_store d w) vs)) us $ done !

pub held_spec : {M : Type 1} → statement M
held_spec 𝓤 𝓛 𝓜 𝓡 wired =
    let c = f.clauses 𝓛 𝓜.mem 𝓡.returns in let W = walk_of 𝓛 f.ended stayed c in
    let 𝓣 = tables 𝓤 𝓛.H 𝓜 𝓡 𝓡.env in
    proved 𝓛 f.ended stayed c 𝓜 𝓡 (Goes-spent_ref 𝓛 1 (0 ∷ []) tt (plain (λ _. K)), tt)
    f.Key.name code.function (code.unfolded 𝓤 𝓛.H 𝓜 𝓡 wired)
    (λ κs. (mut_vals, tt)) (λ κs. (mut_Tells (named 0) κs.0 K, tt)) (λ κs qs bounds a _ are.
    let κ = κs.0 in let q = qs.0 in let b = a.0.ref_ptr.0 in let o = a.0.ref_ptr.1 in
    let γ = a.0.ghost_name in let d = a.0.now in let vs = mut_vals a.0 in
    let y : W.Ghost = ((κs, qs, bounds, a, (vs, tt)), tt) in
    qed 𝓛 (((‵ (flft κ q) ⊛ ‵ ftrue) ⊛ ‵ ((MutRef (named 0) κ K).own_val a.0 vs) ⊛ ‵ ftrue)
    ∷ ‵ ftrue ∷ []) ∵ split ! $ split ! $ move ! (2 ∷ []) $ split ! $ keep ! (0 ∷ 2 ∷ [])
    $ enter ! _ _ _ _ _ $ alloc_all ! (λ l. pass_all ! refl ((tt, tt), tt) $ fsplit3 !
    $ move ! (1 ∷ 2 ∷ 3 ∷ []) $ opens ! tt K b o (λ us. move ! (1 ∷ []) $ peeks ! K _ (shows 𝓛 K) d
    us (λ is. fsplit ! $ move ! (1 ∷ []) $ in_a_block ! d.at (λ p. box_owns frees R p d.store)
    (fst∗ 𝓤 (never 𝓤) (sem 𝓛 (frees (bare (lone R.mir)) null_ptr))) (λ b' o' e.
    let word =
    lowers.val_is d us is ∙ ap (λ (p : Ptr). lowers.lowered (record d { at = p }) ∷ []) e in
    -- [the store with the right to free it; the pointer; its cell; the open borrow, in three entries]
    rewrite ! 2 (λ (ws : List Val). ‵ (cell_at full_share K.mir ws b o)) word refl $ fsplit !
    $ first ! $ blocks ! $ sets ! (of_opd ! (load ! (through ! refl (fld ! refl (stop !)))
    (look_in ! 3 (sub ! 0 refl (whole !))))) refl (tt, tt) $ sets ! (of_opd ! (get ! refl)) refl
    (tt, tt) $ sets_last ! (addr ! (through ! refl (stop !))) refl (tt, tt) $ exec ! 𝓣.C 𝓣.Λ
    (env code.function.locals l) (after 1 (code.function).body) (at_ret _ (W.post y))
    $ sets ! (of_opd ! (get ! refl)) refl (tt, tt)
    $ rewrite ! 3 (λ (ws : List Val). ‵ (cell_at full_share K.mir ws b o)) (sym word) refl
    $ move ! (1 ∷ 2 ∷ []) $ fjoin ! $ move ! (0 ∷ 2 ∷ []) $ fjoin ! $
    -- [all but the store; the store; the open borrow, in three entries]
    move ! (2 ∷ 3 ∷ 4 ∷ 1 ∷ 0 ∷ []) $ group ! 5
    $ use1 𝓛 (later (some (λ (δ : GName). raw (Part 𝓛 K R (with_store d) (named 0) κ q b o b' o' γ
    (sem 𝓛 (Rest 𝓛 d b o b' o' us)) (back 𝓛 d b o b' o' us e) d.store δ))))
    (lends_Part 𝓛 K R (with_store d) (named 0) κ q b o b' o' γ (sem 𝓛 (Rest 𝓛 d b o b' o' us))
    (back 𝓛 d b o b' o' us e) (K.coded.code d) (K.coded.code d) d.store) $ await ! tt
    $ pick ! (λ δ. returns ! (look_at ! 0 refl) $ free_all ! refl $ keep ! (0 ∷ []) $
    let r : MutBor Opened = record { ref_ptr = (b', o'); ghost_name = δ; now = d.store } in
    use1 𝓛 (‵ ((MutRef (named 0) κ R).own_val r (vptr b' o' ∷ [])) ⊛ ‵ (flft κ q) ⊛ ‵
    (follows K R γ δ (with_store d))) (id⊢ 𝓤 _) $ split3 !
    $ suffices ! _ (ends_at 𝓛 f.ended stayed c y (vptr b' o') r (tt, tt) (tt, tt)) $ nothing !
    $ nothing ! $ fjoin ! $ join ! $ nothing ! $ move ! (2 ∷ 0 ∷ []) $ join ! $ join ! $ frame !
    $ says ! refl $ done !))))))
