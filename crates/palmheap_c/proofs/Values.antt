-- The machine values of a `Kept`, a `Slot` and `Parts`. Assumes `Logic`.
use Rattle.palmheap_c.proofs.Words.{◌≡◌, ℕ, List, [], ◌∷◌, ◌++◌, refl, ap, ◌∙◌, subst, T, Ura, impl, tnil, dnil, Val, vptr, vstruct, vcons, vnil, of_list, has_ty, WT, Logic, sem, Item, Goal, Seq, Step, step, ‵, ◌$◌, move, fsplit, fpick, feq_l, fjoin, fpack, feq_i, RattleType, Valss, Is, Ptr, block_ptr, null_ptr, ptr_val, in_a_block, never, fst∗, lone, nothing, layout, Struct, within, Al, handle_tells, box_owns, Option, Opened, slot_owns}
use mathlib.Core.Bool.{true, ◌&&◌}
use types.Kit.{drop}
use denote.Builtin.{RawPtr}
use mir.Raw.{raw as bare}
use denote.Param.Laws.{Laws}
use denote.Struct.Owning.{shape}
use Rattle.core.specs.declared.alloc.Allocator.{Ghosts}
use Rattle.core.proofs.cell.Inside.{Good}
use Rattle.std_alloc.proofs.ResultValues.{and_tt}
use Rattle.palmheap_c.specs.contracts.parts.Parts as parts
use Rattle.palmheap_c.specs.contracts.kept.Kept as kept
use Rattle.palmheap_c.specs.contracts.kept.Slot as slot

-- a struct of one pointer
abbrev pub word : Ptr → Val
word p = vstruct (vcons (ptr_val p) vnil)

abbrev pub both : Val → Val → Val
both v w = vstruct (vcons v (vcons w vnil))

abbrev pub Data : RattleType
Data = Struct (shape kept.the_type)

abbrev pub SlotData : RattleType
SlotData = Struct (shape slot.the_type)

pub told : (p : Ptr) (vs : List Val) → Is SlotData (p, tt) vs → vs ≡ word p ∷ []
told p vs is = is.1.0 ∙ ap (λ (ws : List Val). vstruct (of_list (ws ++ [])) ∷ []) is.1.1.0

module _ (R Z : RattleType) (L : Laws Z) (g : Ghosts Z.Denot) where
  abbrev pub al : Al
  al = record { row = Z; laws = L; g = g; d = impl [] tnil dnil; drops = impl [] tnil dnil }

  pub parts_good : (b o : ℕ) (h : Val) → Good (layout Z) h
      → T (has_ty (layout Z) h && true) × WT (both (vptr b o) h)
  parts_good b o h fits = (and_tt (has_ty (layout Z) h) fits.0, (tt, (fits.1, tt)))

  module _ {M : Type 1} {𝓤 : Ura M} {𝓛 : Logic 𝓤} {K : Type 0} {Γ : List (Item 𝓤)}
      {G : Goal 𝓤 𝓛.H} where
    pub parts_in : K → (b o : ℕ) (h : Val) (a : Z.Denot) (x : R.Denot)
        → Step K 𝓛 (‵ ((parts.the_row R Z g).own_val
        (record { ptr = block_ptr b o; alloc = a; value = x }) (both (vptr b o) h ∷ [])) ∷ Γ) G
        (‵ (box_owns (g.dealloc_token a) R (block_ptr b o) x) ∷ ‵ (Z.own_val a (h ∷ [])) ∷ Γ) G
    parts_in t b o h a x = step (λ s. let v : Val = both (vptr b o) h in
        nothing t $ move t (2 ∷ 0 ∷ []) $ fjoin t $ feq_i t (List Val) (vptr b o ∷ [])
        (vptr b o ∷ []) refl $ fjoin t $ feq_i t (List Val) (v ∷ []) (v ∷ []) refl $ fjoin t
        $ fpack t (Valss (RawPtr ∷ Z ∷ [])) (within (shape (parts.the_type R Z g))
        (block_ptr b o, (a, tt)) (v ∷ [])) (vptr b o ∷ [], (h ∷ [], tt)) $ fjoin t $ s)

    pub parts_out : K → (d : (parts.the_row R Z g).Denot) (vs : List Val)
        → ((b o : ℕ) (h : Val) → d.ptr ≡ block_ptr b o → vs ≡ both (vptr b o) h ∷ []
        → Good (layout Z) h → Seq K 𝓛 (‵ (box_owns (g.dealloc_token d.alloc) R
        (block_ptr b o) d.value) ∷ ‵ (Z.own_val d.alloc (h ∷ [])) ∷ Γ) G)
        → Seq K 𝓛 (‵ ((parts.the_row R Z g).own_val d vs) ∷ Γ) G
    parts_out t d vs k = fsplit t $ fpick t (λ vss. fsplit t $ feq_l t (λ ev. fsplit t $ feq_l t
        (λ ep. fsplit t $ handle_tells al t d.alloc vss.1.0 (λ h ea fits. move t (1 ∷ []) $ drop t
        $ move t (1 ∷ []) $ in_a_block t d.ptr (λ p. box_owns (g.dealloc_token d.alloc) R p d.value)
        (fst∗ 𝓤 (never 𝓤) (sem 𝓛 (g.dealloc_token d.alloc (bare (lone R.mir)) null_ptr)))
        (λ b o e. k b o h e (subst (λ (p : Ptr). vs ≡ vstruct (of_list (ptr_val p ∷ h ∷ [])) ∷ []) e
        (subst (λ (ws : List Val). vs ≡ vstruct (of_list (ptr_val d.ptr ∷ (ws ++ []))) ∷ []) ea
        (subst (λ (ps : List Val). vs ≡ vstruct (of_list (ps ++ (vss.1.0 ++ []))) ∷ []) ep ev)))
        fits)))))

module _ {M : Type 1} {𝓤 : Ura M} {𝓛 : Logic 𝓤} {K : Type 0} {Γ : List (Item 𝓤)}
    {G : Goal 𝓤 𝓛.H} where
  pub word_in : K → (p : Ptr) (store : Option Opened)
      → Step K 𝓛 (‵ (slot.the_row.own_val (record { at = p; store = store }) (word p ∷ [])) ∷ Γ) G
      (‵ (slot_owns p store) ∷ Γ) G
  word_in t p store = step (λ s. nothing t $ feq_i t (List Val) (ptr_val p ∷ [])
      (ptr_val p ∷ []) refl $ fjoin t $ feq_i t (List Val) (word p ∷ []) (word p ∷ []) refl
      $ fjoin t $ fpack t (Valss (RawPtr ∷ [])) (within (shape slot.the_type) (p, tt) (word p ∷ []))
      (ptr_val p ∷ [], tt) $ fjoin t $ s)
