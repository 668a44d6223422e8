-- `part_mut` lends the bytes of a part, and the others follow them. Assumes `Logic`.
use Rattle.std.proofs.Common.{◌≡◌, ℕ, ◌+◌, ◌≤◌, ◌*◌, ◌<◌, ◌^◌, List, [], ◌∷◌, length, slice_range, refl, sym, ap, ◌∙◌, arith}
use Rattle.std.proofs.raw_atomic.Walks.{proved}
use seplogic.Ra.Ura.{Ura}
use base.Fraction.{full_share}
use base.Logic.{ent, sep, never, id⊢}
use base.Fml.{Fml, GName, ftrue, fsep, flft}
use mir.Syntax.{named, w64}
use mir.Val.{Val, vint}
use contract.Running.{tables}
use contract.Monad.{fact}
use types.Logic.{Logic, sem}
use types.Kit.{‵, raw, ◌⊛◌, some, later, at_ret, ◌$◌, ◌∵◌, !, qed, move, keep, use1, use2, split, split3, join, fsplit, fsplit3, fjoin, fjoin3, fpack, rewrite, await, pick, suffices, frame, group, done}
use types.Part.{agg, whole, sub, look_in}
use types.Run.{enter, of_opd, load, bin, stop, fld, no_more, and_then, first, blocks, exec, returns}
use types.ByLocal.{alloc_all, pass_all, free_all, look_at, get, through, sets, sets_last, env}
use types.SemTy.{cells}
use denote.Array.{Array}
use denote.Builtin.{u8, usize}
use denote.Exit.{no}
use denote.FollowSlice.{Elements, lends_Elements}
use denote.Laws.{shows}
use denote.Memory.{mem, cell_at, part_of}
use denote.Plain.{uint_vals, uint_Tells}
use denote.RattleType.{owns}
use denote.RawPtr.{Ptr, block_ptr, in_a_block}
use denote.Ref.{MutBor, mut_vals, mut_Tells}
use denote.Signature.{plain, types_at, mut_ref_to}
use denote.Follow.{follows}
use denote.Slice.{MutSlice, slice_val}
use denote.Steps.{heard, nothing, opens, peeks}
use denote.Triple.Walked.{Stays, walk_of, says, stay_dropped, Goes-dropped, Goes-spent_ref, ends_at}
use Rattle.std_alloc.proofs.VecSteps.Shapes.{after}
use Rattle.heap_model.specs.Memory.{Misses}
use Rattle.raw_region.specs.Holes.{is_out}
use Rattle.raw_region.specs.Lends.{with_part}
use Rattle.raw_region.specs.Ownership.{bytes_but}
use Rattle.raw_region.specs.declared.gapped.Gapped.{Gapped}
use Rattle.raw_region.proofs.Apart.{Other, Owned, part_out, part_in}
use Rattle.raw_region.proofs.GapWrites.{length-part_of}
use Rattle.raw_region.proofs.GappedFields.{Words, words}
use Rattle.raw_region.proofs.gapped.Gapped.TheLaws.{lowers}
use Rattle.raw_region.specs.contracts.gapped.Gapped as R
use Rattle.raw_region.specs.contracts.gapped.Gapped.part_mut as f
use Rattle.raw_region.proofs.gapped.Gapped.part_mut.Statement.{statement}
use Rattle.raw_region.proofs.gapped.Gapped.part_mut.Code as code

abbrev stayed : Stays f.ended.signature.params f.ended.kept
stayed = (stay_dropped (mut_ref_to (0 ∷ []) tt (plain (λ _. R.the_row))) no, (stay_dropped (plain (λ _. usize)) f.ended.kept.1.0, (stay_dropped (plain (λ _. usize)) f.ended.kept.1.1.0, tt)))

module _ {M : Type 1} {𝓤 : Ura M} (𝓛 : Logic 𝓤) (d : Gapped) (i n b o b' o' : ℕ) (us : List Val) (inside : i + n ≤ d.len) (misses : Misses d.lents i n) where
  -- all but the part
  abbrev Rest : Fml
  Rest = fsep (Other 𝓛 d i n b' o' inside) (fsep (Words.own_val (words d) us) (cell_at full_share R.the_row.mir us b o))

  back : d.ptr ≡ block_ptr b' o' → (ws : List ℕ) → length ws ≡ length (slice_range d.bytes i (i + n))
      → ent 𝓤 (sep 𝓤 (sem 𝓛 (cells (mem u8) ws b' (i + o'))) (sem 𝓛 Rest)) (sem 𝓛 ((mem R.the_row).own_at (with_part d i ws) b o))
  unfolding part_of
  back e ws same =
      let new : Gapped = with_part d i ws in
      qed 𝓛 (‵ (cells (mem u8) ws b' (i + o')) ∷ ‵ Rest ∷ []) ∵ move ! (1 ∷ []) $ fsplit3 ! $ move ! (3 ∷ 0 ∷ []) $
      use2 𝓛 (‵ (Owned 𝓛 d i n b' o' inside new)) (part_in 𝓛 d i n b' o' inside misses ws (same ∙ length-part_of d i n inside)) $
      rewrite ! 0 (λ (p : Ptr). ‵ (bytes_but (is_out d.lents) p new.bytes)) (sym e) refl $
      move ! (1 ∷ 0 ∷ []) $ fjoin ! $ move ! (1 ∷ 0 ∷ []) $ fjoin ! $
      fpack ! (List Val) (λ vs. fsep (cell_at full_share R.the_row.mir vs b o) (R.the_row.own_val new vs)) us $ done !

pub part_mut_spec : {M : Type 1} → statement M
part_mut_spec 𝓤 𝓛 𝓜 𝓡 wired =
    let c = f.clauses 𝓛 𝓜.mem 𝓡.returns in let W = walk_of 𝓛 f.ended stayed c in let 𝓣 = tables 𝓤 𝓛.H 𝓜 𝓡 𝓡.env in
    proved 𝓛 f.ended stayed c 𝓜 𝓡 (Goes-spent_ref 𝓛 1 (0 ∷ []) tt (plain (λ _. R.the_row)), (Goes-dropped 𝓛 1 (plain (λ _. usize)) f.ended.kept.1.0 (λ κs x w. refl), (Goes-dropped 𝓛 1 (plain (λ _. usize)) f.ended.kept.1.1.0 (λ κs x w. refl), tt)))
    f.Key.name code.function (code.unfolded 𝓤 𝓛.H 𝓜 𝓡 wired)
    (λ κs. (mut_vals, (uint_vals w64, (uint_vals w64, tt)))) (λ κs. (mut_Tells (named 0) κs.0 R.the_row, (uint_Tells w64, (uint_Tells w64, tt)))) (λ κs qs bounds a _ are.
    let κ = κs.0 in let q = qs.0 in let b = a.0.ref_ptr.0 in let o = a.0.ref_ptr.1 in let γ = a.0.ghost_name in let d = a.0.now in let vs = mut_vals a.0 in
    let i = a.1.0 in let n = a.1.1.0 in let fi : i < 2 ^ 64 = are.1.0.1 in let fn : n < 2 ^ 64 = are.1.1.0.1 in
    let y : W.Ghost = ((κs, qs, bounds, a, (vs, (vint w64 i ∷ [], (vint w64 n ∷ [], tt)))), tt) in
    let xs : List ℕ = slice_range d.bytes i (i + n) in
    let Asked : Type 0 = (i + n ≤ d.len) × Misses d.lents i n in
    qed 𝓛 (((‵ (flft κ q) ⊛ ‵ ftrue) ⊛ ‵ (owns (types_at f.ended.signature.params κs) a y.0.4)) ∷ raw (fact 𝓤 Asked) ∷ []) ∵
    move ! (1 ∷ []) $ heard ! Asked (λ asked. split ! $ split ! $ move ! (2 ∷ []) $ fsplit ! $ keep ! (0 ∷ 2 ∷ []) $
    enter ! _ _ _ _ _ $ alloc_all ! (λ l. pass_all ! refl ((tt, tt), ((tt, record { fits = fi }), ((tt, record { fits = fn }), tt))) $
    fsplit3 ! $ move ! (1 ∷ 2 ∷ 3 ∷ []) $ opens ! tt R.the_row b o (λ us.
    move ! (1 ∷ []) $ peeks ! R.the_row _ (shows 𝓛 R.the_row) d us (λ is. fsplit ! $ move ! (1 ∷ []) $
    in_a_block ! d.ptr (λ p. bytes_but (is_out d.lents) p d.bytes) (id⊢ 𝓤 (never 𝓤)) (λ b' o' e.
    let word = lowers.val_is d us is ∙ ap (λ (p : Ptr). lowers.lowered (record d { ptr = p }) ∷ []) e in
    -- [the bytes; what the fields own; the struct's cell; the open borrow, in three entries]
    rewrite ! 2 (λ (ws : List Val). ‵ (cell_at full_share R.the_row.mir ws b o)) word refl $
    let long : length xs ≡ n = length-part_of d i n asked.0 in
    let within = asked.0 in let ok = d.ok.1 in
    let roomy : length xs < 2 ^ 64 = omega (arith, within, ok, long) in
    let fitting : length xs * 1 < 2 ^ 63 = omega (arith, within, ok, long) in
    first ! $ blocks ! $
    sets ! (of_opd ! (load ! (through ! refl (fld ! refl (stop !))) (look_in ! 2 (sub ! 0 refl (whole !))))) refl (tt, tt) $
    sets ! (bin ! (get ! refl) (get ! refl) tt) refl (tt, tt) $
    sets_last ! (agg ! (and_then ! (get ! refl) (and_then ! (get ! refl) (no_more !)))) refl (tt, (tt, (record { fits = fn }, tt))) $
    exec ! 𝓣.C 𝓣.Λ (env code.function.locals l) (after 1 (code.function).body) (at_ret _ (W.post y)) $
    sets ! (of_opd ! (get ! refl)) refl (tt, (tt, (record { fits = fn }, tt))) $
    rewrite ! 2 (λ (ws : List Val). ‵ (cell_at full_share R.the_row.mir ws b o)) (sym word) refl $
    use1 𝓛 (‵ (cells (mem u8) xs b' (i + o')) ⊛ ‵ (Other 𝓛 d i n b' o' asked.0)) (part_out 𝓛 d i n b' o' asked.0 asked.1) $ split ! $ move ! (1 ∷ 2 ∷ 3 ∷ []) $ fjoin3 ! $
    -- [all but the part; the part; the open borrow, in three entries]
    move ! (2 ∷ 3 ∷ 4 ∷ 1 ∷ 0 ∷ []) $ group ! 5 $
    use1 𝓛 (later (some (λ (δ : GName). raw (Elements 𝓛 R.the_row u8 (with_part d i) (named 0) κ q b o b' (i + o') γ xs (roomy, fitting) (sem 𝓛 (Rest 𝓛 d i n b o b' o' us asked.0 asked.1)) (back 𝓛 d i n b o b' o' us asked.0 asked.1 e) δ))))
    (lends_Elements 𝓛 R.the_row u8 (with_part d i) (named 0) κ q b o b' (i + o') γ xs (roomy, fitting) (sem 𝓛 (Rest 𝓛 d i n b o b' o' us asked.0 asked.1)) (back 𝓛 d i n b o b' o' us asked.0 asked.1 e) (R.the_row.coded.code d) (R.the_row.coded.code d)) $ await ! tt $ pick ! (λ δ.
    returns ! (look_at ! 0 refl) $ free_all ! refl $ keep ! (0 ∷ []) $
    let r : MutBor (List ℕ) = record { ref_ptr = (b', i + o'); ghost_name = δ; now = xs } in
    let Slice = λ (k : ℕ). ‵ ((MutSlice (named 0) κ u8).own_val r (slice_val (b', i + o') k ∷ [])) in
    use1 𝓛 (Slice (length xs) ⊛ ‵ (flft κ q) ⊛ ‵ (follows R.the_row (Array u8 0) γ δ (with_part d i))) (id⊢ 𝓤 _) $ split3 ! $
    rewrite ! 0 Slice long refl $
    suffices ! _ (ends_at 𝓛 f.ended stayed c y (slice_val (b', i + o') n) r (tt, (tt, (tt, tt))) (tt, (tt, (tt, tt)))) $
    nothing ! $ nothing ! $ fjoin ! $ nothing ! $ fjoin ! $ nothing ! $ fjoin ! $ join ! $ nothing ! $ move ! (2 ∷ 0 ∷ []) $ join ! $ join ! $ frame ! $ says ! refl $ done !)))))))
