-- `part` reads the pointer through the `&`, and shows the bytes there. Assumes `Logic`.
use Rattle.std.proofs.Common.{◌≡◌, ℕ, ◌+◌, ◌≤◌, ◌*◌, ◌<◌, ◌^◌, List, [], ◌∷◌, length, slice_range, refl, sym, ap, arith}
use Rattle.std.proofs.raw_atomic.Walks.{proved}
use base.Fml.{ftrue, fhide, flft}
use mir.Syntax.{named, w64}
use mir.Val.{Val, vint}
use contract.Running.{tables}
use contract.Monad.{fact}
use types.Kit.{‵, raw, ◌⊛◌, at_ret, ◌$◌, ◌∵◌, !, qed, move, keep, use1, split, join, fsplit, fjoin, feq_i, flt_i, suffices, frame, done}
use types.Part.{agg}
use types.Run.{enter, of_opd, load, look, bin, stop, fld, no_more, and_then, first, blocks, exec, returns}
use types.ByLocal.{alloc_all, pass_all, free_all, look_at, get, through, sets, sets_last, env}
use denote.Builtin.{RefOf, usize, u8}
use denote.Exit.{yes}
use denote.Memory.{hidden_shr}
use denote.Opens.{unhide, hide}
use denote.Plain.{uint_vals, uint_Tells}
use denote.RattleType.{owns}
use denote.RawPtr.{block_of, count_of, InBlock}
use denote.Ref.{shr_vals, shr_Tells}
use denote.Signature.{plain, types_at}
use denote.Slice.{slice_val, elements_shared}
use denote.Steps.{heard, nothing}
use denote.Struct.Lending.{lent_out}
use denote.Triple.Walked.{Stays, walk_of, says, stay_dropped, Goes-dropped, ends_at}
use Rattle.std_alloc.proofs.Words.{pointer_in, pointer_out}
use Rattle.std_alloc.proofs.VecSteps.Shapes.{after}
use Rattle.heap_model.specs.Memory.{Misses}
use Rattle.raw_region.proofs.Apart.{part_seen}
use Rattle.raw_region.proofs.GapWrites.{length-part_of}
use Rattle.raw_region.proofs.GappedFields.{Words, words, shows_ptr}
use Rattle.raw_region.specs.contracts.gapped.Gapped as R
use Rattle.raw_region.specs.contracts.gapped.Gapped.part as f
use Rattle.raw_region.proofs.gapped.Gapped.part.Statement.{statement}
use Rattle.raw_region.proofs.gapped.Gapped.part.Code as code

abbrev stayed : Stays f.ended.signature.params f.ended.kept
stayed = (stay_dropped (RefOf (0 ∷ []) tt (plain (λ _. R.the_row)) (λ _. tt)) yes, (stay_dropped (plain (λ _. usize)) f.ended.kept.1.0, (stay_dropped (plain (λ _. usize)) f.ended.kept.1.1.0, tt)))

pub part_spec : {M : Type 1} → statement M
part_spec 𝓤 𝓛 𝓜 𝓡 wired =
    let c = f.clauses 𝓛 𝓜.mem 𝓡.returns in let W = walk_of 𝓛 f.ended stayed c in let 𝓣 = tables 𝓤 𝓛.H 𝓜 𝓡 𝓡.env in
    proved 𝓛 f.ended stayed c 𝓜 𝓡 (Goes-dropped 𝓛 1 (RefOf (0 ∷ []) tt (plain (λ _. R.the_row)) (λ _. tt)) yes (λ κs x w. refl), (Goes-dropped 𝓛 1 (plain (λ _. usize)) f.ended.kept.1.0 (λ κs x w. refl), (Goes-dropped 𝓛 1 (plain (λ _. usize)) f.ended.kept.1.1.0 (λ κs x w. refl), tt)))
    f.Key.name code.function (code.unfolded 𝓤 𝓛.H 𝓜 𝓡 wired)
    (λ κs. (shr_vals, (uint_vals w64, (uint_vals w64, tt)))) (λ κs. (shr_Tells (named 0) κs.0 R.the_row, (uint_Tells w64, (uint_Tells w64, tt)))) (λ κs qs bounds a _ are.
    let κ = κs.0 in let q = qs.0 in let b = a.0.ref_ptr.0 in let o = a.0.ref_ptr.1 in let d = a.0.now in let vs = shr_vals a.0 in
    let i = a.1.0 in let n = a.1.1.0 in let fi : i < 2 ^ 64 = are.1.0.1 in let fn : n < 2 ^ 64 = are.1.1.0.1 in
    let y : W.Ghost = ((κs, qs, bounds, a, (vs, (vint w64 i ∷ [], (vint w64 n ∷ [], tt)))), tt) in
    let at : ℕ × ℕ = (block_of d.ptr, i + count_of d.ptr) in
    let xs : List ℕ = slice_range d.bytes i (i + n) in
    let Asked : Type 0 = (i + n ≤ d.len) × Misses d.lents i n in
    qed 𝓛 (((‵ (flft κ q) ⊛ ‵ ftrue) ⊛ ‵ (owns (types_at f.ended.signature.params κs) a y.0.4)) ∷ raw (fact 𝓤 Asked) ∷ []) ∵
    move ! (1 ∷ []) $ heard ! Asked (λ asked. split ! $ split ! $ move ! (2 ∷ []) $ fsplit ! $ fsplit ! $ keep ! (1 ∷ 3 ∷ []) $
    use1 𝓛 (‵ (hidden_shr Words κ (words d) b o) ⊛ ‵ (fhide (R.the_lent d d.ptr κ))) (lent_out 𝓛 R.struct R.the_codes R.the_heap R.the_lent κ d b o) $ split ! $
    move ! (1 ∷ []) $ unhide ! $ use1 𝓛 (raw (fact 𝓤 (InBlock d.ptr)) ⊛ ‵ (elements_shared u8 xs (block_of d.ptr) (i + count_of d.ptr) κ)) (part_seen 𝓛 d d.ptr i n κ asked.0 asked.1) $ split ! $ heard ! (InBlock d.ptr) (λ inb. hide ! $ move ! (1 ∷ 2 ∷ []) $
    -- [the fields; the token; the bytes]
    enter ! _ _ _ _ _ $ alloc_all ! (λ l. pass_all ! refl ((tt, tt), ((tt, record { fits = fi }), ((tt, record { fits = fn }), tt))) $
    first ! $ blocks ! $
    pointer_in ! tt d.ptr inb b (o + 0) (shows_ptr 𝓛 κ b o d) (λ q0.
    sets ! (of_opd ! (load ! (through ! refl (fld ! refl (stop !))) (look ! 1 refl))) refl (tt, tt) $
    pointer_out ! tt d.ptr inb b (o + 0) $ move ! (1 ∷ 0 ∷ []) $
    sets ! (bin ! (get ! refl) (get ! refl) tt) refl (tt, tt) $
    sets_last ! (agg ! (and_then ! (get ! refl) (and_then ! (get ! refl) (no_more !)))) refl (tt, (tt, (record { fits = fn }, tt))) $
    exec ! 𝓣.C 𝓣.Λ (env code.function.locals l) (after 1 (code.function).body) (at_ret _ (W.post y)) $
    sets ! (of_opd ! (get ! refl)) refl (tt, (tt, (record { fits = fn }, tt))) $
    returns ! (look_at ! 0 refl) $ free_all ! refl $ keep ! (2 ∷ 1 ∷ []) $
    -- [the bytes; the token]
    let long : length xs ≡ n = length-part_of d i n asked.0 in
    let within = asked.0 in let ok = d.ok.1 in
    flt_i ! (length xs * 1) (2 ^ 63) (omega (arith, within, ok, long)) $ flt_i ! (length xs) (2 ^ 64) (omega (arith, within, ok, long)) $ fjoin ! $
    feq_i ! (List Val) (slice_val at n ∷ []) (slice_val at (length xs) ∷ []) (ap (λ k. slice_val at k ∷ []) (sym long)) $ fjoin ! $ fjoin ! $
    suffices ! _ (ends_at 𝓛 f.ended stayed c y (slice_val at n) (record { ref_ptr = at; now = xs }) (tt, (tt, (tt, tt))) (tt, (tt, (tt, tt)))) $ says ! refl $
    move ! (1 ∷ 0 ∷ []) $ nothing ! $ move ! (1 ∷ 0 ∷ []) $ join ! $ frame ! $ nothing ! $ nothing ! $ fjoin ! $ nothing ! $ fjoin ! $ nothing ! $ fjoin ! $ done !)))))
