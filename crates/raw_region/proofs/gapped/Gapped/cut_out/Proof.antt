-- `cut_out` makes a run of a part, and a hole where it was. Assumes `Logic`.
use Rattle.std.proofs.Common.{◌≡◌, ℕ, ◌+◌, ◌≤◌, ◌<◌, ◌^◌, List, [], ◌∷◌, ◌++◌, length, replicate, slice_range, refl, sym, ap, ◌∙◌, arith}
use Rattle.std.proofs.lemmas.List.{length-replicate}
use Rattle.std.proofs.raw_atomic.Walks.{proved_at, leaves}
use mir.Syntax.{Fn, w64}
use mir.Val.{Val, vint, vptr}
use base.Logic.{SProp, emp, id⊢, never}
use base.Fraction.{full_share}
use prog.Wp.{WpFn}
use contract.Monad.{fact, fact_i}
use contract.Running.{tables}
use types.Kit.{‵, raw, ◌⊛◌, prop, at_ret, ◌$◌, ◌∵◌, !, qed, by, move, keep, drop, use0, use1, use2, rewrite, split, join, regoal, fsplit, fjoin}
use types.Part.{whole, sub, agg}
use types.Run.{stop, fld, bin, first, blocks, exec, of_opd, no_more, and_then, returns, enter}
use types.ByLocal.{alloc_all, pass_all, free_all, look_at, get, get_in, sets, sets_last, is, env}
use denote.RattleType.{owns}
use denote.Array.{Array}
use denote.Builtin.{u8}
use denote.Index.{row}
use denote.Memory.{part_at}
use denote.RawPtr.{Ptr, block_ptr, in_a_block, ◌+ₚ◌}
use denote.Signature.{types_at}
use denote.Struct.Tuple.{Tuple}
use Rattle.core.proofs.alloc.Shapes.{after}
use Rattle.core.proofs.ptr.Rows as Rows
use Rattle.std_alloc.proofs.Pairs.{pair_of, pair_val}
use denote.Steps.{nothing, heard}
use denote.Triple.Entry.{alive}
use denote.Triple.Walked.{Stays, stay_dropped, walk_of, Goes-dropped}
use Rattle.core.proofs.alloc.Calls.{Goes-blank}
use Rattle.heap_model.specs.Bytes.{overwritten}
use Rattle.raw_region.proofs.Walks.{slot_at}
use Rattle.raw_region.proofs.Values.{sized_val, sized_own, sized_told, sized_made}
use Rattle.raw_region.proofs.Bytes.{byte}
use Rattle.raw_region.proofs.Apart.{hole_made}
use Rattle.raw_region.proofs.GapWrites.{length-over, length-part_of}
use Rattle.raw_region.specs.Ownership.{bytes_but, owned_but}
use Rattle.heap_model.specs.Memory.{Misses}
use Rattle.raw_region.specs.Holes.{is_out, lent_at}
use Rattle.raw_region.specs.contracts.run.Run as run
use Rattle.raw_region.specs.contracts.gapped.Gapped as gapped
use Rattle.raw_region.specs.contracts.gapped.Gapped.cut_out.{ended, clauses}
use Rattle.raw_region.specs.contracts.gapped.Gapped.cut_out.Key.{name as #self}
use Rattle.raw_region.proofs.gapped.Gapped.cut_out.Statement.{statement}
use Rattle.raw_region.proofs.gapped.Gapped.cut_out.Code as compiled

pub cut_out_spec : {M : Type 1} → statement M
cut_out_spec 𝓤 𝓛 𝓜 𝓡 wired =
    let H = 𝓛.H in
    let fn : Fn = compiled.function in
    let stays : Stays ended.signature.params ended.kept = (stay_dropped (slot_at 0 ended.signature.params) ended.kept.0, (stay_dropped (slot_at 1 ended.signature.params) ended.kept.1.0, (stay_dropped (slot_at 2 ended.signature.params) ended.kept.1.1.0, tt))) in
    let c = clauses 𝓛 𝓜.mem 𝓡.returns in
    let C = (tables 𝓤 H 𝓜 𝓡 𝓡.env).C in
    let Λ = (tables 𝓤 H 𝓜 𝓡 𝓡.env).Λ in
    proved_at 𝓛 ended stays c 𝓜 𝓡 (Goes-blank 𝓛 0 (slot_at 0 ended.signature.params) ended.kept.0 (λ κs x f. tt), (Goes-dropped 𝓛 0 (slot_at 1 ended.signature.params) ended.kept.1.0 (λ κs x f. refl), (Goes-dropped 𝓛 0 (slot_at 2 ended.signature.params) ended.kept.1.1.0 (λ κs x f. refl), tt))) #self fn (compiled.unfolded 𝓤 H 𝓜 𝓡 wired) (λ z are.
    let Post : Val → SProp 𝓤 = (walk_of 𝓛 ended stays c).post z in
    let a = z.0.3 in
    let vss = z.0.4 in
    let x = a.0 in
    let k = a.1.0 in
    let n = a.1.1.0 in
    let told = sized_told x.ptr x.len vss.0 are.0.0 in
    let Asked : Type 0 = (k + n ≤ x.len) × Misses x.lents k n in
    qed 𝓛 ((raw (alive 𝓛 ended.signature z.0.0 z.0.1) ⊛ ‵ (owns (types_at ended.signature.params z.0.0) a vss)) ∷ raw (fact 𝓤 Asked) ∷ []) ∵ move ! (1 ∷ []) $ heard ! Asked (λ asked. split ! $ move ! (1 ∷ []) $
    fsplit ! $ fsplit ! $ drop ! $ in_a_block ! x.ptr (λ p. bytes_but (is_out x.lents) p x.bytes) (id⊢ 𝓤 (never 𝓤)) (λ b o at.
    keep ! (0 ∷ 2 ∷ []) $
    let inside = asked.0 in let ok = x.ok.0 in let most = x.ok.1 in
    let part : List ℕ = slice_range x.bytes k (k + n) in
    let zeros : List ℕ = replicate n 0 in
    let others : List ℕ = overwritten x.bytes k zeros in
    let more = lent_at x.ptr k n ∷ x.lents in
    let many : length part ≡ n = length-part_of x k n inside in
    let small : n < 2 ^ 63 = omega (arith, inside, most) in
    let there : k + o ≡ o + k = omega arith in
    let size : x.len ≡ length others = ok ∙ sym (length-over x.bytes zeros k (let zs : length zeros ≡ n = length-replicate n 0 in omega (arith, zs, inside, ok))) in
    use1 𝓛 (‵ (row u8 full_share part b (k + o)) ⊛ ‵ (owned_but (is_out more) b o 0 others)) (hole_made 𝓛 x k n b o inside x.ptr asked.1) $ split ! $
    use1 𝓛 (‵ (part_at (Array u8 n) full_share part b (k + o))) (Rows.whole byte 𝓛 full_share n part b (k + o) many) $
    rewrite ! 0 (λ (j : ℕ). ‵ (part_at (Array u8 n) full_share part b j)) there refl $ move ! (1 ∷ 0 ∷ []) $
    regoal ! (λ (us : List Val). prop (WpFn 𝓤 H C Λ fn us Post)) (λ i. told.0 i ++ (are.1.0.0 i ++ (are.1.1.0.0 i ++ []))) refl $
    regoal ! (λ (p : Ptr). prop (WpFn 𝓤 H C Λ fn (sized_val p x.len ∷ vint w64 k ∷ vint w64 n ∷ []) Post)) at refl $
    enter ! C Λ fn (sized_val (block_ptr b o) x.len ∷ vint w64 k ∷ vint w64 n ∷ []) Post $
    alloc_all ! (λ l. pass_all ! refl ((tt, (tt, (record { fits = told.1 }, tt))), ((tt, record { fits = are.1.0.1 }), ((tt, record { fits = are.1.1.0.1 }), tt))) $
    sets ! (of_opd ! (get_in ! (fld ! refl (stop !)) (sub ! 0 refl (whole !)))) refl (tt, tt) $
    sets ! (of_opd ! (get_in ! (fld ! refl (stop !)) (sub ! 1 refl (whole !)))) refl (tt, record { fits = told.1 }) $
    first ! $ blocks ! $
    sets_last ! (is ! (bin ! (get ! refl) (get ! refl) tt) (ap (λ (j : ℕ). vptr b j) there)) refl (tt, tt) $
    exec ! C Λ (env fn.locals l) (after 3 fn.body) (at_ret (env fn.locals l) Post) $
    sets ! (of_opd ! (get ! refl)) refl (tt, tt) $
    sets ! (agg ! (and_then ! (get ! refl) (and_then ! (get ! refl) (no_more !)))) refl (tt, (tt, (record { fits = told.1 }, tt))) $
    sets ! (agg ! (and_then ! (get ! refl) (and_then ! (get ! refl) (no_more !)))) refl (tt, (tt, (record { fits = are.1.1.0.1 }, tt))) $
    sets ! (agg ! (and_then ! (get ! refl) (and_then ! (get ! refl) (no_more !)))) refl (tt, ((tt, (record { fits = told.1 }, tt)), ((tt, (record { fits = are.1.1.0.1 }, tt)), tt))) $
    returns ! (look_at ! 0 refl) $ free_all ! refl $
    let x0 : (gapped.the_row).Denot = record { ptr = block_ptr b o; len = x.len; bytes = others; lents = more; ok = (size, most) } in
    let x1 : (run.the_row).Denot = record { ptr = block_ptr b (o + k); len = n; bytes = part; ok = (sym many, small) } in
    let v0 = sized_val (block_ptr b o) x.len in let v1 = sized_val (block_ptr b (o + k)) n in
    use0 𝓛 (‵ (sized_own (block_ptr b o) x.len (v0 ∷ []))) (sized_made 𝓛 (block_ptr b o) x.len told.1) $ fjoin ! $ move ! (1 ∷ []) $
    use0 𝓛 (‵ (sized_own (block_ptr b (o + k)) n (v1 ∷ []))) (sized_made 𝓛 (block_ptr b (o + k)) n are.1.1.0.1) $ fjoin ! $ move ! (1 ∷ 0 ∷ []) $
    use2 𝓛 (‵ ((Tuple (gapped.the_row ∷ run.the_row ∷ [])).own_val (x0, x1) (pair_val v0 v1 ∷ []))) (pair_of 𝓛 gapped.the_row run.the_row x0 x1 v0 v1) $
    let Others : Type 0 = (block_ptr b o ≡ x.ptr) × (x.len ≡ x.len) × (others ≡ others) × (more ≡ more) in
    let Part : Type 0 = (block_ptr b (o + k) ≡ x.ptr +ₚ k) × (n ≡ n) × (part ≡ part) in
    use0 𝓛 (raw (fact 𝓤 Part)) (fact_i 𝓤 Part (emp 𝓤) (ap (λ (p : Ptr). p +ₚ k) (sym at), refl, refl)) $
    use0 𝓛 (raw (fact 𝓤 Others)) (fact_i 𝓤 Others (emp 𝓤) (sym at, refl, refl, refl)) $ join ! $
    nothing ! $ nothing ! $ fjoin ! $ nothing ! $ fjoin ! $ nothing ! $ fjoin ! $ move ! (3 ∷ 0 ∷ 2 ∷ 1 ∷ []) $ by ! (leaves 𝓛 ended stays c z (pair_val v0 v1) (x0, x1) (tt, (tt, (tt, tt))) (tt, (tt, (tt, tt))))))))
