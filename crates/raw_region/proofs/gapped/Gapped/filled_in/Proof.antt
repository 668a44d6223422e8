-- `filled_in` puts a run into a hole. Assumes `Logic`.
use Rattle.std.proofs.Common.{◌≡◌, ℕ, ◌+◌, ◌≤◌, List, [], ◌∷◌, ◌++◌, length, refl, sym, ap, ◌∙◌, arith}
use Rattle.std.specs.Prelude.{Some}
use Rattle.std.proofs.raw_atomic.Walks.{proved_at, leaves}
use mir.Syntax.{Fn, w64}
use mir.Val.{Val, vint}
use base.Logic.{SProp, emp, id⊢, never}
use base.Fraction.{full_share}
use prog.Wp.{WpFn}
use contract.Monad.{fact, fact_i}
use contract.Running.{tables}
use types.Kit.{‵, raw, ◌⊛◌, given, learn, prop, ◌$◌, ◌∵◌, !, qed, by, move, drop, use0, use1, use2, rewrite, split, regoal, fsplit, fsplit3, fjoin}
use types.Part.{whole, sub, agg}
use types.Run.{stop, fld, of_opd, no_more, and_then, returns, enter}
use types.ByLocal.{alloc_all, pass_all, free_all, look_at, get, get_in, sets}
use denote.RattleType.{owns}
use denote.Builtin.{u8}
use denote.Index.{row}
use denote.RawPtr.{Ptr, block_ptr, in_a_block, ◌+ₚ◌}
use denote.Signature.{types_at}
use denote.Steps.{nothing, heard}
use denote.Triple.Entry.{alive}
use denote.Triple.Walked.{Stays, stay_dropped, walk_of, Goes-dropped}
use Rattle.core.proofs.alloc.Calls.{Goes-blank}
use Rattle.core.proofs.ptr.Rows as Rows
use Rattle.heap_model.specs.Bytes.{overwritten}
use Rattle.raw_region.proofs.Walks.{slot_at}
use Rattle.raw_region.proofs.Values.{sized_val, sized_own, sized_told, sized_made}
use Rattle.raw_region.proofs.Bytes.{byte}
use Rattle.raw_region.proofs.Apart.{hole_filled}
use Rattle.raw_region.proofs.GapWrites.{length-over}
use Rattle.raw_region.specs.Ownership.{owns_bytes, bytes_but, owned_but}
use Rattle.heap_model.specs.Memory.{Misses, without}
use Rattle.raw_region.specs.Holes.{is_out, count_at}
use Rattle.raw_region.specs.contracts.gapped.Gapped as gapped
use Rattle.raw_region.specs.contracts.gapped.Gapped.filled_in.{ended, clauses}
use Rattle.raw_region.specs.contracts.gapped.Gapped.filled_in.Key.{name as #self}
use Rattle.raw_region.proofs.gapped.Gapped.filled_in.Statement.{statement}
use Rattle.raw_region.proofs.gapped.Gapped.filled_in.Code as compiled

pub filled_in_spec : {M : Type 1} → statement M
filled_in_spec 𝓤 𝓛 𝓜 𝓡 wired =
    let H = 𝓛.H in
    let fn : Fn = compiled.function in
    let stays : Stays ended.signature.params ended.kept = (stay_dropped (slot_at 0 ended.signature.params) ended.kept.0, (stay_dropped (slot_at 1 ended.signature.params) ended.kept.1.0, (stay_dropped (slot_at 2 ended.signature.params) ended.kept.1.1.0, tt))) in
    let c = clauses 𝓛 𝓜.mem 𝓡.returns in
    let C = (tables 𝓤 H 𝓜 𝓡 𝓡.env).C in
    let Λ = (tables 𝓤 H 𝓜 𝓡 𝓡.env).Λ in
    proved_at 𝓛 ended stays c 𝓜 𝓡 (Goes-blank 𝓛 0 (slot_at 0 ended.signature.params) ended.kept.0 (λ κs x f. tt), (Goes-dropped 𝓛 0 (slot_at 1 ended.signature.params) ended.kept.1.0 (λ κs x f. refl), (Goes-blank 𝓛 0 (slot_at 2 ended.signature.params) ended.kept.1.1.0 (λ κs x f. tt), tt))) #self fn (compiled.unfolded 𝓤 H 𝓜 𝓡 wired) (λ z are.
    let Post : Val → SProp 𝓤 = (walk_of 𝓛 ended stays c).post z in
    let a = z.0.3 in
    let vss = z.0.4 in
    let x = a.0 in
    let k = a.1.0 in
    let part = a.1.1.0 in
    let m = part.len in
    let told = sized_told x.ptr x.len vss.0 are.0.0 in
    let more = sized_told part.ptr m vss.1.1.0 are.1.1.0.0 in
    let Place : Type 0 = (part.ptr ≡ x.ptr +ₚ k) × (k + m ≤ x.len) in
    let Hole : Type 0 = (count_at k x.lents ≡ Some m) × Misses (without k x.lents) k m in
    qed 𝓛 ((raw (alive 𝓛 ended.signature z.0.0 z.0.1) ⊛ ‵ (owns (types_at ended.signature.params z.0.0) a vss)) ∷ (raw (fact 𝓤 Place) ⊛ raw (fact 𝓤 Hole)) ∷ []) ∵ move ! (1 ∷ []) $ split ! $ heard ! Place (λ place. heard ! Hole (λ hole. split ! $ move ! (1 ∷ []) $
    fsplit3 ! $ fsplit ! $ drop ! $ in_a_block ! x.ptr (λ p. bytes_but (is_out x.lents) p x.bytes) (id⊢ 𝓤 (never 𝓤)) (λ b o at. move ! (1 ∷ []) $ drop ! $ move ! (1 ∷ []) $ fsplit ! $ fsplit ! $ drop ! $
    let next : part.ptr ≡ block_ptr b (o + k) = place.0 ∙ ap (λ (p : Ptr). p +ₚ k) at in
    let inside = place.1 in let ok = x.ok.0 in let most = x.ok.1 in
    let many : length part.bytes ≡ m = sym part.ok.0 in
    let there : o + k ≡ k + o = omega arith in
    let all : List ℕ = overwritten x.bytes k part.bytes in
    let fewer = without k x.lents in
    let size : x.len ≡ length all = ok ∙ sym (length-over x.bytes part.bytes k (omega (arith, many, inside, ok))) in
    rewrite ! 0 (λ (p : Ptr). ‵ (owns_bytes p m part.bytes)) next refl $
    use1 𝓛 (given (length part.bytes ≡ m) (‵ (row u8 full_share part.bytes b (o + k)))) (Rows.apart byte 𝓛 full_share m part.bytes b (o + k)) $ learn ! (λ same.
    rewrite ! 0 (λ (j : ℕ). ‵ (row u8 full_share part.bytes b j)) there refl $
    move ! (1 ∷ []) $ drop ! $
    use2 𝓛 (‵ (owned_but (is_out fewer) b o 0 all)) (hole_filled 𝓛 x k m b o inside part.bytes many hole.0 hole.1) $
    regoal ! (λ (us : List Val). prop (WpFn 𝓤 H C Λ fn us Post)) (λ i. told.0 i ++ (are.1.0.0 i ++ (more.0 i ++ []))) refl $
    regoal ! (λ (p : Ptr × Ptr). prop (WpFn 𝓤 H C Λ fn (sized_val p.0 x.len ∷ vint w64 k ∷ sized_val p.1 m ∷ []) Post)) (λ i. (at i, next i)) refl $
    enter ! C Λ fn (sized_val (block_ptr b o) x.len ∷ vint w64 k ∷ sized_val (block_ptr b (o + k)) m ∷ []) Post $
    alloc_all ! (λ l. pass_all ! refl ((tt, (tt, (record { fits = told.1 }, tt))), ((tt, record { fits = are.1.0.1 }), ((tt, (tt, (record { fits = more.1 }, tt))), tt))) $
    sets ! (of_opd ! (get_in ! (fld ! refl (stop !)) (sub ! 0 refl (whole !)))) refl (tt, tt) $
    sets ! (of_opd ! (get_in ! (fld ! refl (stop !)) (sub ! 1 refl (whole !)))) refl (tt, record { fits = told.1 }) $
    sets ! (agg ! (and_then ! (get ! refl) (and_then ! (get ! refl) (no_more !)))) refl (tt, (tt, (record { fits = told.1 }, tt))) $
    returns ! (look_at ! 0 refl) $ free_all ! refl $
    use0 𝓛 (‵ (sized_own (block_ptr b o) x.len (sized_val (block_ptr b o) x.len ∷ []))) (sized_made 𝓛 (block_ptr b o) x.len told.1) $ fjoin ! $
    let made : (gapped.the_row).Denot = record { ptr = block_ptr b o; len = x.len; bytes = all; lents = fewer; ok = (size, most) } in
    let Says : Type 0 = (block_ptr b o ≡ x.ptr) × (x.len ≡ x.len) × (all ≡ all) × (fewer ≡ fewer) in
    use0 𝓛 (raw (fact 𝓤 Says)) (fact_i 𝓤 Says (emp 𝓤) (sym at, refl, refl, refl)) $
    nothing ! $ nothing ! $ fjoin ! $ nothing ! $ fjoin ! $ nothing ! $ fjoin ! $ move ! (3 ∷ 0 ∷ 2 ∷ 1 ∷ []) $ by ! (leaves 𝓛 ended stays c z (sized_val (block_ptr b o) x.len) made (tt, (tt, (tt, tt))) (tt, (tt, (tt, tt))))))))))
