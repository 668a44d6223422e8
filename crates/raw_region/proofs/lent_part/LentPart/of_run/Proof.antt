-- `of_run` keeps the pointer, the length and the bytes. Assumes `Logic`.
use Rattle.std.proofs.Common.{◌≡◌, ℕ, List, [], ◌∷◌, ◌++◌, refl, sym}
use Rattle.std.proofs.raw_atomic.Walks.{proved_at, leaves}
use Rattle.std.specs.Prelude.{Option, Some}
use mir.Syntax.{Fn}
use mir.Val.{Val}
use base.Logic.{SProp, emp, id⊢, never}
use base.Fml.{ftrue}
use prog.Wp.{WpFn}
use contract.Monad.{fact, fact_i}
use contract.Running.{tables}
use types.Kit.{‵, raw, ◌⊛◌, prop, ◌$◌, ◌∵◌, !, qed, by, move, drop, use0, split, regoal, fsplit, fjoin}
use types.Part.{whole, sub, agg}
use types.Run.{stop, fld, of_opd, no_more, and_then, returns, enter}
use types.ByLocal.{alloc_all, pass_all, free_all, look_at, get, get_in, sets}
use denote.RattleType.{owns}
use denote.RawPtr.{Ptr, block_ptr, in_a_block}
use denote.Signature.{types_at}
use denote.Steps.{nothing}
use denote.Triple.Entry.{alive}
use denote.Triple.Walked.{Stays, stay_dropped, walk_of}
use Rattle.core.proofs.alloc.Calls.{Goes-blank}
use Rattle.raw_region.proofs.Walks.{slot_at}
use Rattle.raw_region.proofs.Values.{sized_val, sized_own, sized_told, sized_made}
use Rattle.raw_region.specs.Ownership.{owns_bytes}
use Rattle.raw_region.specs.contracts.lent_part.LentPart as place
use Rattle.raw_region.specs.contracts.lent_part.LentPart.of_run.{ended, clauses}
use Rattle.raw_region.specs.contracts.lent_part.LentPart.of_run.Key.{name as #self}
use Rattle.raw_region.proofs.lent_part.LentPart.of_run.Statement.{statement}
use Rattle.raw_region.proofs.lent_part.LentPart.of_run.Code as compiled

pub of_run_spec : {M : Type 1} → statement M
of_run_spec 𝓤 𝓛 𝓜 𝓡 wired =
    let H = 𝓛.H in
    let fn : Fn = compiled.function in
    let stays : Stays ended.signature.params ended.kept = (stay_dropped (slot_at 0 ended.signature.params) ended.kept.0, tt) in
    let c = clauses 𝓛 𝓜.mem 𝓡.returns in
    let C = (tables 𝓤 H 𝓜 𝓡 𝓡.env).C in
    let Λ = (tables 𝓤 H 𝓜 𝓡 𝓡.env).Λ in
    proved_at 𝓛 ended stays c 𝓜 𝓡 (Goes-blank 𝓛 0 (slot_at 0 ended.signature.params) ended.kept.0 (λ κs x f. tt), tt) #self fn (compiled.unfolded 𝓤 H 𝓜 𝓡 wired) (λ z are.
    let Post : Val → SProp 𝓤 = (walk_of 𝓛 ended stays c).post z in
    let a = z.0.3 in
    let vss = z.0.4 in
    let x = a.0 in
    let n = x.len in
    let told = sized_told x.ptr n vss.0 are.0.0 in
    qed 𝓛 ((raw (alive 𝓛 ended.signature z.0.0 z.0.1) ⊛ ‵ (owns (types_at ended.signature.params z.0.0) a vss)) ∷ ‵ ftrue ∷ []) ∵ move ! (1 ∷ []) $ drop ! $ split ! $ move ! (1 ∷ []) $
    fsplit ! $ fsplit ! $ drop ! $ in_a_block ! x.ptr (λ p. owns_bytes p n x.bytes) (id⊢ 𝓤 (never 𝓤)) (λ b o at. move ! (1 ∷ []) $ drop ! $
    regoal ! (λ (us : List Val). prop (WpFn 𝓤 H C Λ fn us Post)) (λ i. told.0 i ++ []) refl $
    regoal ! (λ (p : Ptr). prop (WpFn 𝓤 H C Λ fn (sized_val p n ∷ []) Post)) at refl $
    enter ! C Λ fn (sized_val (block_ptr b o) n ∷ []) Post $
    alloc_all ! (λ l. pass_all ! refl ((tt, (tt, (record { fits = told.1 }, tt))), tt) $
    sets ! (of_opd ! (get_in ! (fld ! refl (stop !)) (sub ! 0 refl (whole !)))) refl (tt, tt) $
    sets ! (of_opd ! (get_in ! (fld ! refl (stop !)) (sub ! 1 refl (whole !)))) refl (tt, record { fits = told.1 }) $
    sets ! (agg ! (and_then ! (get ! refl) (and_then ! (get ! refl) (no_more !)))) refl (tt, (tt, (record { fits = told.1 }, tt))) $
    returns ! (look_at ! 0 refl) $ free_all ! refl $
    use0 𝓛 (‵ (sized_own (block_ptr b o) n (sized_val (block_ptr b o) n ∷ []))) (sized_made 𝓛 (block_ptr b o) n told.1) $ fjoin ! $
    let some : Option (List ℕ) = Some x.bytes in
    let made : (place.the_row).Denot = record { bytes = block_ptr b o; count = n; values = some; sized = λ _. x.ok } in
    let Says : Type 0 = (block_ptr b o ≡ x.ptr) × (n ≡ n) × (some ≡ some) in
    use0 𝓛 (raw (fact 𝓤 Says)) (fact_i 𝓤 Says (emp 𝓤) (sym at, refl, refl)) $
    nothing ! $ nothing ! $ fjoin ! $ move ! (3 ∷ 0 ∷ 2 ∷ 1 ∷ []) $ by ! (leaves 𝓛 ended stays c z (sized_val (block_ptr b o) n) made (tt, tt) (tt, tt)))))
