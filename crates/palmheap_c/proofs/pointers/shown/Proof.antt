-- `shown` copies the pointer, and keeps the place as it is. Assumes `Logic`.
use Rattle.palmheap_c.proofs.Words.{◌≡◌, ◌<◌, ◌^◌, ℕ, List, [], ◌∷◌, ◌++◌, length, refl, sym, proved_at, leaves, Option, Some, Fn, Val, vptr, vstruct, vcons, vnil, SProp, emp, id⊢, never, WpFn, fact, fact_i, tables, ‵, raw, ◌⊛◌, prop, ◌$◌, ◌∵◌, !, qed, by, move, use0, rewrite, split, regoal, fsplit, fjoin, feq_i, fpack, whole, sub, agg, stop, fld, of_opd, no_more, and_then, returns, enter, alloc_all, pass_all, free_all, look_at, get, get_in, sets, RattleType, owns, Valss, Ptr, RawPtr, block_ptr, in_a_block, types_at, plain, nothing, heard, within, shape, tuple_type, alive, Stays, stay_dropped, walk_of, Goes-blank}
use types.Kit.{drop}
use Rattle.palmheap_c.proofs.Sized.{sized_val, sized_own, sized_told, sized_made}
use Rattle.raw_region.specs.LentParts.{IsFull, bytes_in, owns_part}
use Rattle.raw_region.specs.Ownership.{owns_bytes}
use Rattle.raw_region.specs.contracts.lent_part.LentPart as place
use Rattle.palmheap_c.specs.contracts.pointers.shown.{ended, clauses}
use Rattle.palmheap_c.specs.contracts.pointers.shown.Key.{name as #self}
use Rattle.palmheap_c.proofs.pointers.shown.Statement.{statement}
use Rattle.palmheap_c.proofs.pointers.shown.Code as compiled

abbrev Place : RattleType
Place = place.the_row

pub shown_spec : {M : Type 1} → statement M
shown_spec 𝓤 𝓛 𝓜 𝓡 wired =
    let H = 𝓛.H in
    let fn : Fn = compiled.function in
    let stays : Stays ended.signature.params ended.kept =
    (stay_dropped (plain (λ _. place.the_row)) ended.kept.0, tt) in
    let c = clauses 𝓛 𝓜.mem 𝓡.returns in
    let C = (tables 𝓤 H 𝓜 𝓡 𝓡.env).C in
    let Λ = (tables 𝓤 H 𝓜 𝓡 𝓡.env).Λ in
    proved_at 𝓛 ended stays c 𝓜 𝓡
    (Goes-blank 𝓛 0 (plain (λ _. place.the_row)) ended.kept.0 (λ κs x f. tt), tt) #self fn
    (compiled.unfolded 𝓤 H 𝓜 𝓡 wired) (λ z are.
    let Post : Val → SProp 𝓤 = (walk_of 𝓛 ended stays c).post z in
    let a = z.0.3 in
    let vss = z.0.4 in
    let x = a.0 in
    let n = x.count in
    let bs = bytes_in x.values in
    let told = sized_told x.bytes n vss.0 are.0.0 in
    let Asked : Type 0 = IsFull x.values in
    qed 𝓛 ((raw (alive 𝓛 ended.signature z.0.0 z.0.1) ⊛ ‵
    (owns (types_at ended.signature.params z.0.0) a vss)) ∷ raw (fact 𝓤 Asked) ∷ []) ∵ move !
    (1 ∷ []) $ heard ! Asked (λ asked. split ! $ move ! (1 ∷ []) $
    let ok : (n ≡ length bs) × (n < 2 ^ 63) = x.sized asked in
    fsplit ! $ fsplit ! $ drop !
    $ rewrite ! 0 (λ (s : Option (List ℕ)). ‵ (owns_part x.bytes n s)) asked refl $ in_a_block !
    x.bytes (λ p. owns_bytes p n bs) (id⊢ 𝓤 (never 𝓤)) (λ b o at. move ! (1 ∷ []) $ drop !
    $ regoal ! (λ (us : List Val). prop (WpFn 𝓤 H C Λ fn us Post)) (λ i. told.0 i ++ []) refl
    $ regoal ! (λ (p : Ptr). prop (WpFn 𝓤 H C Λ fn (sized_val p n ∷ []) Post)) at refl
    $ enter ! C Λ fn (sized_val (block_ptr b o) n ∷ []) Post
    $ alloc_all ! (λ l. pass_all ! refl ((tt, (tt, (record { fits = told.1 }, tt))), tt)
    $ sets ! (of_opd ! (get_in ! (fld ! refl (stop !)) (sub ! 0 refl (whole !)))) refl (tt, tt)
    $ sets ! (of_opd ! (get ! refl)) refl (tt, (tt, (record { fits = told.1 }, tt)))
    $ sets ! (agg ! (and_then ! (get ! refl) (and_then ! (get ! refl) (no_more !)))) refl
    (tt, ((tt, (record { fits = told.1 }, tt)), (tt, tt))) $ returns ! (look_at ! 0 refl)
    $ free_all ! refl $ use0 𝓛 (‵ (sized_own (block_ptr b o) n (sized_val (block_ptr b o) n ∷ [])))
    (sized_made 𝓛 (block_ptr b o) n told.1) $ fjoin ! $
    let some : Option (List ℕ) = Some bs in
    let made : Place.Denot =
    record { bytes = block_ptr b o; count = n; values = some; sized = λ _. ok } in
    let v : Val = vstruct (vcons (sized_val (block_ptr b o) n) (vcons (vptr b o) vnil)) in
    nothing ! $ feq_i ! (List Val) (vptr b o ∷ []) (vptr b o ∷ []) refl $ fjoin !
    $ move ! (1 ∷ 0 ∷ []) $ fjoin ! $ feq_i ! (List Val) (v ∷ []) (v ∷ []) refl $ fjoin !
    $ fpack ! (Valss (Place ∷ RawPtr ∷ [])) (within (shape (tuple_type (Place ∷ RawPtr ∷ [])))
    (made, (block_ptr b o, tt)) (v ∷ [])) (sized_val (block_ptr b o) n ∷ [], (vptr b o ∷ [], tt)) $
    let Says : Type 0 = (block_ptr b o ≡ x.bytes) × (block_ptr b o ≡ x.bytes) × (some ≡ x.values) in
    use0 𝓛 (raw (fact 𝓤 Says)) (fact_i 𝓤 Says (emp 𝓤) (sym at, sym at, sym asked)) $ nothing !
    $ nothing ! $ fjoin ! $ move ! (3 ∷ 0 ∷ 2 ∷ 1 ∷ [])
    $ by ! (leaves 𝓛 ended stays c z v (made, block_ptr b o) (tt, tt) (tt, tt))))))
