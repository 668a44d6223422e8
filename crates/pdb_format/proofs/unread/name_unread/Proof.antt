-- `name_unread` makes a value that has no bytes. Assumes `Logic`.
use Rattle.std.proofs.Common.{◌≡◌, ℕ, List, [], ◌∷◌, refl}
use Rattle.std.proofs.raw_atomic.Walks.{proved_at, leaves}
use mir.Syntax.{Fn}
use mir.Val.{Val}
use base.Logic.{SProp, emp}
use base.Fml.{ftrue}
use contract.Monad.{fact, fact_i}
use contract.Running.{tables}
use types.Kit.{‵, raw, ◌⊛◌, ◌$◌, ◌∵◌, !, qed, by, move, drop, use0, split, fjoin}
use types.Part.{agg}
use types.Run.{no_more, returns, enter}
use types.ByLocal.{alloc_all, pass_all, free_all, look_at, sets}
use denote.RattleType.{owns}
use denote.Signature.{types_at}
use denote.Steps.{nothing}
use denote.Triple.Entry.{alive}
use denote.Triple.Walked.{Stays, walk_of}
use Rattle.pdb_format.proofs.UnreadValues.{none_val, none_own, none_made}
use Rattle.pdb_format.specs.contracts.unread.Unread as whole
use Rattle.pdb_format.specs.contracts.unread.name_unread.{ended, clauses, ghost}
use Rattle.pdb_format.specs.contracts.unread.name_unread.Key.{name as #self}
use Rattle.pdb_format.proofs.unread.name_unread.Statement.{statement}
use Rattle.pdb_format.proofs.unread.name_unread.Code as compiled

pub name_unread_spec : {M : Type 1} → statement M
name_unread_spec 𝓤 𝓛 𝓜 𝓡 wired =
    let H = 𝓛.H in
    let fn : Fn = compiled.function in
    let stays : Stays ended.signature.params ended.kept = tt in
    let c = clauses 𝓛 𝓜.mem 𝓡.returns in
    let C = (tables 𝓤 H 𝓜 𝓡 𝓡.env).C in
    let Λ = (tables 𝓤 H 𝓜 𝓡 𝓡.env).Λ in
    proved_at 𝓛 ended stays c 𝓜 𝓡 tt #self fn (compiled.unfolded 𝓤 H 𝓜 𝓡 wired) (λ z are.
    let Post : Val → SProp 𝓤 = (walk_of 𝓛 ended stays c).post z in
    let g : ghost 𝓛 z.0.0 𝓜.mem 𝓡.returns = z.1 in let told : List ℕ = g in
    let made : whole.the_row.Denot = record { bytes = told } in
    qed 𝓛
    ((raw (alive 𝓛 ended.signature z.0.0 z.0.1) ⊛ ‵ (owns (types_at ended.signature.params z.0.0) z.0.3 z.0.4))
    ∷ ‵ ftrue ∷ []) ∵ move ! (1 ∷ []) $ drop ! $ split ! $ move ! (1 ∷ []) $ drop ! $
    enter ! C Λ fn [] Post $
    alloc_all ! (λ l. pass_all ! refl tt $
    sets ! (agg ! (no_more !)) refl (tt, tt) $
    returns ! (look_at ! 0 refl) $ free_all ! refl $
    nothing ! $ use0 𝓛 (‵ (none_own (none_val ∷ []))) (none_made 𝓛) $ fjoin ! $
    use0 𝓛 (raw (fact 𝓤 (told ≡ told))) (fact_i 𝓤 (told ≡ told) (emp 𝓤) refl) $
    nothing ! $ move ! (3 ∷ 0 ∷ 2 ∷ 1 ∷ []) $ by ! (leaves 𝓛 ended stays c z none_val made tt tt)))
