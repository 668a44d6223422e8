-- Each turn appends the next loan.
use Rattle.palm_store.proofs.Words.{List, [], ◌∷◌, ◌++◌, sym, subst, append_assoc, arith, Name, AreLoansAbove}
use Rattle.std.proofs.Common.{append-nil}
use Rattle.palm_store.proofs.store.Store.loans_from.Goals as goal

pub loop-loan-init : goal.loop-loan-init
loop-loan-init g c = λ rest above. subst (λ (names : List Name). AreLoansAbove c.args.self.now 0 (names ++ rest)) (sym c.new-names.ensures.items) above

pub loop-loan-preserved : goal.loop-loan-preserved
loop-loan-preserved g c = λ rest above.
    subst (λ (names : List Name). AreLoansAbove c.args.self.now 0 (names ++ rest)) (sym c.in_ok-push.ensures.items)
    (subst (λ (names : List Name). AreLoansAbove c.args.self.now 0 names) (sym (append_assoc c.loop-loan.names.items (c.in-Some.loan.0 ∷ []) rest))
    (c.loop-loan.invariant (c.in-Some.loan.0 ∷ rest) (c.in-Some.loan.1.0, (c.in-Some.ensures.next, above))))

pub loop-loan-smaller : goal.loop-loan-smaller
loop-loan-smaller g c = let above = c.in-Some.ensures.next.next.above in omega (arith, above)

pub returns-clause-all : goal.returns-clause-all
returns-clause-all g c = subst (λ (names : List Name). AreLoansAbove c.args.self.now 0 names) (append-nil c.loop-loan.names.items) (c.loop-loan.invariant [] c.in_default.ensures.none)
