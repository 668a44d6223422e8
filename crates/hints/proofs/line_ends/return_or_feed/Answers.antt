use Rattle.std.proofs.Common.{◌≡◌, ◌≢◌, ◌∷◌, ◌∙◌, ℕ, List, length, sym, ap, subst, arith, rules}
use Rattle.std.proofs.lemmas.List.{nil_from_length}
use Rattle.hints.specs.LineEnds.{IsConverted}
use Rattle.hints.proofs.Returns.{first, after_return, after_alone}
use Rattle.hints.proofs.line_ends.return_or_feed.Goals as goal

pub returns-in-None-clause-left : goal.returns-in-None-clause-left
returns-in-None-clause-left c =
    let none : length c.args.rest.now ≡ 0 = search rules in
    let zero : 0 ≡ first c.args.rest.now = sym (ap first (nil_from_length c.args.rest.now none)) in
    after_alone c.args.rest.now (λ feed. omega (arith, zero, feed))

pub returns-then-next-eq10-clause-left : goal.returns-then-next-eq10-clause-left
returns-then-next-eq10-clause-left c =
    let rest : c.args.rest.now ≡ 10 ∷ c.in-Some.left.now = search rules in
    λ converted. after_return c.in-Some.left.now (subst (λ (bytes : List ℕ). IsConverted (13 ∷ bytes)) rest converted)

pub returns-else-next-eq10-clause-left : goal.returns-else-next-eq10-clause-left
returns-else-next-eq10-clause-left c =
    let rest : c.args.rest.now ≡ c.in-Some.next.now ∷ c.in-Some.left.now = search rules in
    let other : c.in-Some.next.now ≢ 10 = search rules in
    after_alone c.args.rest.now (λ feed. other (sym (ap first rest) ∙ feed))
