use Rattle.std.proofs.Common.{◌≡◌, ◌≢◌, ◌∷◌, subst, rules}
use Rattle.hints.specs.LineEnds.{IsConverted}
use Rattle.hints.proofs.Returns.{feed_is_alone, after_byte}
use Rattle.hints.proofs.line_ends.first_byte.Goals as goal

pub returns-in-10-clause-none : goal.returns-in-10-clause-none
returns-in-10-clause-none c =
    let file : c.args.file.now ≡ 10 ∷ c.in_ok-first.rest.now = search rules in
    λ some converted. feed_is_alone c.in_ok-first.rest.now (subst IsConverted file converted)

pub returns-in_default-clause-left : goal.returns-in_default-clause-left
returns-in_default-clause-left c =
    let file : c.args.file.now ≡ c.in_ok-first.first.now ∷ c.in_ok-first.rest.now = search rules in
    let other : c.in_ok-first.first.now ≢ 13 = search rules in
    λ converted. after_byte c.in_ok-first.first.now c.in_ok-first.rest.now other (subst IsConverted file converted)
