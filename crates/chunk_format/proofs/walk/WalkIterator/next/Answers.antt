use Rattle.std.proofs.Common.{◌≡◌, ◌∷◌, ◌+◌, length, suc, rules, ap, sym, ◌∙◌}
use Rattle.chunk_format.proofs.WalkLaws.{left_from, left-none, left-some}
use Rattle.chunk_format.proofs.walk.WalkIterator.next.Goals as goal

pub returns-in-Some-clause-steps : goal.returns-in-Some-clause-steps
returns-in-Some-clause-steps c =
    let image = c.self.inside.region.now.bytes in
    let at = c.self.inside.at in
    sym c.self.view_is ∙ left-some image at c.in-Some.header c.in-Some.ensures.found
    ∙ ap (λ n. (record { 0 = at + 8 }, c.in-Some.header) ∷ left_from image (at + n)) (sym c.in-Some.ensures.size)

pub returns-in-Some-clause-goes : goal.returns-in-Some-clause-goes
returns-in-Some-clause-goes c =
    let l : length c.args.self.now ≡ suc (length (left_from c.self.inside.region.now.bytes (c.self.inside.at + c.in-Some.size))) = ap length (returns-in-Some-clause-steps c) in
    search (rules, l)

pub returns-in-None-clause-steps : goal.returns-in-None-clause-steps
returns-in-None-clause-steps c = let e = sym c.self.view_is ∙ left-none c.self.inside.region.now.bytes c.self.inside.at c.in-None.ensures.none in (e, e)
