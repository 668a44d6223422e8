-- `ranks_of` returns the ranks of the blocks that are there, in their order: first those of the
-- lines `order`, and then the others in list order, by the laws of ExactOrders.
use Rattle.file_parts.proofs.AllLaws.{◌≡◌, List, ℕ, Option, length, sym, subst, arith, rules, data_in, database_listed, ranks_all, AreMarked}
use Rattle.std.proofs.lemmas.Grind.{common_steps}
use Rattle.file_parts.proofs.exact_listed.ranks_of.Goals as goal

pub returns-in-Ok-add_others-clause-ranks : goal.returns-in-Ok-add_others-clause-ranks
returns-in-Ok-add_others-clause-ranks g c =
    let blocks : List (Option (List ℕ)) = data_in (database_listed c.args.listed.now) in
    let mid : List ℕ = c.add_named.new.ranks.items in
    let marks : List ℕ = c.as_slice.result.now in
    let same : marks ≡ c.add_named.new.marks =
    first_of (search rules, first_of (cc, grind (arith, common_steps))) in
    ranks_all blocks _ mid _ marks c.in-Ok-add_named.ensures.ranks
    (subst (AreMarked (length blocks) mid) (sym same) c.in-Ok-add_named.ensures.marks)
    c.in-Ok-add_others.ensures.ranks
