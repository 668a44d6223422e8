-- `add_others` adds the ranks without a mark of the blocks that are there.
use Rattle.file_parts.proofs.AllLaws.{◌≡◌, ◌++◌, ℕ, List, Option, length, ap, ◌∙◌, rules, data_in, database_listed, free_ranks, free_added, free_left_out}
use Rattle.file_parts.proofs.exact_listed.add_others.Goals as goal
use Rattle.file_parts.proofs.exact_listed.add_others.Goals.{then-is_free+in_ok-push, else-is_free}

pub loop-rank-preserved : goal.loop-rank-preserved
loop-rank-preserved g c =
    let blocks : List (Option (List ℕ)) = data_in (database_listed c.args.listed.now) in
    let marks : List ℕ = c.args.marks.now in
    let rank = c.loop-rank.rank in
    let front : List ℕ = c.args.ranks.now.items in
    elim c.if-is_free.branch [
      | then-is_free+in_ok-push w ↦ free_added blocks marks rank front _ _ c.loop-rank.invariant
          (search rules) (ap (λ v. v.items) w.ranks-is ∙ w.in_ok-push.ensures.items)
      | else-is_free w ↦ ap (λ v. v.items) w.ranks-is
          ∙ free_left_out blocks marks rank front _ c.loop-rank.invariant (search rules)
    ]

pub returns-clause-ranks : goal.returns-clause-ranks
returns-clause-ranks g c =
    let front : List ℕ = c.args.ranks.now.items in
    let all : c.loop-rank.rank ≡ length c.args.marks.now = search rules in
    c.loop-rank.invariant ∙ ap (λ n. front
    ++ free_ranks (data_in (database_listed c.args.listed.now)) c.args.marks.now n) all
