-- `checked` checks the lines whose faults depend on the lines of the database.
use Rattle.file_parts.proofs.AllWords.{List, map, ap, ◌∙◌, data_in, database_listed, order_of, head_of, OrderLine}
use Rattle.file_parts.proofs.ExactListings.{all_good, bad_after, bad_order}
use Rattle.file_parts.proofs.exact_listed.checked.Goals as goal

pub returns-in-Ok-ranks_of-clause-ok : goal.returns-in-Ok-ranks_of-clause-ok
returns-in-Ok-ranks_of-clause-ok g c =
    all_good (head_of c.args.exact) (database_listed c.args.listed) c.in-Ok.ensures.ok
    (rw c.as_slice.ensures.value at c.in-Ok-ranks_of.ensures.ok)

pub returns-in-Ok-ranks_of-clause-good : goal.returns-in-Ok-ranks_of-clause-good
returns-in-Ok-ranks_of-clause-good g c = record {
  good = c.requires;
  after_name = c.in-Ok.ensures.ok;
  order = rw c.as_slice.ensures.value at c.in-Ok-ranks_of.ensures.ok;
  ranks = c.in-Ok-ranks_of.ensures.ranks
      ∙ ap (λ (order : List OrderLine). order_of (data_in (database_listed c.args.listed))
      (map (λ line. line.rank) order)) c.as_slice.ensures.value;
}

pub returns-in-Err-clause-err : goal.returns-in-Err-clause-err
returns-in-Err-clause-err g c = λ other. bad_after (head_of c.args.exact)
    (database_listed c.args.listed) c.in-Err.fault c.in-Err.ensures.err.0

pub returns-clause-err : goal.returns-clause-err
returns-clause-err g c = λ other. bad_order (head_of c.args.exact)
    (database_listed c.args.listed) c.in-Err-ranks_of.fault c.in-Ok.ensures.ok
    (rw c.as_slice.ensures.value at (c.in-Err-ranks_of.ensures.err other))
