-- The call does the step of the store.
use Rattle.std.proofs.Common.{inl, rules}
use Rattle.palm_store.proofs.store.Store.set_info_block.Goals as goal

pub returns-clause-does : goal.returns-clause-does
returns-clause-does c =
    let left = c.give_block.ensures.given in
    rw (← c.self.view_is) (record {
      before = c.self.invariant.accepted;
      step = search rules;
      accepted = left.accepted;
      len = left.len;
      tables = search rules;
      directory = inl left.directory;
      still = left.still;
      loan = c.give_block.ensures.kept.loan;
      asks = tt;
      rest = c.give_block.ensures.kept.rest;
    })
