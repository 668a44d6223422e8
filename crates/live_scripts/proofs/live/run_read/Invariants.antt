-- The loop of `run_read` keeps its invariant: the lines before `at` were run.
use Rattle.live_scripts.proofs.Words.{[], ◌≡◌, ◌<◌, ◌≤◌, ◌-◌, cond, drop, length, take, true, vec_len, IsAtEnd, Keeps, prepend_known, IsUnended, LoanStays, output, setting, HasRun, live_state}
use Rattle.live_scripts.proofs.live.run_read.Given as goal

abbrev pub invariant-loop-is_end : goal.invariant-loop-is_end
invariant-loop-is_end g l = record {
  has : HasRun (setting (g.A.Allowance.is_short l.memory) l.inputs.files.now)
      (take l.at l.text.items) l.fn.store (live_state l.session l.store)
      (output g.W.Write.contents l.fn.out l.out);
  within : l.at ≤ vec_len l.text;
  limit : vec_len l.text ≤ 16777216;
  count : l.session.count ≤ l.at;
  kept : Keeps (g.R.Read.remaining l.fn.reader)
      (prepend_known l.text.items (g.R.Read.remaining l.reader));
  room : 0 < length l.turn.items;
  stays : LoanStays l.fn.store l.store;
  ended : l.is_end ≡ true
      → IsAtEnd (g.R.Read.remaining l.reader) × IsUnended (drop l.at l.text.items);
}

abbrev pub decreases-loop-is_end : goal.decreases-loop-is_end
decreases-loop-is_end g l = cond l.is_end 0 (16777217 - vec_len l.text)
