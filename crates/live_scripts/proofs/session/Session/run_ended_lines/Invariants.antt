-- The loop of `run_ended_lines` keeps its invariant: the lines before the rest were run.
use Rattle.live_scripts.proofs.Words.{[], ◌≡◌, ◌≤◌, ◌+◌, ◌-◌, ◌++◌, List, ℕ, length, LoanStays, output, setting, RunsOn, live_state}
use Rattle.live_scripts.proofs.session.Session.run_ended_lines.Given as goal

abbrev pub invariant-loop-cut : goal.invariant-loop-cut
invariant-loop-cut g l = record {
  front : List ℕ;
  parts : l.text ≡ front ++ l.rest;
  runs : RunsOn (setting (g.A.Allowance.is_short l.memory) l.inputs.files.now) front
      (live_state l.fn.self l.fn.store) (live_state l.self l.store)
      (output g.W.Write.contents l.fn.out l.out);
  count : l.self.count ≤ l.fn.self.count + length front;
  stays : LoanStays l.fn.store l.store;
}

abbrev pub decreases-loop-cut : goal.decreases-loop-cut
decreases-loop-cut g l = length l.rest
