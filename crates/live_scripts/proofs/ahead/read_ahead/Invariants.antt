-- The loop of `read_ahead` keeps its invariant: what was read and what is left are what the reader
-- had.
use Rattle.live_scripts.proofs.Words.{◌<◌, ◌≤◌, ◌-◌, vec_len, length, StartsWith, Keeps, prepend_known}
use Rattle.live_scripts.proofs.ahead.read_ahead.Given as goal

abbrev pub invariant-loop-text : goal.invariant-loop-text
invariant-loop-text g l = record {
  limit : vec_len l.text ≤ 16777216;
  room : 0 < length l.turn;
  longer : vec_len l.fn.text ≤ vec_len l.text;
  more : StartsWith l.text.items l.fn.text.items;
  kept : Keeps (prepend_known l.fn.text.items (g.R.Read.remaining l.fn.reader))
      (prepend_known l.text.items (g.R.Read.remaining l.reader));
}

abbrev pub decreases-loop-text : goal.decreases-loop-text
decreases-loop-text g l = 16777216 - vec_len l.text
