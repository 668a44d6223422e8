-- The loop of `next` keeps its invariant: the lines before these are passed over.
use Rattle.file_parts.proofs.AllWords.{◌≡◌, ◌+◌, ◌<◌, ◌^◌, length, lines, next_of}
use Rattle.file_parts.proofs.lines.Lines.next.Given as goal

abbrev pub invariant-loop-self : goal.invariant-loop-self
invariant-loop-self l = record {
  next : next_of l.fn.self.number l.fn.self.texts
      ≡ next_of l.self-inside.number (lines l.self-inside.rest.now);
  count : l.self-inside.number + length (lines l.self-inside.rest.now)
      ≡ l.fn.self.number + length l.fn.self.texts;
  within : l.self-inside.number + length l.self-inside.rest.now < 2 ^ 63;
}

abbrev pub decreases-loop-self : goal.decreases-loop-self
decreases-loop-self l = length l.self-inside.rest.now
