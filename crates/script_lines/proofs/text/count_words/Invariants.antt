use Rattle.std.proofs.Common.{◌≡◌, ◌≤◌, ◌+◌, length}
use Rattle.script_lines.specs.Words.{words_of, word_count}
use Rattle.script_lines.proofs.WordLaws.{counted_behind}
use Rattle.script_lines.proofs.text.count_words.Given as goal

-- the words so far and those of the rest are the line's
abbrev pub invariant-loop-behind : goal.invariant-loop-behind
invariant-loop-behind l = record {
  counted : word_count (words_of l.fn.line) ≡ counted_behind l.count (word_count (words_of l.rest));
  within : l.count + length l.rest ≤ length l.fn.line;
}

abbrev pub decreases-loop-behind : goal.decreases-loop-behind
decreases-loop-behind l = length l.rest
