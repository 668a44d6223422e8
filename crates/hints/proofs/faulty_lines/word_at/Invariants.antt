use Rattle.std.proofs.Common.{◌≡◌, length}
use Rattle.std.specs.Prelude.{slice_get, Ok}
use Rattle.script_lines.specs.Reading.{words_in}
use Rattle.script_lines.specs.Words.{words_of}
use Rattle.hints.specs.FaultyLines.{item_numbered}
use Rattle.hints.proofs.faulty_lines.word_at.Given as goal

-- the word that is wanted is among the rest
abbrev pub invariant-loop-word : goal.invariant-loop-word
invariant-loop-word l = record {
  whole : words_of l.rest ≡ Ok (words_in l.rest);
  found : item_numbered (words_in l.line) l.number ≡ slice_get (words_in l.rest) l.left;
}

abbrev pub decreases-loop-word : goal.decreases-loop-word
decreases-loop-word l = length l.rest
