use Rattle.std.proofs.Common.{◌≡◌, ◌+◌, drop}
use Rattle.std.specs.Prelude.{Ok}
use Rattle.script_lines.specs.Words.{words_of}
use Rattle.script_lines.specs.Kinds.{read_words}
use Rattle.script_lines.specs.Views.{numberings}
use Rattle.script_lines.specs.Reading.{none_read, words_in}
use Rattle.script_lines.specs.Views.{words_read}
use Rattle.script_lines.proofs.reading.read_values.Given as goal

-- what is read goes on from what was read so far
abbrev pub invariant-loop-kind : goal.invariant-loop-kind
invariant-loop-kind g l = record {
  counted : l.number ≡ l.kind-index + 1;
  whole : words_of l.rest ≡ Ok (words_in l.rest);
  goes_on : read_words 2 (none_read (numberings l.fn.labels)) l.kinds (words_in l.fn.words) ≡ read_words (l.number + 1) (words_read l.values l.labels) (drop l.kind-index l.kinds) (words_in l.rest);
}
