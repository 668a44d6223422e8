use Rattle.std.proofs.Common.{◌≡◌, drop}
use Rattle.std.specs.List.{find}
use Rattle.std.specs.Str.{bytes_eq}
use Rattle.script_commands.specs.Commands.{word_of}
use Rattle.script_commands.proofs.command.find_in.Given as goal

-- none of the commands so far has the word
abbrev pub invariant-loop-command : goal.invariant-loop-command
invariant-loop-command l = find (λ command. bytes_eq (word_of command) l.word) l.commands ≡ find (λ command. bytes_eq (word_of command) l.word) (drop l.command-index l.commands)
