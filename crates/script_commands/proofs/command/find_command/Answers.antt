use Rattle.std.proofs.Common.{Bool, ◌++◌, map, sym, ◌∙◌}
use Rattle.std.specs.Str.{bytes_eq}
use Rattle.script_commands.specs.Commands.{word_of, memory_commands, database_commands, record_commands, resource_commands}
use Rattle.script_commands.specs.declared.command.Command.{Command}
use Rattle.script_commands.specs.declared.command.Command.TheVariants.{Memory, Database, Record, Resource}
use Rattle.script_commands.proofs.TableLaws.{found_behind, found_in_front}
use Rattle.script_commands.proofs.command.find_command.Goals as goal

pub returns-in-Some : goal.returns-in-Some
returns-in-Some c =
    let test : Command → Bool = λ command. bytes_eq (word_of command) c.args.word.now in
    sym (found_in_front test (map Memory memory_commands) (map Database database_commands ++ map Record record_commands ++ map Resource resource_commands) c.in-Some.command (sym c.find_in.ensures ∙ c.in-Some.is))

pub returns-in-Some-find_in-2 : goal.returns-in-Some-find_in-2
returns-in-Some-find_in-2 c =
    let test : Command → Bool = λ command. bytes_eq (word_of command) c.args.word.now in
    let in_none = found_behind test (map Memory memory_commands) (map Database database_commands) (sym c.find_in.ensures ∙ c.in_default.is) ∙ (sym c.find_in-2.ensures ∙ c.in_default-find_in.is) in
    sym (found_behind test (map Memory memory_commands ++ map Database database_commands) (map Record record_commands ++ map Resource resource_commands) in_none
    ∙ found_in_front test (map Record record_commands) (map Resource resource_commands) c.in-Some-find_in-2.command (sym c.find_in-3.ensures ∙ c.in-Some-find_in-2.is))

pub returns : goal.returns
returns c =
    let test : Command → Bool = λ command. bytes_eq (word_of command) c.args.word.now in
    let in_none = found_behind test (map Memory memory_commands) (map Database database_commands) (sym c.find_in.ensures ∙ c.in_default.is) ∙ (sym c.find_in-2.ensures ∙ c.in_default-find_in.is) in
    c.find_in-4.ensures
    ∙ sym (found_behind test (map Memory memory_commands ++ map Database database_commands ++ map Record record_commands) (map Resource resource_commands)
    (found_behind test (map Memory memory_commands ++ map Database database_commands) (map Record record_commands) in_none ∙ (sym c.find_in-3.ensures ∙ c.in_default-find_in-2.is)))
