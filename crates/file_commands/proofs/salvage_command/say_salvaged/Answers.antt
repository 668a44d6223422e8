use Rattle.file_commands.proofs.salvage_command.say_salvaged.Goals as goal

pub returns-clause-done : goal.returns-clause-done
returns-clause-done g c = λ is. c.said.ensures.said is _ _ c.put_lines.ensures
