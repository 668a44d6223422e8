use Rattle.file_commands.proofs.get_command.say_refusal.Goals as goal

pub returns-clause-refused : goal.returns-clause-refused
returns-clause-refused g c = λ is. c.said.ensures.said is _ _ c.put_refusal.ensures
