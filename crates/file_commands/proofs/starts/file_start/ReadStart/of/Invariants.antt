use Rattle.file_commands.proofs.starts.file_start.ReadStart.of.Given as goal

abbrev pub ghost-name_unread : goal.ghost-name_unread
ghost-name_unread g a = g.rest
