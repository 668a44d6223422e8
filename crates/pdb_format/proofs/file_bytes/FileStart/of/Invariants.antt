-- The ghost bytes that `of` gives to `name_unread` are the rest of the file.
use Rattle.pdb_format.proofs.file_bytes.FileStart.of.Given as goal

abbrev pub ghost-name_unread : goal.ghost-name_unread
ghost-name_unread g a = g.rest
