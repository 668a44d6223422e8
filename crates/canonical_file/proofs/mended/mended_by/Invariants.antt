-- The ghost bytes that `mended_by` gives to `of` are the rest of the file.
use Rattle.canonical_file.proofs.mended.mended_by.Given as goal

abbrev pub ghost-of : goal.ghost-of
ghost-of g a = g.rest
