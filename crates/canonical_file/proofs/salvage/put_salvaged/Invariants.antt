-- The ghost bytes that `put_salvaged` gives to `mended_by` are those of the file after its first
-- bytes.
use Rattle.std.proofs.Common.{length, drop}
use Rattle.canonical_file.proofs.salvage.put_salvaged.Given as goal

abbrev pub ghost-mended_by : goal.ghost-mended_by
ghost-mended_by g a = drop (length a.start.now) a.file.now
