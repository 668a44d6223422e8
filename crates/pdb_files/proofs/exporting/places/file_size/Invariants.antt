-- The loop of `file_size` keeps its invariant: the data that is left makes the size whole.
use Rattle.pdb_files.proofs.Words.{◌≡◌, ◌+◌, length, drop, file_size, data_text, content_of}
use Rattle.pdb_files.proofs.exporting.places.file_size.Given as goal

abbrev pub invariant-loop-index : goal.invariant-loop-index
invariant-loop-index l =
    l.size + length (data_text (drop l.index (content_of l.store.bytes l.bytes).entries))
    ≡ file_size (content_of l.store.bytes l.bytes)
