-- A header tells whether a free chunk is there, and its size.
use Rattle.heap_place.proofs.Laws.{◌∙◌, arith, a_chunk_there, free_read, none_at_the_end}
use Rattle.heap_place.proofs.release.free_size.Goals as goal

pub returns-then-at-len : goal.returns-then-at-len
returns-then-at-len c = none_at_the_end c.args.region.now.bytes c.args.at (omega arith)

pub at-requires-clause-chunk : goal.at-requires-clause-chunk
at-requires-clause-chunk c = a_chunk_there c.requires.chunks (omega arith)

pub returns : goal.returns
returns c = c.size_if_free.ensures ∙ free_read c.at.ensures
