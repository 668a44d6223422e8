use Rattle.std.proofs.Common.{arith}
use Rattle.heap_migration.proofs.ChunkLaws.{wrote_there, wrote_more, wrote_all}
use Rattle.heap_migration.proofs.chunks.lower_offsets.Goals as goal

pub lower_offset-at-requires-clause-chunk : goal.lower_offset-at-requires-clause-chunk
lower_offset-at-requires-clause-chunk c =
    let end = c.len-end.ensures in
    let there = wrote_there c.args.image.now.bytes c.args.grown.now.bytes c.loop-at.grown.bytes c.args.by c.loop-at.at c.requires.accepted c.loop-at.invariant.wrote (omega arith) in
    record { chunk = there.0; spelled = there.1 }

pub loop-at-preserved : goal.loop-at-preserved
loop-at-preserved c = record {
  wrote = wrote_more c.args.image.now.bytes c.args.grown.now.bytes c.loop-at.grown.bytes c.lower_offset-at.new.grown.bytes c.args.by c.loop-at.at c.lower_offset-at.result c.requires.len c.loop-at.invariant.wrote c.lower_offset-at.ensures.wrote;
  whole = c.lower_offset-at.ensures.whole;
}

pub returns-clause-wrote : goal.returns-clause-wrote
returns-clause-wrote c = let end = c.len-end.ensures in wrote_all c.args.image.now.bytes c.args.grown.now.bytes c.loop-at.grown.bytes c.args.by c.loop-at.at c.loop-at.invariant.wrote (omega arith)
