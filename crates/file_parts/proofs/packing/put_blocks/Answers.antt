-- `put_blocks` writes the blocks, by the laws of PackedFiles.
use Rattle.file_parts.proofs.AllLaws.{◌+◌, ◌<◌, ◌≤◌, List, ℕ, Option, true, false, length, sym, ap, subst, ◌∙◌, arith, data_in, block_bytes, Writes, then, stops, nothing, database_listed, filled, part_at, blocks_on, block_here, blocks_end}
use Rattle.file_parts.proofs.packing.put_blocks.Goals as goal

pub loop-rank-init : goal.loop-rank-init
loop-rank-init g c = λ new ok w. w

pub loop-rank-preserved : goal.loop-rank-preserved
loop-rank-preserved g c = λ new ok w.
    let listed = c.args.listed.now in
    let parts = c.args.parts.now in
    let rank = c.loop-rank.rank in
    let count = c.requires.count in
    let below : rank < length (data_in (database_listed listed)) = omega arith in
    let is = c.part_bytes.ensures ∙ ap (λ (part : Option (List ℕ)).
    block_bytes (filled (part_at parts rank) part)) c.part.ensures in
    let here = block_here listed parts rank c.part_bytes.result.now below is in
    c.loop-rank.invariant new ok
    (subst (λ (text : List ℕ). Writes g.W.Write.contents c.loop-rank.out new text ok) (sym here)
    (then g.W.Write.contents c.loop-rank.out c.put_all.new.out new _ _ ok c.in-Ok.ensures w))

pub returns-in-Err : goal.returns-in-Err
returns-in-Err g c =
    let listed = c.args.listed.now in
    let parts = c.args.parts.now in
    let rank = c.loop-rank.rank in
    let count = c.requires.count in
    let below : rank < length (data_in (database_listed listed)) = omega arith in
    let is = c.part_bytes.ensures ∙ ap (λ (part : Option (List ℕ)).
    block_bytes (filled (part_at parts rank) part)) c.part.ensures in
    let here = block_here listed parts rank c.part_bytes.result.now below is in
    c.loop-rank.invariant c.put_all.new.out false (rw here (stops g.W.Write.contents c.loop-rank.out
    c.put_all.new.out _ (blocks_on listed parts (rank + 1)) c.in-Err.ensures))

pub returns : goal.returns
returns g c =
    let listed = c.args.listed.now in
    let parts = c.args.parts.now in
    let count = c.requires.count in
    let past : length (data_in (database_listed listed)) ≤ c.loop-rank.rank = omega arith in
    c.loop-rank.invariant c.loop-rank.out true (rw (blocks_end listed parts c.loop-rank.rank past)
    (nothing g.W.Write.contents c.loop-rank.out))
