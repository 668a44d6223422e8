-- `block` of `ReplacingExactSource` meets its contract, by the laws of ReplacedFiles.
use Rattle.file_parts.proofs.AllWords.{◌<◌, length, rules, arith, blocks_in}
use Rattle.file_parts.proofs.ReplacedFiles.{block_new, block_old, count_is}
use Rattle.file_parts.proofs.replaced.ReplacingExactSource.block.Goals as goal

pub old_block-requires : goal.old_block-requires
old_block-requires c =
    let count = count_is c.args.self.now in
    let inside = c.requires.inside in
    omega (arith, count, inside)

pub returns-then-rank-self : goal.returns-then-rank-self
returns-then-rank-self c =
    let count = count_is c.args.self.now in
    let inside = c.requires.inside in
    let less : c.args.rank < length (blocks_in c.args.self.now.unpacked.file) =
    omega (arith, count, inside) in
    block_new c.args.self.now c.args.rank less (search rules)

pub returns : goal.returns
returns c =
    let count = count_is c.args.self.now in
    let inside = c.requires.inside in
    let less : c.args.rank < length (blocks_in c.args.self.now.unpacked.file) =
    omega (arith, count, inside) in
    block_old c.args.self.now c.args.rank _ less (search rules) c.old_block.ensures
