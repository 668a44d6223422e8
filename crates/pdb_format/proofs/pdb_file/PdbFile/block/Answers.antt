-- `block` returns the place of the block of a rank, if the file has the block, by the laws of
-- FileBlocks.
use Rattle.std.proofs.Common.{◌<◌, Option, None, List, length, get_or, ap, arith, rules}
use Rattle.pdb_format.specs.declared.blocks.Block.{Block}
use Rattle.pdb_format.proofs.FileBlocks.{length-blocks, block_of}
use Rattle.pdb_format.proofs.pdb_file.PdbFile.block.Goals as goal

pub bounds-blocks-rank : goal.bounds-blocks-rank
bounds-blocks-rank g c =
    let long = length-blocks c.args.self.now c.blocks-blocks.result.now
    c.blocks-blocks.ensures.places.are in
    omega (arith, long, c.requires)

pub returns-clause-place : goal.returns-clause-place
returns-clause-place g c =
    ap (λ (blocks : List (Option Block)). get_or blocks c.args.rank None)
    c.blocks-blocks.ensures.places.places

pub returns-clause-is : goal.returns-clause-is
returns-clause-is g c =
    let long = length-blocks c.args.self.now c.blocks-blocks.result.now
    c.blocks-blocks.ensures.places.are in
    block_of c.args.self.now c.blocks-blocks.result.now c.args.rank
    c.blocks-blocks.ensures.places.are (omega (arith, long, c.requires))

pub returns-clause-within : goal.returns-clause-within
returns-clause-within g c =
    let long = length-blocks c.args.self.now c.blocks-blocks.result.now
    c.blocks-blocks.ensures.places.are in
    c.blocks-blocks.ensures.places.within c.args.rank None (omega (arith, long, c.requires))

pub offset_bounds-blocks-rank : goal.offset_bounds-blocks-rank
offset_bounds-blocks-rank g c =
    let long = length-blocks c.args.self.now c.blocks-blocks.result.now
    c.blocks-blocks.ensures.places.are in
    let inside : c.args.rank < length c.blocks-blocks.result.now =
    omega (arith, long, c.requires) in
    search rules
