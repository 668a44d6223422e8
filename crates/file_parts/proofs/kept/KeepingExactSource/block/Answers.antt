-- `block` of `KeepingExactSource` meets its contract, by the laws of KeptSources.
use Rattle.file_parts.proofs.AllWords.{ap, sym, ◌∙◌, arith, block_bytes}
use Rattle.file_parts.proofs.KeptSources.{block_is, count_is}
use Rattle.file_parts.proofs.kept.KeepingExactSource.block.Goals as goal

pub old_block-requires : goal.old_block-requires
old_block-requires c =
    let count = count_is c.args.self.now in
    let inside = c.requires.inside in
    omega (arith, count, inside)

pub returns : goal.returns
returns c = c.old_block.ensures ∙ sym (ap block_bytes (block_is c.args.self.now c.args.rank))
