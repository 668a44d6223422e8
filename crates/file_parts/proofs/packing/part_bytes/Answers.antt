-- `part_bytes` returns the bytes of the part of a rank, and none if there is no part.
use Rattle.file_parts.proofs.AllWords.{[], sym, ap, ◌∙◌, get_or_default, block_bytes, filled}
use Rattle.file_parts.proofs.packing.part_bytes.Goals as goal

pub returns : goal.returns
returns c =
    let bytes = c.index-parts-rank.result in
    c.bytes_of.ensures ∙ ap (λ xs. block_bytes (filled xs c.args.part.now))
    (c.index-parts-rank.is ∙ sym (get_or_default c.args.parts.now c.args.rank [] bytes c.requires))
