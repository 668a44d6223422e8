-- `first_offset` returns the offset of the first block, by the laws of ExactPacked and PackedFiles.
use Rattle.file_parts.proofs.AllLaws.{◌+◌, length, ◌∙◌, arith, ExactFile, exact_size, exact_packed, start_is, refused_more}
use Rattle.file_parts.proofs.exact_packing.first_offset.Goals as goal

pub returns-in-Ok-clause-is : goal.returns-in-Ok-clause-is
returns-in-Ok-clause-is c = c.in-Ok.ensures.is
    ∙ start_is c.args.exact.now c.args.parts.now _ _ c.entries_end.ensures.is c.filler_of.ensures

pub returns-in-Err-clause-large : goal.returns-in-Err-clause-large
returns-in-Err-clause-large c =
    let file : ExactFile = exact_packed c.args.exact.now c.args.parts.now in
    let begin =
    start_is c.args.exact.now c.args.parts.now _ _ c.entries_end.ensures.is c.filler_of.ensures in
    refused_more (c.entries_end.result + length c.filler_of.result.now)
    (exact_size file) c.in-Err.fault (omega arith) c.in-Err.ensures.large
