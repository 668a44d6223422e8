-- `put_entries` writes the entries of a file one by one, by the laws of EntryLaws.
use Rattle.std.proofs.Common.{rules}
use Rattle.palmheap_c.proofs.EntryLaws.{one_more}
use Rattle.palmheap_c.proofs.file_entries.put_entries.Goals as goal

pub loop-index-preserved : goal.loop-index-preserved
loop-index-preserved c =
    one_more c.args.file.now c.loop-index.index c.loop-index.to c.args.to.now c.entry_at.result
    (search rules) c.loop-index.invariant.0 c.loop-index.invariant.1 c.entry_at.ensures
