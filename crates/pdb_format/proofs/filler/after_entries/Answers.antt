-- `after_entries` returns two bytes that lie within the first bytes of the file, by the laws of
-- StartLaws.
use Rattle.std.proofs.Common.{◌+◌, arith, rules}
use Rattle.heap_model.specs.Files.{entries_end}
use Rattle.pdb_format.proofs.StartLaws.{ends_within}
use Rattle.pdb_format.proofs.filler.after_entries.Goals as goal

pub overflow_add-result : goal.overflow_add-result
overflow_add-result g c =
    let file = g.B.FileBytes.bytes c.args.file.now in
    let within = ends_within file _ c.start-start.ensures (entries_end file + 2)
    (omega arith) c.requires.whole in
    search rules

pub slice_bounds-result-end : goal.slice_bounds-result-end
slice_bounds-result-end g c =
    let file = g.B.FileBytes.bytes c.args.file.now in
    let within = ends_within file _ c.start-start.ensures (entries_end file + 2)
    (omega arith) c.requires.whole in
    search rules
