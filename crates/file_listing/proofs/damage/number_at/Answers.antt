use Rattle.std.proofs.Common.{◌+◌, arith, rules}
use Rattle.db_format.proofs.WordLaws.{u32_at_part}
use Rattle.pdb_format.proofs.StartLaws.{ends_within, number_started}
use Rattle.file_listing.proofs.damage.number_at.Goals as goal

pub overflow_add-at : goal.overflow_add-at
overflow_add-at g c =
    let within = ends_within (g.B.FileBytes.bytes c.args.file.now) c.start-start.result.now c.start-start.ensures (c.args.at + 4) (omega arith) c.requires.inside in
    search rules

pub slice_bounds-read_u32-end : goal.slice_bounds-read_u32-end
slice_bounds-read_u32-end g c =
    let within = ends_within (g.B.FileBytes.bytes c.args.file.now) c.start-start.result.now c.start-start.ensures (c.args.at + 4) (omega arith) c.requires.inside in
    search rules

pub returns : goal.returns
returns g c =
    let within = ends_within (g.B.FileBytes.bytes c.args.file.now) c.start-start.result.now c.start-start.ensures (c.args.at + 4) (omega arith) c.requires.inside in
    let same = number_started c.args.at (g.B.FileBytes.bytes c.args.file.now) c.start-start.result.now c.start-start.ensures within in
    search (rules, u32_at_part)
