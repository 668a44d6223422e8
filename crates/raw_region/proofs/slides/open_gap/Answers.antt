use Rattle.std.proofs.Common.{◌-◌, length, arith}
use Rattle.raw_region.proofs.PartLaws.{overwritten_by_slide}
use Rattle.raw_region.proofs.slides.open_gap.Goals as goal

pub returns : goal.returns
returns g c =
    let part = c.args.part.now in
    let by = g.row.BY in
    overwritten_by_slide part c.copy_within.new.self 0 by (length part - by - 0) (omega arith) c.copy_within.ensures.after
