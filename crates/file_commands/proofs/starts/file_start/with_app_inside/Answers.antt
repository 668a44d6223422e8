use Rattle.std.proofs.Common.{rules, ◌≡◌, take, drop, ap, ◌∙◌}
use Rattle.heap_model.specs.Bytes.{AreBytes, u32_at}
use Rattle.heap_model.specs.DatabaseFields.{app_info_at}
use Rattle.pdb_format.specs.FileStarts.{app_start, most_app}
use Rattle.file_commands.proofs.Splits.{split_inside}
use Rattle.file_commands.proofs.starts.file_start.with_app_inside.Goals as goal

pub of-requires : goal.of-requires
of-requires g c κs within =
    let numbers : AreBytes c.args.start.items = search rules in
    let same : c.in-Ok.app.items ≡ take most_app (drop (u32_at c.args.start.items app_info_at) c.args.start.items) = c.in-Ok.ensures.items ∙ c.app_of.ensures ∙ ap app_start c.deref-2.ensures.value in
    (within, split_inside (g.F.ReadsAt.bytes c.args.file.now) c.args.start.items c.in-Ok.app.items c.args.size c.requires.len c.requires.long c.requires.short c.requires.inside numbers c.requires.begins same)
