use Rattle.std.proofs.Common.{◌+◌, ap, ◌∙◌}
use Rattle.heap_model.specs.Memory.{Memory}
use Rattle.heap_model.specs.Bytes.{overwritten}
use Rattle.heap_migration.proofs.ChunkLaws.{area_written, wrote_after}
use Rattle.heap_migration.proofs.chunks.write_chunks.Goals as goal

pub lower_offsets-requires-clause-copied : goal.lower_offsets-requires-clause-copied
lower_offsets-requires-clause-copied c =
    (area_written c.args.image.now.bytes c.args.grown.now.bytes c.write.new.self.bytes c.args.by c.area_start-start.result c.len.result c.requires.accepted c.requires.len c.area_start-start.ensures c.len.ensures
    (ap (λ (m : Memory). m.bytes) c.write.ensures.after ∙ ap (overwritten c.args.grown.now.bytes (c.area_start-start.result + c.args.by)) c.slice.ensures)).0

pub returns-clause-wrote : goal.returns-clause-wrote
returns-clause-wrote c =
    let w = area_written c.args.image.now.bytes c.args.grown.now.bytes c.write.new.self.bytes c.args.by c.area_start-start.result c.len.result c.requires.accepted c.requires.len c.area_start-start.ensures c.len.ensures
    (ap (λ (m : Memory). m.bytes) c.write.ensures.after ∙ ap (overwritten c.args.grown.now.bytes (c.area_start-start.result + c.args.by)) c.slice.ensures) in
    wrote_after c.args.image.now.bytes c.args.grown.now.bytes c.write.new.self.bytes c.lower_offsets.new.grown.bytes c.args.by c.write.ensures.len w.1 c.lower_offsets.ensures.wrote
