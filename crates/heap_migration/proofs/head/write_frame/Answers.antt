use Rattle.std.proofs.Common.{ℕ, List, ap, ◌∙◌}
use Rattle.heap_model.specs.Memory.{Memory}
use Rattle.heap_model.specs.Bytes.{u32_bytes, overwritten}
use Rattle.heap_migration.proofs.HeadLaws.{frame_written}
use Rattle.heap_migration.proofs.head.write_frame.Goals as goal

pub returns-clause-wrote : goal.returns-clause-wrote
returns-clause-wrote c =
    let bytes : Memory → List ℕ = λ m. m.bytes in
    frame_written c.args.image.now.bytes c.args.grown.now.bytes c.write.new.self.bytes c.put_u32.new.self.bytes c.put_u32-2.new.self.bytes c.requires.old_frame c.requires.new_frame c.requires.small
    (ap bytes c.write.ensures.after ∙ ap (overwritten c.args.grown.now.bytes 0) c.slice.ensures) (ap bytes c.put_u32.ensures.after)
    (ap bytes c.put_u32-2.ensures.after ∙ ap (λ (n : ℕ). overwritten c.put_u32.new.self.bytes 4 (u32_bytes n)) c.len.ensures)
