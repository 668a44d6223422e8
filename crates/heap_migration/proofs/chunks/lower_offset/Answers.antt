use Rattle.std.proofs.Common.{◌+◌, ℕ, List, ap, sym, subst, ◌∙◌}
use Rattle.heap_model.specs.Memory.{Memory}
use Rattle.heap_model.specs.Bytes.{u32_bytes, overwritten}
use Rattle.heap_model.specs.Migration.{lowered_word}
use Rattle.heap_migration.specs.Writing.{WroteChunk}
use Rattle.heap_migration.proofs.ChunkLaws.{chunk_lowered, chunk_copied}
use Rattle.heap_migration.proofs.chunks.lower_offset.Goals as goal

pub returns-then-not-is_movable-clause-wrote : goal.returns-then-not-is_movable-clause-wrote
returns-then-not-is_movable-clause-wrote c =
    let image : List ℕ = c.args.image.now.bytes in
    let was : List ℕ = c.args.grown.now.bytes in
    subst (λ (n : ℕ). WroteChunk image was was c.args.by c.args.at n) (sym c.at_with_size-header.ensures.size)
    (chunk_copied image was c.args.by c.args.at c.at_with_size-header.result.0 c.requires.copied c.at_with_size-header.ensures.header (sym c.is_movable.ensures ∙ c.if-not-is_movable.true))

pub returns-clause-wrote : goal.returns-clause-wrote
returns-clause-wrote c =
    let image : List ℕ = c.args.image.now.bytes in
    let was : List ℕ = c.args.grown.now.bytes in
    let word = c.lowered-word.ensures ∙ ap (lowered_word c.args.by) c.get_u32.ensures in
    subst (λ (n : ℕ). WroteChunk image was c.put_u32.new.self.bytes c.args.by c.args.at n) (sym c.at_with_size-header.ensures.size)
    (chunk_lowered image was c.put_u32.new.self.bytes c.args.by c.args.at c.at_with_size-header.result.0 c.requires.few c.requires.len c.requires.copied c.at_with_size-header.ensures.header (sym c.is_movable.ensures ∙ c.if-not-is_movable.false)
    (ap (λ (m : Memory). m.bytes) c.put_u32.ensures.after ∙ ap (λ (n : ℕ). overwritten was (c.args.at + 4 + c.args.by) (u32_bytes n)) word))
