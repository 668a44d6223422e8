use Rattle.std.proofs.Common.{◌≡◌, ℕ, List, ap, subst, ◌∙◌}
use Rattle.heap_migration.specs.Growth.{growth, growth_of}
use Rattle.heap_migration.specs.Writing.{HasHead, WroteChunks}
use Rattle.heap_migration.proofs.MigrationLaws.{migrated_bytes}
use Rattle.heap_migration.proofs.migration.grown_from.Goals as goal

pub returns-clause-bytes : goal.returns-clause-bytes
returns-clause-bytes g c =
    let image : List ℕ = c.args.image.now.bytes in
    let mid : List ℕ = c.write_head.new.grown.bytes in
    let grown : List ℕ = c.write_chunks.new.grown.bytes in
    let is : c.growth-by.result ≡ growth_of image = c.growth-by.ensures.is ∙ ap growth c.slot_count.ensures in
    migrated_bytes image mid grown c.requires.accepted c.requires.one_table (subst (λ (n : ℕ). HasHead image mid n) is c.write_head.ensures.wrote) (subst (λ (n : ℕ). WroteChunks image mid grown n) is c.write_chunks.ensures.wrote)
