-- `seed` returns the seed of the unique IDs: the low 24 bits of its field, by the contracts of its
-- calls.
use Rattle.std.proofs.Common.{ℕ, List, ap, ◌∙◌}
use Rattle.std.proofs.lemmas.Nat.{and_mask}
use Rattle.heap_model.specs.Bytes.{u32_at}
use Rattle.heap_model.specs.DatabaseFields.{seed_at}
use Rattle.heap_model.specs.Database.{header_in}
use Rattle.heap_model.specs.UniqueIds.{seed_in}
use Rattle.pdb_format.proofs.pdb_file.PdbFile.seed.Goals as goal

pub returns-clause-is : goal.returns-clause-is
unfolding header_in
returns-clause-is g c =
    and_mask c.seed.result 24
    ∙ ap seed_in (c.seed.ensures ∙ ap (λ (file : List ℕ). u32_at file seed_at) c.self.view_is)
