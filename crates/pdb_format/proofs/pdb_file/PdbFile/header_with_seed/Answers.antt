-- `header_with_seed` returns the header as it is read, with this seed, by the laws of ReadHeaders.
use Rattle.std.proofs.Common.{◌≡◌, ℕ, List, subst, sym}
use Rattle.heap_model.specs.Database.{IsDatabaseName, entry_count_in}
use Rattle.db_format.specs.Headers.{header_values}
use Rattle.pdb_format.specs.ReadFiles.{header_read}
use Rattle.pdb_format.proofs.FileNames.{file_named}
use Rattle.pdb_format.proofs.ReadHeaders.{header_is, name_is, count_is}
use Rattle.pdb_format.proofs.pdb_file.PdbFile.header_with_seed.Goals as goal

pub header-header-requires-clause-name : goal.header-header-requires-clause-name
header-header-requires-clause-name g c = file_named _ c.self.invariant.good

pub returns-clause-values : goal.returns-clause-values
returns-clause-values g c =
    subst (λ (file : List ℕ).
    record (header_values c.header-header.result) { seed = c.with_seed.result } ≡ header_read file c.args.seed)
    c.self.view_is
    (header_is (g.B.FileBytes.bytes c.self.inside.bytes) c.header-header.result c.args.seed
    c.with_seed.result c.header-header.ensures c.with_seed.ensures)

pub returns-clause-entry_count : goal.returns-clause-entry_count
returns-clause-entry_count g c =
    rw c.self.view_is at (count_is
    (g.B.FileBytes.bytes c.self.inside.bytes) c.header-header.result c.header-header.ensures)

pub returns-clause-name : goal.returns-clause-name
returns-clause-name g c =
    subst IsDatabaseName
    (sym (name_is (g.B.FileBytes.bytes c.self.inside.bytes) c.header-header.result c.header-header.ensures))
    (file_named _ c.self.invariant.good)
