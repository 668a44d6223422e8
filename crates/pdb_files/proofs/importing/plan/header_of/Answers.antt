-- `header_of` returns the header of a file's database with a seed.
use Rattle.pdb_files.proofs.Words.{sym, ap, subst, ◌∙◌, IsDatabaseName, DbInfo, header_asked}
use Rattle.pdb_files.proofs.importing.plan.header_of.Goals as goal

pub returns-clause-header : goal.returns-clause-header
returns-clause-header c = ap header_asked c.info.ensures ∙ c.header_with_seed.ensures.values

pub returns-clause-entry_count : goal.returns-clause-entry_count
returns-clause-entry_count c =
    ap (λ (info : DbInfo). info.entry_count) c.info.ensures ∙ c.header_with_seed.ensures.entry_count

pub returns-clause-name : goal.returns-clause-name
returns-clause-name c = subst IsDatabaseName
    (sym (ap (λ (info : DbInfo). info.name) c.info.ensures)) c.header_with_seed.ensures.name
