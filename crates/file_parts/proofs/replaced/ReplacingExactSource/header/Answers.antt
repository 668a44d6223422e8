-- `header` of `ReplacingExactSource` meets its contract.
use Rattle.file_parts.proofs.AllWords.{sym, ◌∙◌, length-entries_in, database_in, exact_database}
use Rattle.file_parts.proofs.ExactFits.{file_name}
use Rattle.file_parts.proofs.ReplacedFiles.{entry_count}
use Rattle.file_parts.proofs.replaced.ReplacingExactSource.header.Goals as goal

pub returns-clause-values : goal.returns-clause-values
unfolding exact_database
returns-clause-values c = c.header.ensures.values

pub returns-clause-entry_count : goal.returns-clause-entry_count
unfolding database_in
returns-clause-entry_count c = c.header.ensures.is.entry_count
    ∙ length-entries_in c.args.self.now.unpacked.file ∙ sym (entry_count c.args.self.now)

pub returns-clause-name : goal.returns-clause-name
returns-clause-name c = file_name c.args.self.now.unpacked.file c.requires.good.good
