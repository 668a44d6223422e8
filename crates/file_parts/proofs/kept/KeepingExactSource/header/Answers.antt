-- `header` of `KeepingExactSource` meets its contract, by the laws of KeptSources.
use Rattle.file_parts.proofs.AllLaws.{ap, sym, ◌∙◌, header_read, file_named, entry_count, header_is, name_is}
use Rattle.file_parts.proofs.kept.KeepingExactSource.header.Goals as goal

pub returns-clause-values : goal.returns-clause-values
returns-clause-values c = c.header_with_seed.ensures.values
    ∙ ap (header_read c.args.self.now.file) c.seed_for.ensures.is ∙ sym (header_is c.args.self.now)

pub returns-clause-entry_count : goal.returns-clause-entry_count
returns-clause-entry_count c =
    c.header_with_seed.ensures.entry_count ∙ sym (entry_count c.args.self.now)

pub returns-clause-name : goal.returns-clause-name
returns-clause-name c =
    rw (name_is c.args.self.now) (file_named c.args.self.now.file c.requires.good)
