-- `name_field` of `KeepingExactSource` meets its contract, by the laws of KeptSources.
use Rattle.file_parts.proofs.AllLaws.{ap, ◌∙◌, name_field, field_is, header_name}
use Rattle.file_parts.proofs.kept.KeepingExactSource.name_field.Goals as goal

pub returns : goal.returns
returns c =
    c.to_bytes.ensures.is
    ∙ ap name_field (ap (λ h. h.name) c.header.ensures.values ∙ header_name c.args.self.now.file)
    ∙ field_is c.args.self.now
