use Rattle.std.proofs.Common.{◌∙◌, [], subst}
use Rattle.std.proofs.lemmas.List.{get_or_default}
use Rattle.heap_model.specs.Files.{HasNoFault}
use Rattle.store_commands.proofs.imports.open_at.Goals as goal

pub returns-in-Ok-clause-good : goal.returns-in-Ok-clause-good
returns-in-Ok-clause-good g c =
    subst HasNoFault (c.as_slice.ensures ∙ c.index-files-index.is ∙ get_or_default c.args.files.now c.args.index _ [] c.requires.inside) c.in-Ok.ensures.good
