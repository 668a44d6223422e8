use Rattle.store_commands.proofs.Imported.{stopped}
use Rattle.store_commands.proofs.imports.filled_with.Goals as goal

pub returns-in-Err-clause-why : goal.returns-in-Err-clause-why
returns-in-Err-clause-why g c =
    stopped c.args.choice c.args.files.now c.in_ok-image.image c.in_ok-store.store c.in-Err.why c.requires c.in_ok-image.ensures.image c.in_ok-store.ensures.made c.in-Err.ensures.why
