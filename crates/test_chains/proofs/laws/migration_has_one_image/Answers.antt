use Rattle.test_chains.proofs.OneImage.{one_image}
use Rattle.test_chains.proofs.laws.migration_has_one_image.Goals as goal

pub returns : goal.returns
returns c = one_image
