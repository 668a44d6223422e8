use Rattle.chunk_format.proofs.EmptyLaws.{blank_accepted, blank_means, blank_empty}
use Rattle.chunk_format.proofs.laws.blank_images_are_empty.Goals as goal

pub returns : goal.returns
returns c = λ size slots image blank. (blank_accepted size slots image blank, blank_means size slots image blank, blank_empty size slots image blank)
