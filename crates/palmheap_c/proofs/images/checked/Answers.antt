-- `checked` refuses an image with the fault of its copy.
use Rattle.palmheap_c.proofs.images.checked.Goals as goal

pub returns-in-Err-clause-refused : goal.returns-in-Err-clause-refused
returns-in-Err-clause-refused c = rw c.in-Ok.ensures.bytes at c.in-Err.ensures.refused
