-- `put_tail` of `ListedFolder` meets its contract, by the contracts of its calls.
use Rattle.file_parts.proofs.either.ListedFolder.put_tail.Goals as goal

pub returns-in-Exact : goal.returns-in-Exact
returns-in-Exact g c =
    rw c.in-Exact.is c.put_tail.ensures
