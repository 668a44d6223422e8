-- `put_text` writes the text `database`, by the contracts of its calls.
use Rattle.file_parts.proofs.either.TakenApart.put_text.Goals as goal

pub returns-in-Canonical : goal.returns-in-Canonical
returns-in-Canonical g c =
    rw c.in-Canonical.is
    (λ text is. rw is.2 (c.put_database.ensures is.0 is.1))
