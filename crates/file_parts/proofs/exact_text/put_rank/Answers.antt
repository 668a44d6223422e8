-- `put_rank` writes the line `order` of a rank, by the contracts of its calls.
use Rattle.file_parts.proofs.exact_text.put_rank.Goals as goal

pub returns : goal.returns
returns g c =
    rw c.rank_piece.ensures at c.put_pieces.ensures
