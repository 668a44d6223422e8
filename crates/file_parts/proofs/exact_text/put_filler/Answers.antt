-- `put_filler` writes the line of the filler, by the laws of ExactHeads.
use Rattle.file_parts.proofs.AllLaws.{◌≡◌, List, ℕ, false, length, sym, ap, ◌∙◌, ◌==◌, filler_in, filler_some}
use Rattle.file_parts.proofs.exact_text.put_filler.Goals as goal

pub returns-else-is_empty : goal.returns-else-is_empty
returns-else-is_empty g c =
    let file : List ℕ = c.args.file.now in
    let some : (length (filler_in file) == 0) ≡ false = ap (λ (xs : List ℕ). length xs == 0)
    (sym c.filler.ensures) ∙ sym c.is_empty.ensures ∙ c.if-is_empty.false in
    rw (filler_some file some) c.put_pieces-else-is_empty.ensures
