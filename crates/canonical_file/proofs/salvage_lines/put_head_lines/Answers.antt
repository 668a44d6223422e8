-- `put_head_lines` writes the lines about the number of entries, a further list, and the name, by
-- the laws of Parts.
use Rattle.std.proofs.Common.{◌∙◌, ◌++◌, ℕ, List, [], ap, subst}
use Rattle.std.specs.Prelude.{is_ok}
use Rattle.std.proofs.lemmas.List.{append-nil}
use Rattle.palm_text.specs.Counted.{Writes}
use Rattle.palm_text.specs.Pieces.{piece_text}
use Rattle.palm_text.proofs.Parts.{then}
use Rattle.canonical_file.specs.Salvage.{chain_line, cut_line, name_line}
use Rattle.canonical_file.proofs.salvage_lines.put_head_lines.Goals as goal

pub returns : goal.returns
returns g c =
    let file = c.args.file.now in
    then g.W.Write.contents c.args.out.now c.put_cut_line.new.out c.put_pieces.new.out
    (cut_line file) (chain_line file ++ name_line file) (is_ok c.put_pieces.result)
    c.in_ok-put_cut_line.ensures
    (subst (λ (text : List ℕ). Writes g.W.Write.contents c.put_cut_line.new.out c.put_pieces.new.out text (is_ok c.put_pieces.result))
    (ap (λ (xs : List ℕ). xs ++ (piece_text c.name_piece.result ++ [])) c.chain_piece.ensures
    ∙ ap (λ (xs : List ℕ). chain_line file ++ xs)
    (append-nil (piece_text c.name_piece.result) ∙ c.name_piece.ensures))
    c.put_pieces.ensures)
