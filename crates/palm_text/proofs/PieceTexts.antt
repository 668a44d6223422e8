-- The text of pieces is that of each, one after another.
use Rattle.std.proofs.Common.{◌≡◌, ℕ, List, [], ◌∷◌, ◌++◌, Option, Bool, refl, ap, subst}
use Rattle.std.specs.List.{flat_map}
use Rattle.palm_text.specs.Counted.{Writing, Writes}
use Rattle.palm_text.specs.declared.pieces.Piece.{Piece}
use Rattle.palm_text.specs.Pieces.{piece_text, text_of_pieces}

text_is : (pieces : List Piece) → flat_map piece_text pieces ≡ text_of_pieces pieces
text_is [] = refl
text_is (piece ∷ pieces) = ap (λ (text : List ℕ). piece_text piece ++ text) (text_is pieces)

pub put_all_of : {W : Type 0} (contents : W → Option (List ℕ)) (old new : Writing W) (pieces : List Piece) (ok : Bool) → Writes contents old new (flat_map piece_text pieces) ok → Writes contents old new (text_of_pieces pieces) ok
put_all_of contents old new pieces ok w = subst (λ (text : List ℕ). Writes contents old new text ok) (text_is pieces) w
