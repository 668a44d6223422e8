-- `put_after_name` writes the line with the bytes after the name, if one of them isn't zero.
use Rattle.file_parts.proofs.AllLaws.{◌≡◌, ◌++◌, List, ℕ, refl, sym, ap, ◌∙◌, codes, false≢true, encode_lower, nothing, after_name_text, no_line, some_line, name_front}
use Rattle.file_parts.proofs.exact_text.put_after_name.Goals as goal

pub returns-then-has_name : goal.returns-then-has_name
returns-then-has_name g c = rw (no_line c.args.file.now (c.if-has_name.ensures.0 refl))
    (nothing g.W.Write.contents c.args.out.now)

pub returns : goal.returns
returns g c =
    let file : List ℕ = c.args.file.now in
    let line : codes "namefield " ++ (encode_lower c.after_name.result.now ++ codes "\n")
    ≡ after_name_text file = ap (λ (xs : List ℕ). codes "namefield "
    ++ (encode_lower xs ++ codes "\n")) c.after_name.ensures.is
    ∙ sym (some_line file c.after_name.ensures.long c.after_name.ensures.valid (name_front file)
    (λ has. false≢true (c.if-has_name.ensures.1 has))) in
    rw line at c.put_pieces.ensures
