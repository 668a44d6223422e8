-- `put_database_lines` writes the lines of the header, the info blocks and the entries, as they
-- stand.
use Rattle.file_parts.proofs.AllWords.{List, ℕ, is_ok, then, stops, body_lines, database_text, with_names, exact_database}
use Rattle.file_parts.proofs.exact_text.put_database_lines.Goals as goal

pub returns-in-Ok : goal.returns-in-Ok
unfolding database_text exact_database
returns-in-Ok g c =
    let body : List ℕ = body_lines (with_names (exact_database c.args.file.now)) in
    rw c.header.ensures.values at (then g.W.Write.contents c.args.out.now c.put_header.new.out
    c.put_body.new.out _ _ (is_ok c.put_body.result) c.in-Ok.ensures c.put_body.ensures)

pub returns-in-Err : goal.returns-in-Err
unfolding database_text exact_database
returns-in-Err g c =
    let body : List ℕ = body_lines (with_names (exact_database c.args.file.now)) in
    rw c.header.ensures.values at
    (stops g.W.Write.contents c.args.out.now c.put_header.new.out _ body c.in-Err.ensures)
