-- `put_exact` writes the text `database` of a file that was taken apart as it stands.
use Rattle.file_parts.proofs.AllWords.{is_ok, then, stops, database_text, ExactText, exact_text, text_of_exact, exact_of}
use Rattle.file_parts.proofs.exact_text.put_exact.Goals as goal

pub returns-in-Ok : goal.returns-in-Ok
unfolding exact_text
returns-in-Ok g c =
    let text : ExactText = text_of_exact (exact_of c.args.unpacked.now) in
    then g.W.Write.contents c.args.out.now c.put_lines.new.out c.put_database_lines.new.out _ _
    (is_ok c.put_database_lines.result) c.in-Ok.ensures c.put_database_lines.ensures

pub returns-in-Err : goal.returns-in-Err
unfolding exact_text
returns-in-Err g c =
    let text : ExactText = text_of_exact (exact_of c.args.unpacked.now) in
    stops g.W.Write.contents c.args.out.now c.put_lines.new.out _
    (database_text text.database) c.in-Err.ensures
