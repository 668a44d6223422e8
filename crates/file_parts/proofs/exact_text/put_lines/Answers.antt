-- `put_lines` writes the lines before those of the database, by the contracts of its calls.
use Rattle.file_parts.proofs.AllWords.{◌++◌, List, ℕ, is_ok, then, stops, exact_lines, after_name_text, filler_text, order_text}
use Rattle.file_parts.proofs.exact_text.put_lines.Goals as goal

pub returns-in-Ok : goal.returns-in-Ok
unfolding exact_lines
returns-in-Ok g c =
    let file = c.args.unpacked.now.file in
    let more : List ℕ =
    after_name_text file ++ (filler_text file ++ order_text c.args.unpacked.now.ranks.items) in
    then g.W.Write.contents c.args.out.now c.put_pieces.new.out c.put_more.new.out _ _
    (is_ok c.put_more.result) c.in-Ok.ensures c.put_more.ensures

pub returns-in-Err : goal.returns-in-Err
unfolding exact_lines
returns-in-Err g c =
    let file = c.args.unpacked.now.file in
    let more : List ℕ =
    after_name_text file ++ (filler_text file ++ order_text c.args.unpacked.now.ranks.items) in
    stops g.W.Write.contents c.args.out.now c.put_pieces.new.out _ more c.in-Err.ensures
