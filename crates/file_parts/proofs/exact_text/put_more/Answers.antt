-- `put_more` writes the lines from the bytes after the name on, by the contracts of its calls.
use Rattle.file_parts.proofs.AllWords.{◌++◌, is_ok, then, stops, filler_text, order_text}
use Rattle.file_parts.proofs.exact_text.put_more.Goals as goal

pub returns-in-Ok : goal.returns-in-Ok
returns-in-Ok g c =
    let file = c.args.unpacked.now.file in
    then g.W.Write.contents c.args.out.now c.put_after_name.new.out c.put_placing.new.out _ _
    (is_ok c.put_placing.result) c.in-Ok.ensures c.put_placing.ensures

pub returns-in-Err : goal.returns-in-Err
returns-in-Err g c =
    let file = c.args.unpacked.now.file in
    stops g.W.Write.contents c.args.out.now c.put_after_name.new.out _
    (filler_text file ++ order_text c.args.unpacked.now.ranks.items) c.in-Err.ensures
