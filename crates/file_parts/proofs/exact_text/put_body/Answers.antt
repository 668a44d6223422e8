-- `put_body` writes the lines of the info blocks and of the entries, by the contracts of its calls.
use Rattle.file_parts.proofs.AllWords.{is_ok, then, stops, body_lines, entry_lines, info_lines, with_names, exact_database}
use Rattle.file_parts.proofs.exact_text.put_body.Goals as goal

pub returns-in-Ok : goal.returns-in-Ok
unfolding body_lines info_lines exact_database
returns-in-Ok g c =
    let d = with_names (exact_database c.args.file.now) in
    then g.W.Write.contents c.args.out.now c.put_infos.new.out c.put_entries.new.out _ _
    (is_ok c.put_entries.result) c.in-Ok.ensures c.put_entries.ensures

pub returns-in-Err : goal.returns-in-Err
unfolding body_lines info_lines exact_database
returns-in-Err g c =
    let d = with_names (exact_database c.args.file.now) in
    stops g.W.Write.contents c.args.out.now c.put_infos.new.out _
    (entry_lines d.entries) c.in-Err.ensures
