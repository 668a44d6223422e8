-- `put_text` writes the text of the database that is read from a file, with the names of its parts.
use Rattle.file_parts.proofs.AllWords.{rules, is_ok, header_values, then, stops, header_lines}
use Rattle.file_parts.proofs.Wholes.{rest_of, text_is}
use Rattle.file_parts.proofs.text.put_text.Goals as goal

pub returns-in-Ok : goal.returns-in-Ok
returns-in-Ok g c =
    let file = c.args.unpacked.now.file in
    let given = c.args.unpacked.now.given in
    let header = header_values c.header_with_seed-header.result in
    rw (text_is file given.ids.items given.seed header c.header_with_seed-header.ensures.values) at
    (then g.W.Write.contents c.args.out.now c.put_header.new.out c.put_body.new.out (header_lines header)
    (rest_of file given.ids.items) (is_ok c.put_body.result) c.in-Ok.ensures (search rules))

pub returns-in-Err : goal.returns-in-Err
returns-in-Err g c =
    let file = c.args.unpacked.now.file in
    let given = c.args.unpacked.now.given in
    let header = header_values c.header_with_seed-header.result in
    rw (text_is file given.ids.items given.seed header c.header_with_seed-header.ensures.values) at
    (stops g.W.Write.contents c.args.out.now c.put_header.new.out (header_lines header)
    (rest_of file given.ids.items) c.in-Err.ensures)
