-- `put_infos` writes the lines of the info blocks, by the contracts of its calls.
use Rattle.file_parts.proofs.AllWords.{None, get_or, codes, is_ok, blocks_in, then, stops, sort_name, info_line, name_if_data}
use Rattle.file_parts.proofs.text.put_infos.Goals as goal

pub returns-in-Ok : goal.returns-in-Ok
returns-in-Ok g c =
    let file = c.args.file.now in
    then g.W.Write.contents c.args.out.now c.put_app.new.out c.put_sort.new.out _ _
    (is_ok c.put_sort.result) c.in-Ok.ensures c.put_sort.ensures

pub returns-in-Err : goal.returns-in-Err
returns-in-Err g c =
    let file = c.args.file.now in
    stops g.W.Write.contents c.args.out.now c.put_app.new.out _ (info_line (codes "sort")
    (name_if_data sort_name (get_or (blocks_in file) 1 None))) c.in-Err.ensures
