-- `put_body` writes the lines after those of the header, by the contracts of its calls.
use Rattle.file_parts.proofs.AllWords.{List, ℕ, ◌++◌, None, get_or, codes, is_ok, blocks_in, entries_read, then, stops, app_name, sort_name, info_line, name_if_data, named_entries, entry_lines}
use Rattle.file_parts.proofs.text.put_body.Goals as goal

pub returns-in-Ok : goal.returns-in-Ok
returns-in-Ok g c =
    let file = c.args.file.now in
    let infos : List ℕ =
    info_line (codes "app") (name_if_data app_name (get_or (blocks_in file) 0 None))
    ++ info_line (codes "sort") (name_if_data sort_name (get_or (blocks_in file) 1 None)) in
    then g.W.Write.contents c.args.out.now c.put_infos.new.out c.put_entries.new.out _ _
    (is_ok c.put_entries.result) c.in-Ok.ensures c.put_entries.ensures

pub returns-in-Err : goal.returns-in-Err
returns-in-Err g c =
    let file = c.args.file.now in
    let infos : List ℕ =
    info_line (codes "app") (name_if_data app_name (get_or (blocks_in file) 0 None))
    ++ info_line (codes "sort") (name_if_data sort_name (get_or (blocks_in file) 1 None)) in
    stops g.W.Write.contents c.args.out.now c.put_infos.new.out _
    (entry_lines (named_entries 0 (entries_read file c.args.ids.now))) c.in-Err.ensures
