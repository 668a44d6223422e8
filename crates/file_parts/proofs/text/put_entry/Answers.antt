-- `put_entry` writes the line of the entry at an index, by the laws of EntryLines.
use Rattle.file_parts.proofs.AllLaws.{◌+◌, List, ℕ, Option, None, get_or, sym, ◌∙◌, is_ok, Entry, entry_data, entry_in, blocks_in, then, stops, entry_of, bytes_at, entry_read_at, data_read, entry_name, name_if_data, part_text, any_part, line_joined}
use Rattle.file_parts.proofs.text.put_entry.Goals as goal

pub returns-in-Err : goal.returns-in-Err
returns-in-Err g c =
    let file = c.args.file.now in
    let i = c.args.index in
    let name : List ℕ = entry_name i in
    let e : Entry (Option (List ℕ)) = entry_read_at file c.args.ids.now i in
    let block : Option (List ℕ) = bytes_at file c.block-block.result in
    let is_block = c.block-block.ensures.is ∙ sym (data_read (entry_in file i)
    (get_or c.args.ids.now i 0) (get_or (blocks_in file) (2 + i) None)) in
    rw (line_joined name e (entry_of c.written_entry.result) block
    (any_part (entry_of c.written_entry.result) e c.written_entry.ensures.is) is_block) at
    (stops g.W.Write.contents c.args.out.now c.put_values.new.out _
    (part_text (name_if_data name block)) (c.in-Err.ensures (name_if_data name (entry_data e))))

pub returns-in-Ok : goal.returns-in-Ok
returns-in-Ok g c =
    let file = c.args.file.now in
    let i = c.args.index in
    let name : List ℕ = entry_name i in
    let e : Entry (Option (List ℕ)) = entry_read_at file c.args.ids.now i in
    let block : Option (List ℕ) = bytes_at file c.block-block.result in
    let is_block = c.block-block.ensures.is ∙ sym (data_read (entry_in file i)
    (get_or c.args.ids.now i 0) (get_or (blocks_in file) (2 + i) None)) in
    rw (line_joined name e (entry_of c.written_entry.result) block
    (any_part (entry_of c.written_entry.result) e c.written_entry.ensures.is) is_block) at
    (then g.W.Write.contents c.args.out.now c.put_values.new.out c.put_part.new.out _ _
    (is_ok c.put_part.result) (c.in-Ok.ensures (name_if_data name (entry_data e)))
    (c.put_part.ensures file))
