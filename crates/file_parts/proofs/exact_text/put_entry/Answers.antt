-- `put_entry` writes the line of the entry at an index, by the laws of EntryLines and ExactHeads.
use Rattle.file_parts.proofs.AllLaws.{List, ℕ, Option, sym, ap, ◌∙◌, is_ok, Entry, entry_data, entry_in, entry_with, then, stops, entry_of, bytes_at, entry_name, name_if_data, part_text, exact_entry, line_joined, with_twice, data_with}
use Rattle.file_parts.proofs.exact_text.put_entry.Goals as goal

pub returns-in-Err : goal.returns-in-Err
returns-in-Err g c =
    let file = c.args.file.now in
    let i = c.args.index in
    let name : List ℕ = entry_name i in
    let e : Entry (Option (List ℕ)) = exact_entry file i in
    let block : Option (List ℕ) = bytes_at file c.block-block.result in
    let is_block = c.block-block.ensures.is ∙ sym (data_with (entry_in file i) _) in
    rw (line_joined name e (entry_of c.entry.result) block (λ part. ap (entry_with {Data = ℕ} (λ _.
    part)) c.entry.ensures.is ∙ with_twice (entry_in file i) _ part) is_block) at
    (stops g.W.Write.contents c.args.out.now c.put_values.new.out _
    (part_text (name_if_data name block)) (c.in-Err.ensures (name_if_data name (entry_data e))))

pub returns-in-Ok : goal.returns-in-Ok
returns-in-Ok g c =
    let file = c.args.file.now in
    let i = c.args.index in
    let name : List ℕ = entry_name i in
    let e : Entry (Option (List ℕ)) = exact_entry file i in
    let block : Option (List ℕ) = bytes_at file c.block-block.result in
    let is_block = c.block-block.ensures.is ∙ sym (data_with (entry_in file i) _) in
    rw (line_joined name e (entry_of c.entry.result) block (λ part. ap (entry_with {Data = ℕ} (λ _.
    part)) c.entry.ensures.is ∙ with_twice (entry_in file i) _ part) is_block) at
    (then g.W.Write.contents c.args.out.now c.put_values.new.out c.put_part.new.out _ _
    (is_ok c.put_part.result) (c.in-Ok.ensures (name_if_data name (entry_data e)))
    (c.put_part.ensures file))
