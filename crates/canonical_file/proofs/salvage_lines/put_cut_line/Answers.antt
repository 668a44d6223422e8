-- `put_cut_line` writes the line about the number of entries, if the file ends before they do, by
-- the laws of SalvageTexts.
use Rattle.canonical_file.specs.Salvage.{count_line, has_all_entries}
use Rattle.canonical_file.proofs.SalvageTexts.{writes_no_word, writes_one_word}
use Rattle.canonical_file.proofs.salvage_lines.put_cut_line.Goals as goal

pub returns-then-has_all_entries : goal.returns-then-has_all_entries
returns-then-has_all_entries g c =
    let file = c.args.file.now in
    writes_no_word g.W.Write.contents c.args.out.now c.has_all_entries.result (has_all_entries file)
    (count_line file) c.has_all_entries.ensures c.if-has_all_entries.true

pub returns : goal.returns
returns g c =
    let file = c.args.file.now in
    writes_one_word g.W.Write.contents c.args.out.now c.put_count_line.new.out _
    c.has_all_entries.result (has_all_entries file) (count_line file) c.has_all_entries.ensures
    c.if-has_all_entries.false
    c.put_count_line.ensures
