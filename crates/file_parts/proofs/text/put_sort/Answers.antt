-- `put_sort` writes the line of the SortInfo block, by the contracts of its calls.
use Rattle.file_parts.proofs.AllWords.{List, ℕ, Option, ap, codes, sort_name, info_line, name_if_data}
use Rattle.file_parts.proofs.text.put_sort.Goals as goal

pub returns : goal.returns
returns g c =
    let line =
    ap (λ (block : Option (List ℕ)). info_line (codes "sort") (name_if_data sort_name block))
    c.block.ensures.is in
    rw line at (c.put_info.ensures c.args.file.now)
