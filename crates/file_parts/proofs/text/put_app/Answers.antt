-- `put_app` writes the line of the AppInfo block, by the contracts of its calls.
use Rattle.file_parts.proofs.AllWords.{List, ℕ, Option, ap, codes, app_name, info_line, name_if_data}
use Rattle.file_parts.proofs.text.put_app.Goals as goal

pub returns : goal.returns
returns g c =
    let line =
    ap (λ (block : Option (List ℕ)). info_line (codes "app") (name_if_data app_name block))
    c.block.ensures.is in
    rw line at (c.put_info.ensures c.args.file.now)
