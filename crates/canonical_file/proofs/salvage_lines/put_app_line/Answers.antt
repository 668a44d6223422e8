-- `put_app_line` writes the line about the AppInfo block, if its offset isn't sound, by the
-- contracts of its calls.
use Rattle.std.proofs.Common.{ℕ, subst}
use Rattle.std.specs.Prelude.{codes, is_ok}
use Rattle.palm_text.specs.Counted.{Writes}
use Rattle.canonical_file.specs.Salvage.{lost_info_line}
use Rattle.canonical_file.proofs.salvage_lines.put_app_line.Goals as goal

pub returns : goal.returns
returns g c =
    subst (λ (at : ℕ).
    Writes g.W.Write.contents c.args.out.now c.put_info_line.new.out
    (lost_info_line c.args.file.now (codes "app") at) (is_ok c.put_info_line.result))
    c.app_info.ensures c.put_info_line.ensures
