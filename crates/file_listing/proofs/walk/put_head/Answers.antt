use Rattle.std.proofs.Common.{List, subst}
use Rattle.std.specs.Prelude.{is_ok}
use Rattle.std.specs.List.{flat_map}
use Rattle.palm_text.specs.Counted.{Writes}
use Rattle.file_listing.specs.declared.rows.Row.{Row}
use Rattle.file_listing.specs.Listing.{first_rows}
use Rattle.file_listing.proofs.RowTexts.{head_same}
use Rattle.file_listing.proofs.walk.put_head.Goals as goal

pub returns : goal.returns
unfolding first_rows
returns g c =
    let rows = head_same c.args.facts.now _ _ _ _ _ _ _ _ c.size.ensures c.header-header.ensures.values c.info_of.ensures c.info_of-2.ensures in
    subst (λ (rows : List Row). Writes g.W.Write.contents c.args.out.now c.put_rows.new.out (flat_map (g.N.Notation.row_text c.args.notation.now) rows) (is_ok c.put_rows.result)) rows c.put_rows.ensures
