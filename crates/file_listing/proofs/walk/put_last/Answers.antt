use Rattle.std.proofs.Common.{◌≡◌, List, [], ◌∷◌, refl, subst}
use Rattle.std.specs.Prelude.{is_ok}
use Rattle.std.specs.List.{flat_map}
use Rattle.palm_text.specs.Counted.{Writes}
use Rattle.file_listing.specs.declared.rows.Row.{Row}
use Rattle.file_listing.specs.declared.rows.Row.TheVariants.{Needs, Changed}
use Rattle.file_listing.specs.Listing.{last_rows}
use Rattle.file_listing.proofs.walk.put_last.Goals as goal

pub returns : goal.returns
returns g c =
    let rows : Needs c.size_and_slots-size.result.0 c.size_and_slots-size.result.1 ∷ Changed c.args.facts.now.changes ∷ [] ≡ last_rows c.args.file.now c.args.facts.now
    = rw (c.size_and_slots-size.ensures.size, c.size_and_slots-size.ensures.slots) refl in
    subst (λ (rows : List Row). Writes g.W.Write.contents c.args.out.now c.put_rows.new.out (flat_map (g.N.Notation.row_text c.args.notation.now) rows) (is_ok c.put_rows.result)) rows c.put_rows.ensures
