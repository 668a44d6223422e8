use Rattle.std.proofs.Common.{◌≡◌, ◌∙◌, ℕ, List, Option, Some, sym, ap, subst}
use Rattle.std.specs.Prelude.{is_ok, option_map}
use Rattle.std.specs.List.{flat_map}
use Rattle.palm_text.specs.Counted.{Writes}
use Rattle.file_listing.specs.Listing.{category_rows}
use Rattle.file_listing.proofs.walk.put_categories.Goals as goal

pub returns-in-Some : goal.returns-in-Some
returns-in-Some g c =
    let names : Some c.in-Some.app.now ≡ c.args.categories.now = sym (ap (option_map (λ app. app.now)) c.in-Some.is) ∙ c.app.ensures.is in
    subst (λ (names : Option (List ℕ)). Writes g.W.Write.contents c.args.out.now c.put_names.new.out (flat_map (g.N.Notation.row_text c.args.notation.now) (category_rows names)) (is_ok c.put_names.result)) names c.put_names.ensures
