use Rattle.std.proofs.Common.{◌≡◌, ◌%◌, ◌++◌, List, [], ℕ, refl, subst, append-nil}
use Rattle.std.specs.Prelude.{codes, is_ok}
use Rattle.palm_text.specs.Counted.{Writes}
use Rattle.file_listing.specs.Moments.{date_text, time_text, utc_text}
use Rattle.file_listing.proofs.moments.put_utc.Goals as goal

pub returns : goal.returns
returns g c =
    let moment = c.args.moment.now in
    let after = c.args.after.now in
    let text : c.args.before.now ++ date_text c.year_of-year.result c.from-month.result c.from-day.result (codes " " ++ time_text (moment.seconds % 86400) (after ++ [])) ≡ c.args.before.now ++ utc_text moment after
    = rw (append-nil after, c.year_of-year.ensures, c.from-month.ensures, c.from-day.ensures) refl in
    subst (λ (text : List ℕ). Writes g.W.Write.contents c.args.out.now c.put_pieces.new.out text (is_ok c.put_pieces.result)) text c.put_pieces.ensures
