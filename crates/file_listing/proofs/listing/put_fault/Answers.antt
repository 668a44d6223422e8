use Rattle.std.proofs.Common.{ℕ, subst}
use Rattle.std.specs.Prelude.{is_ok}
use Rattle.palm_text.specs.Counted.{Writes}
use Rattle.file_listing.specs.declared.rows.Row.TheVariants.{Fault}
use Rattle.file_listing.proofs.listing.put_fault.Goals as goal

pub returns : goal.returns
returns g c =
    subst (λ (at : ℕ). Writes g.W.Write.contents c.args.out.now c.put_row.new.out (g.N.Notation.row_text c.args.notation.now (Fault c.args.fault at)) (is_ok c.put_row.result)) c.fault_place-at.ensures.is c.put_row.ensures
