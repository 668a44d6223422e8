use Rattle.std.proofs.Common.{List, ℕ, true, false, subst}
use Rattle.std.specs.Prelude.{OnOk}
use Rattle.file_listing.specs.Listing.{WritesListing}
use Rattle.file_listing.proofs.listing.put_listing.Goals as goal

pub returns-in-Ok-clause-done : goal.returns-in-Ok-clause-done
returns-in-Ok-clause-done g c =
    subst (λ (file : List ℕ). OnOk c.put_opened.result (WritesListing (g.N.Notation.row_text c.args.notation.now) file g.W.Write.contents c.args.out.now c.put_opened.new.out true)) c.in-Ok.ensures.opened c.put_opened.ensures.done

pub returns-in-Ok-clause-write : goal.returns-in-Ok-clause-write
returns-in-Ok-clause-write g c = λ is.
    subst (λ (file : List ℕ). WritesListing (g.N.Notation.row_text c.args.notation.now) file g.W.Write.contents c.args.out.now c.put_opened.new.out false) c.in-Ok.ensures.opened (c.put_opened.ensures.write is)
