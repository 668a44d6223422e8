use Rattle.std.proofs.Common.{false, rules}
use Rattle.file_commands.proofs.Printed.{puts_listing, listing_stops}
use Rattle.file_commands.proofs.list_command.put_flushed.Goals as goal

pub returns-in-Err-clause-write : goal.returns-in-Err-clause-write
returns-in-Err-clause-write g c = λ _.
    puts_listing g.V.Write.contents (g.N.Notation.row_text c.args.notation.now) c.args.out.now c.put_listing.new.out c.flushed.new.out (g.B.FileBytes.bytes c.args.file.now) false c.in_ok-put_listing.ensures.good c.in_ok-put_listing.ensures.done c.in-Err.ensures

pub returns-in_err-put_listing-clause-write : goal.returns-in_err-put_listing-clause-write
returns-in_err-put_listing-clause-write g c = λ is.
    listing_stops g.V.Write.contents (g.N.Notation.row_text c.args.notation.now) c.args.out.now c.put_listing.new.out (g.B.FileBytes.bytes c.args.file.now) (search rules) (c.put_listing.ensures.write (search rules))
