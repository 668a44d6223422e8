use Rattle.std.proofs.Common.{true, false}
use Rattle.file_commands.proofs.Printed.{puts_fault}
use Rattle.file_commands.proofs.faults.say_fault.Goals as goal

pub returns-clause-refused : goal.returns-clause-refused
returns-clause-refused g c = λ is.
    puts_fault g.V.Write.contents (g.N.Notation.row_text c.args.notation.now) c.args.out.now c.said.new.out (g.B.FileBytes.bytes c.args.file.now) c.args.fault true c.requires.first (c.said.ensures.said is _ _ c.put_fault.ensures)

pub returns-clause-write : goal.returns-clause-write
returns-clause-write g c = λ is.
    puts_fault g.V.Write.contents (g.N.Notation.row_text c.args.notation.now) c.args.out.now c.said.new.out (g.B.FileBytes.bytes c.args.file.now) c.args.fault false c.requires.first (c.said.ensures.fault is _ _ c.put_fault.ensures)
