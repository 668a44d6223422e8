use Rattle.std.proofs.Common.{rules, true, false}
use Rattle.file_parts.specs.declared.replaced.ReplaceFault.TheVariants.{TooLarge, EmptyPart}
use Rattle.file_commands.proofs.PutStatuses.{told_fault}
use Rattle.file_commands.proofs.put_command.say_replace_fault.Goals as goal

pub returns-in-TooLarge-clause-refused : goal.returns-in-TooLarge-clause-refused
returns-in-TooLarge-clause-refused g c = λ e. told_fault g.V.Write.contents c.args.fault TooLarge c.args.out.now c.say.new.out true (search rules) (λ same. cc) (c.say.ensures.said e)

pub returns-in-TooLarge-clause-write : goal.returns-in-TooLarge-clause-write
returns-in-TooLarge-clause-write g c = λ e. told_fault g.V.Write.contents c.args.fault TooLarge c.args.out.now c.say.new.out false (search rules) (λ same. cc) (c.say.ensures.fault e)

pub returns-in-EmptyPart-clause-refused : goal.returns-in-EmptyPart-clause-refused
returns-in-EmptyPart-clause-refused g c = λ e. told_fault g.V.Write.contents c.args.fault EmptyPart c.args.out.now c.say-in-EmptyPart.new.out true (search rules) (λ same. cc) (c.say-in-EmptyPart.ensures.said e)

pub returns-in-EmptyPart-clause-write : goal.returns-in-EmptyPart-clause-write
returns-in-EmptyPart-clause-write g c = λ e. told_fault g.V.Write.contents c.args.fault EmptyPart c.args.out.now c.say-in-EmptyPart.new.out false (search rules) (λ same. cc) (c.say-in-EmptyPart.ensures.fault e)
