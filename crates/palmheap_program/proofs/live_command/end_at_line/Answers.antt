use Rattle.std.proofs.Common.{is_ok}
use Rattle.palmheap_program.proofs.LiveEnds.{at_line_said, at_line_short}
use Rattle.palmheap_program.proofs.live_command.end_at_line.Goals as goal

pub returns-in-NoMemory-clause-ends : goal.returns-in-NoMemory-clause-ends
returns-in-NoMemory-clause-ends g c =
    at_line_short g.V.Write.contents c.args.out.now c.say_line_fault.new.out _ c.args.fault (is_ok c.flush.result) (c.say_line_fault.ensures.short (cc)) (c.say_line_fault.ensures.no_memory (cc)) c.flush.ensures

pub returns-in_default-clause-ends : goal.returns-in_default-clause-ends
returns-in_default-clause-ends g c =
    at_line_said g.V.Write.contents c.args.out.now c.say_line_fault.new.out c.args.fault c.say_line_fault.result c.in_default.not-NoMemory c.say_line_fault.ensures.status c.say_line_fault.ensures.said c.say_line_fault.ensures.fault
