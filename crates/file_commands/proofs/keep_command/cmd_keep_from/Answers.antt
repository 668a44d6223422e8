use Rattle.std.proofs.Common.{subst}
use Rattle.heap_model.specs.Files.{HasNoFault}
use Rattle.file_commands.proofs.Keeping.{no_room}
use Rattle.file_commands.proofs.keep_command.cmd_keep_from.Goals as goal

pub returns-in-Err-clause-ends : goal.returns-in-Err-clause-ends
returns-in-Err-clause-ends g c =
    no_room g.W.Write.contents g.V.Write.contents c.args.keep c.args.file.now c.args.file_out.now c.args.out.now
    (subst HasNoFault c.in-Ok.ensures.same c.in-Ok.ensures.done.good)
