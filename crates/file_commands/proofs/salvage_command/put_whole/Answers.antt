use Rattle.file_commands.proofs.Salvaging.{salvage_flush_fails}
use Rattle.file_commands.proofs.salvage_command.put_whole.Goals as goal

pub returns-in-Err-clause-write : goal.returns-in-Err-clause-write
returns-in-Err-clause-write g c = λ _.
    salvage_flush_fails g.W.Write.contents c.args.rule c.args.file_out.now c.put_salvaged.new.out c.flushed.new.out c.args.file.now c.in_ok-count.count c.in_ok-count.ensures.done c.in-Err.ensures
