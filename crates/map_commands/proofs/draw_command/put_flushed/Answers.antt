use Rattle.std.proofs.Common.{rules}
use Rattle.map_commands.proofs.Drawn.{flush_fails, flushed}
use Rattle.map_commands.proofs.draw_command.put_flushed.Goals as goal

pub returns-in-Ok : goal.returns-in-Ok
returns-in-Ok g c = record {
  accepted = c.in_ok-put_svg.ensures.accepted;
  done = flushed c.args.region.now.bytes g.W.Write.contents c.args.file_out.now c.put_svg.new.out c.flush.new.self c.in_ok-put_svg.ensures.done c.in-Ok.ensures;
  why = tt;
  untouched = tt;
  write = λ e. cc;
  short = λ e. cc;
}

pub returns-in-Err : goal.returns-in-Err
returns-in-Err g c = record {
  accepted = search rules;
  done = search rules;
  why = search rules;
  untouched = search rules;
  write = λ is. flush_fails c.args.region.now.bytes g.W.Write.contents c.args.file_out.now c.put_svg.new.out c.flush.new.self c.in_ok-put_svg.ensures.done c.in-Err.ensures;
  short = search rules;
}
