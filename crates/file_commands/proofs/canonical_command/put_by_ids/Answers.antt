use Rattle.std.proofs.Common.{rules}
use Rattle.file_commands.proofs.Printed.{flush_fails, puts_whole}
use Rattle.file_commands.proofs.canonical_command.put_by_ids.Goals as goal

pub returns-in-Ok : goal.returns-in-Ok
returns-in-Ok g c = record {
  done = puts_whole g.W.Write.contents c.args.file_out.now c.put_form.new.file_out c.flushed.new.out c.args.file.now _ c.changes_by-changes.ensures.changes c.in_ok-count.ensures.done c.in-Ok.ensures;
  why = tt;
  untouched = tt;
  write = λ e. cc;
  short = λ e. cc;
}

pub returns-in-Err : goal.returns-in-Err
returns-in-Err g c = record {
  done = search rules;
  why = search rules;
  untouched = search rules;
  write = λ _. flush_fails g.W.Write.contents c.args.file_out.now c.put_form.new.file_out c.flushed.new.out c.args.file.now c.in_ok-count.count c.in_ok-count.ensures.done c.in-Err.ensures;
  short = search rules;
}
