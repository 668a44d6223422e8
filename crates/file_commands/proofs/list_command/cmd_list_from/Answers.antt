use Rattle.std.proofs.Common.{◌≡◌, true, false, subst, inl, inr, rules}
use Rattle.palm_text.specs.Counted.{Writing}
use Rattle.file_commands.specs.Ends.{PutsFaultRow}
use Rattle.file_commands.proofs.list_command.cmd_list_from.Goals as goal

pub returns-in-Err-BadFile-clause-ends : goal.returns-in-Err-BadFile-clause-ends
returns-in-Err-BadFile-clause-ends g c =
    let contents = g.V.Write.contents in
    let same : c.put_flushed.new.out ≡ c.args.out.now = c.in-Err-BadFile.ensures.untouched (λ e. cc) in
    record {
      done = search rules;
      refused = λ is. subst (λ (old : Writing g.row.V.Denot). PutsFaultRow (g.N.Notation.row_text c.args.notation.now) (g.B.FileBytes.bytes c.args.file.now) contents old c.say_fault.new.out true) same (c.say_fault.ensures.refused is);
      no_memory = search rules;
      write_fault = λ is. inr (subst (λ (old : Writing g.row.V.Denot). PutsFaultRow (g.N.Notation.row_text c.args.notation.now) (g.B.FileBytes.bytes c.args.file.now) contents old c.say_fault.new.out false) same (c.say_fault.ensures.write is));
      good_words = search rules;
      reads_nothing = search rules;
    }

pub returns-in-Err-Write-clause-ends : goal.returns-in-Err-Write-clause-ends
returns-in-Err-Write-clause-ends g c = record {
  done = λ e. cc;
  refused = λ e. cc;
  no_memory = λ e. cc;
  write_fault = λ _. inl (c.put_flushed.ensures.write (let is = c.in-Err-Write.is in let what = c.in-Err-Write.field-0-is in cc));
  good_words = λ e. cc;
  reads_nothing = λ e. cc;
}
