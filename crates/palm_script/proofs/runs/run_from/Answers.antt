use Rattle.std.proofs.Common.{◌++◌, true, arith}
use Rattle.std.specs.Option.{option_to_list}
use Rattle.palm_text.proofs.Parts.{then}
use Rattle.palm_text.specs.Output.{output}
use Rattle.script_calls.specs.Lines.{labelled, reply_line, setting, tables, unbound}
use Rattle.palm_script.proofs.LineLaws.{all_lines, breaks, breaks_alone, one_further, room_is_left, runs_alone}
use Rattle.palm_script.proofs.LoanLaws.{call_stays, stays_then}
use Rattle.palm_script.proofs.runs.run_from.Goals as goal

pub returns-in-Err-clause-write_short : goal.returns-in-Err-clause-write_short
returns-in-Err-clause-write_short g c = λ _.
    breaks g.W.Write.contents c.args.script.now c.args.store.now c.args.out.now c.loop-line.line-index c.line-item.result c.loop-line.invariant.text c.loop-line.files.items (labelled c.loop-line.store (tables c.loop-line.names c.loop-line.databases)) c.loop-line.out (labelled c.do_line.new.store (tables c.do_line.new.names c.do_line.new.databases)) c.do_line.new.out c.in-Err.field-0
    (rw c.lines-line-items.ensures at c.loop-line-test.true) (rw c.lines-line-items.ensures at c.line-item.is) c.loop-line.invariant.ran c.loop-line.invariant.written c.in-Err.ensures

pub returns-in-Err-clause-stays : goal.returns-in-Err-clause-stays
returns-in-Err-clause-stays g c = stays_then c.args.store.now c.loop-line.store c.do_line.new.store c.loop-line.invariant.stays (call_stays c.loop-line.store c.do_line.new.store _ _ c.in-Err.ensures.step.does)

pub returns-in-Err-clause-write : goal.returns-in-Err-clause-write
returns-in-Err-clause-write g c = λ _. breaks_alone (setting (g.A.Allowance.is_short c.args.memory.now) c.args.inputs.now) c.args.script.now c.args.store.now c.do_line.new.store (output g.W.Write.contents c.args.out.now c.do_line.new.out)
    (breaks g.W.Write.contents c.args.script.now c.args.store.now c.args.out.now c.loop-line.line-index c.line-item.result c.loop-line.invariant.text c.loop-line.files.items (labelled c.loop-line.store (tables c.loop-line.names c.loop-line.databases)) c.loop-line.out (labelled c.do_line.new.store (tables c.do_line.new.names c.do_line.new.databases)) c.do_line.new.out c.in-Err.field-0
    (rw c.lines-line-items.ensures at c.loop-line-test.true) (rw c.lines-line-items.ensures at c.line-item.is) c.loop-line.invariant.ran c.loop-line.invariant.written c.in-Err.ensures)

pub returns-clause-ok_short : goal.returns-clause-ok_short
returns-clause-ok_short g c = all_lines g.W.Write.contents c.args.script.now c.args.store.now c.args.out.now c.loop-line.line-index c.loop-line.invariant.text c.loop-line.files.items (labelled c.loop-line.store (tables c.loop-line.names c.loop-line.databases)) c.loop-line.out (rw c.lines-line-items.ensures at c.loop-line-test.false) c.loop-line.invariant.ran c.loop-line.invariant.written

pub returns-clause-ok : goal.returns-clause-ok
returns-clause-ok g c = runs_alone (setting (g.A.Allowance.is_short c.args.memory.now) c.args.inputs.now) c.args.script.now c.args.store.now c.loop-line.store (output g.W.Write.contents c.args.out.now c.loop-line.out) c.loop-line.files.items
    (all_lines g.W.Write.contents c.args.script.now c.args.store.now c.args.out.now c.loop-line.line-index c.loop-line.invariant.text c.loop-line.files.items (labelled c.loop-line.store (tables c.loop-line.names c.loop-line.databases)) c.loop-line.out (rw c.lines-line-items.ensures at c.loop-line-test.false) c.loop-line.invariant.ran c.loop-line.invariant.written)

pub add_file-requires : goal.add_file-requires
add_file-requires g c =
    let does = c.in-Ok-do_line.ensures in
    let room = room_is_left c.args.script.now c.loop-line.line-index c.line-item.result does.reply (option_to_list c.in-Ok-do_line.file) _ (rw c.lines-line-items.ensures at c.loop-line-test.true) (rw c.lines-line-items.ensures at c.line-item.is) does.file c.loop-line.invariant.used in
    omega (arith, room.0, room.1, c.loop-line.invariant.room)

pub loop-line-preserved : goal.loop-line-preserved
loop-line-preserved g c =
    let does = c.in-Ok-do_line.ensures in
    let file = option_to_list c.in-Ok-do_line.file in
    let within = rw c.lines-line-items.ensures at c.loop-line-test.true in
    let here = rw c.lines-line-items.ensures at c.line-item.is in
    let room = room_is_left c.args.script.now c.loop-line.line-index c.line-item.result does.reply file _ within here does.file c.loop-line.invariant.used in
    record {
      text = c.loop-line.invariant.text ++ reply_line c.line-item.result does.reply;
      ran = rw c.add_file.ensures.items (one_further (labelled c.args.store.now unbound) c.args.script.now c.loop-line.line-index c.line-item.result c.loop-line.invariant.text c.loop-line.files.items (labelled c.loop-line.store (tables c.loop-line.names c.loop-line.databases)) does.reply file (labelled c.do_line.new.store (tables c.do_line.new.names c.do_line.new.databases))
          within here c.loop-line.invariant.ran does.step does.binds does.file);
      stays = stays_then c.args.store.now c.loop-line.store c.do_line.new.store c.loop-line.invariant.stays (call_stays c.loop-line.store c.do_line.new.store _ _ does.step.does);
      written = then g.W.Write.contents c.args.out.now c.loop-line.out c.do_line.new.out c.loop-line.invariant.text _ true c.loop-line.invariant.written does.written;
      room = omega (arith, c.add_file.ensures.capacity, c.loop-line.invariant.room);
      used = omega (arith, c.add_file.ensures.len, room.0);
      chunk_labels = omega (arith, c.do_line.auto.names, c.loop-line.invariant.chunk_labels);
      database_labels = omega (arith, c.do_line.auto.databases, c.loop-line.invariant.database_labels);
      bytes = omega (arith, c.do_line.auto.buffer, c.loop-line.invariant.bytes);
    }
