use Rattle.std.proofs.Common.{◌∙◌, ap, Err, refl, rules, subst, sym, true}
use Rattle.heap_model.specs.Memory.{Memory}
use Rattle.heap_model.specs.Store.{Accepted}
use Rattle.program_io.specs.declared.input.InputFault.TheVariants.{TooLong}
use Rattle.palm_text.specs.Output.{output}
use Rattle.script_calls.specs.Lines.{setting}
use Rattle.palmheap_program.specs.LiveRuns.{RunsLive, live_text}
use Rattle.palmheap_program.specs.Runs.{run_outputs}
use Rattle.palmheap_program.proofs.LiveEnds.{by_bad, stopped, stops_short, unread_input}
use Rattle.palmheap_program.proofs.live_command.run_live_region_from.Goals as goal

pub returns-in-Err-clause-ends : goal.returns-in-Err-clause-ends
returns-in-Err-clause-ends g c =
    by_bad (setting (g.A.Allowance.is_short c.args.memory.now) c.args.inputs.files.now) c.args.region (live_text (g.R.Read.remaining c.args.reader.now) c.args.script.now.items) g.V.Write.contents c.args.out.now c.opened.new.out g.W.Write.contents c.args.image_out.now c.args.image_out.now
    c.opened.result c.in-Err.status c.in-Err.is c.in-Err.ensures.faults c.opened.ensures.refused c.opened.ensures.said c.opened.ensures.write c.opened.ensures.no_memory c.opened.ensures.short refl

-- a run that a fault ended
pub returns-in-Err-run_read-clause-ends : goal.returns-in-Err-run_read-clause-ends
returns-in-Err-run_read-clause-ends g c =
    let contents = g.V.Write.contents in
    let known = g.R.Read.remaining c.args.reader.now in
    let accepted : Accepted c.in-Ok.store.bytes = subst (λ (m : Memory). Accepted m.bytes) (sym c.in-Ok.ensures.store) c.in-Ok.ensures.accepted in
    rw (c.in-Ok.ensures.store, c.in-Ok.ensures.silent) at (stopped (setting (g.A.Allowance.is_short c.args.memory.now) c.args.inputs.files.now) c.in-Ok.store (live_text known c.run_read.new.text.items) contents c.opened.new.out c.end_early.new.out g.W.Write.contents c.args.image_out.now c.args.image_out.now
    c.run_read.new.store c.run_read.new.out c.in-Err-run_read.fault c.end_early.result accepted c.in-Err-run_read.ensures.fault
    (stops_short known c.in-Ok.store c.run_read.new.store (output contents c.opened.new.out c.run_read.new.out) c.in-Err-run_read.fault c.in-Err-run_read.ensures.fault) c.end_early.ensures.ends refl)

pub returns-in-Err-run_read-clause-too_long : goal.returns-in-Err-run_read-clause-too_long
returns-in-Err-run_read-clause-too_long g c = λ is. c.run_read.ensures.too_long (c.in-Err-run_read.is ∙ ap Err (unread_input (g.A.Allowance.is_short c.args.memory.now) g.V.Write.contents c.run_read.new.out c.end_early.new.out c.in-Err-run_read.fault c.end_early.result TooLong c.end_early.ensures.ends (cc)))

-- the image after all of the replies
pub returns-in-Ok-put_store-clause-done : goal.returns-in-Ok-put_store-clause-done
returns-in-Ok-put_store-clause-done g c =
    let accepted : Accepted c.in-Ok.store.bytes = subst (λ (m : Memory). Accepted m.bytes) (sym c.in-Ok.ensures.store) c.in-Ok.ensures.accepted in
    let runs : RunsLive (setting (g.A.Allowance.is_short c.args.memory.now) c.args.inputs.files.now) c.in-Ok.store (live_text (g.R.Read.remaining c.args.reader.now) c.run_read.new.text.items) (run_outputs (output g.V.Write.contents c.opened.new.out c.run_read.new.out) (output g.W.Write.contents c.args.image_out.now c.put_store.new.image_out)) c.in-Ok-run_read.files.items true = record {
      before = accepted;
      whole = c.in-Ok-run_read.ensures.text;
      region_after = c.run_read.new.store;
      ran = c.in-Ok-run_read.ensures.ok;
      flushed = c.in-Ok-run_read.ensures.flushed;
      accepted = search rules;
      written = c.in-Ok-put_store.ensures;
    } in
    rw (c.in-Ok.ensures.store, c.in-Ok.ensures.silent) at runs
