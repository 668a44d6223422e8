-- `run_ended_lines` runs the lines of a text that line feeds end, by the laws of SessionLaws.
use Rattle.live_scripts.proofs.Laws.{◌≡◌, ◌+◌, ◌++◌, [], refl, sym, ap, ◌∙◌, append_assoc, length, length-append, arith, stays_itself, stays_then, setting, on_handed, runs_further, runs_nothing, runs_taken, stops_further}
use Rattle.live_scripts.proofs.session.Session.run_ended_lines.Goals as goal

pub loop-cut-init : goal.loop-cut-init
loop-cut-init g c = record {
  front = [];
  parts = refl;
  runs = runs_nothing (setting (g.A.Allowance.is_short c.args.memory.now) c.args.inputs.files.now)
      g.W.Write.contents c.args.self.now c.args.store.now c.args.out.now;
  count = omega arith;
  stays = stays_itself c.args.store.now;
}

pub loop-cut-preserved : goal.loop-cut-preserved
loop-cut-preserved g c =
    let so_far = c.loop-cut.invariant in
    let first = c.in-Some.ensures.line in
    let count = c.in_ok-run_text.ensures.count in
    let long : length c.loop-cut.rest.now ≡ length first.front + length c.in-Some.cut.rest.now =
    ap length first.parts ∙ length-append first.front c.in-Some.cut.rest.now in
    record {
      front = so_far.front ++ first.front;
      parts = so_far.parts ∙ ap (λ l. so_far.front ++ l) first.parts
          ∙ sym (append_assoc so_far.front first.front c.in-Some.cut.rest.now);
      runs = runs_further (setting (g.A.Allowance.is_short c.args.memory.now)
          c.args.inputs.files.now) g.W.Write.contents so_far.front first.front
          c.in-Some.cut.line.now c.args.self.now c.loop-cut.self c.run_text.new.self
          c.args.store.now c.loop-cut.store c.run_text.new.store c.args.out.now c.loop-cut.out
          c.run_text.new.out so_far.runs first.ended count c.in_ok-run_text.ensures.ok;
      count = rw length-append (omega (arith, long, count, first.shorter, so_far.count));
      stays = stays_then c.args.store.now c.loop-cut.store c.run_text.new.store so_far.stays
          c.run_text.ensures.stays;
    }

pub returns-in_err-run_text-clause-fault : goal.returns-in_err-run_text-clause-fault
returns-in_err-run_text-clause-fault g c =
    let so_far = c.loop-cut.invariant in
    let first = c.in-Some.ensures.line in
    on_handed _ c.from_residual.result c.from_residual.ensures.1
    (stops_further (setting (g.A.Allowance.is_short c.args.memory.now) c.args.inputs.files.now)
    g.W.Write.contents _ c.args.text.now so_far.front first.front c.in-Some.cut.rest.now
    c.in-Some.cut.line.now c.args.self.now c.loop-cut.self c.run_text.new.self c.args.store.now
    c.loop-cut.store c.run_text.new.store c.args.out.now c.loop-cut.out c.run_text.new.out
    (so_far.parts ∙ ap (λ l. so_far.front ++ l) first.parts) so_far.runs first.ended
    c.in_err-run_text.ensures.fault)

pub returns-in_err-run_text-clause-stays : goal.returns-in_err-run_text-clause-stays
returns-in_err-run_text-clause-stays g c = stays_then c.args.store.now c.loop-cut.store
    c.run_text.new.store c.loop-cut.invariant.stays c.run_text.ensures.stays

pub returns-clause-ok : goal.returns-clause-ok
returns-clause-ok g c =
    let so_far = c.loop-cut.invariant in
    runs_taken (setting (g.A.Allowance.is_short c.args.memory.now) c.args.inputs.files.now)
    g.W.Write.contents _ c.args.text.now so_far.front c.loop-cut.rest.now c.args.self.now
    c.loop-cut.self c.args.store.now c.loop-cut.store c.args.out.now c.loop-cut.out so_far.runs
    so_far.parts
    (omega (arith, ap length so_far.parts, length-append so_far.front c.loop-cut.rest.now))
