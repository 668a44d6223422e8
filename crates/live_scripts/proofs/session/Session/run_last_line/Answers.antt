-- `run_last_line` runs the last line of a text, which no line feed ends, by the laws of
-- SessionLaws.
use Rattle.live_scripts.proofs.Laws.{◌<◌, length, arith, setting, last_stops_on, line_ends_on}
use Rattle.std.proofs.lemmas.Bool.Decides.{nat_tests}
use Rattle.std.proofs.lemmas.Result.{IfErr-weaker, on_ok_weaker}
use Rattle.live_scripts.proofs.session.Session.run_last_line.Goals as goal

pub returns-clause-ok : goal.returns-clause-ok
returns-clause-ok g c =
    let some : 0 < length c.args.text.now = grind (arith, nat_tests) in
    on_ok_weaker c.run_text.result (λ reads. line_ends_on
    (setting (g.A.Allowance.is_short c.args.memory.now) c.args.inputs.files.now) g.W.Write.contents
    c.args.text.now c.args.self.now c.run_text.new.self c.args.store.now c.run_text.new.store
    c.args.out.now c.run_text.new.out (c.requires.last some) reads) c.run_text.ensures.ok

pub returns-clause-fault : goal.returns-clause-fault
returns-clause-fault g c =
    let some : 0 < length c.args.text.now = grind (arith, nat_tests) in
    IfErr-weaker c.run_text.result _ _ (λ fault stops. last_stops_on
    (setting (g.A.Allowance.is_short c.args.memory.now) c.args.inputs.files.now) g.W.Write.contents
    fault c.args.text.now c.args.self.now c.run_text.new.self c.args.store.now c.run_text.new.store
    c.args.out.now c.run_text.new.out (c.requires.last some) stops) c.run_text.ensures.fault
