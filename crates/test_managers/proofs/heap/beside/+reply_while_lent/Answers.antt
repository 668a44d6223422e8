-- Each name that is lent keeps its place.
use Rattle.std.proofs.Common.{ap}
use Rattle.heap_model.specs.Memory.{Memory}
use Rattle.mem_manager.proofs.OutLaws.{call_places, places_after}
use Rattle.test_managers.proofs.heap.beside.+reply_while_lent.Goals as goal

pub returns-in_default-clause-places : goal.returns-in_default-clause-places
returns-in_default-clause-places t c = call_places c.args.heap.now c.do_call.new.heap c.do_call.ensures.loan

pub returns-clause-places : goal.returns-clause-places
returns-clause-places t c =
    let taken = c.in_ok-loan.ensures.taken in
    places_after c.args.heap.now c.take_out_also.new.self c.reply_while_lent-replied.new.heap c.put_back.new.self _ (ap (λ (m : Memory). m.lents) taken.rest) taken.unmoved c.reply_while_lent-replied.ensures.places c.put_back.ensures.back.unmoved
