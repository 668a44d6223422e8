use Rattle.example_loans.proofs.Loans.{second_out, first_out, third_out, none_left, first_text, third_text, fills}
use Rattle.example_loans.proofs.filling.fill_meanwhile.Goals as goal

-- each is out when it is put back
pub put_back-requires : goal.put_back-requires
put_back-requires c = second_out c.args.store.now c.take_three.new.store c.run_calls-before.new.store c.args.notes c.args.text.now c.in-Ok.loans.0 c.in-Ok.loans.1 c.in-Ok.loans.2 c.write_front-2.new.loan c.in-Ok.ensures.taken c.run_calls-before.ensures.stays c.write_front-2.ensures

pub put_back-requires-2 : goal.put_back-requires-2
put_back-requires-2 c = first_out c.args.store.now c.take_three.new.store c.run_calls-before.new.store c.put_back.new.self c.run_calls-after.new.store c.args.notes c.args.text.now c.in-Ok.loans.0 c.in-Ok.loans.1 c.in-Ok.loans.2 c.write_front-2.new.loan c.write_front.new.loan
    c.in-Ok.ensures.taken c.run_calls-before.ensures.stays c.write_front-2.ensures c.put_back.ensures.back c.run_calls-after.ensures.stays c.write_front.ensures

pub put_back-requires-3 : goal.put_back-requires-3
put_back-requires-3 c = third_out c.args.store.now c.take_three.new.store c.run_calls-before.new.store c.put_back.new.self c.run_calls-after.new.store c.args.notes c.args.text.now c.in-Ok.loans.0 c.in-Ok.loans.1 c.in-Ok.loans.2 c.write_front-2.new.loan c.write_front.new.loan
    c.in-Ok.ensures.taken c.run_calls-before.ensures.stays c.write_front-2.ensures c.put_back.ensures.back c.run_calls-after.ensures.stays c.write_front.ensures
    c.put_back-2.new.self c.write_front-3.new.loan c.put_back-2.ensures.back c.write_front-3.ensures

-- at the end
pub returns-in-Ok-Ok-clause-filled : goal.returns-in-Ok-Ok-clause-filled
returns-in-Ok-Ok-clause-filled c = fills c.args.store.now c.take_three.new.store c.run_calls-before.new.store c.put_back.new.self c.run_calls-after.new.store c.args.notes c.args.text.now c.in-Ok.loans.0 c.in-Ok.loans.1 c.in-Ok.loans.2 c.write_front-2.new.loan c.write_front.new.loan
    c.in-Ok.ensures.taken c.run_calls-before.ensures.stays c.write_front-2.ensures c.put_back.ensures.back c.run_calls-after.ensures.stays c.write_front.ensures
    c.put_back-2.new.self c.put_back-3.new.self c.write_front-3.new.loan c.args.calls.now c.in-Ok-Ok.before.items c.in-Ok-Ok.after.items c.put_back-2.ensures.back c.write_front-3.ensures c.put_back-3.ensures.back
    (rw c.in-Ok-Ok.is-0 at c.run_calls-before.ensures.loan) (rw c.in-Ok-Ok.is-1 at c.run_calls-after.ensures.loan)

pub returns-in-Ok-Ok-clause-first : goal.returns-in-Ok-Ok-clause-first
returns-in-Ok-Ok-clause-first c = first_text c.args.store.now c.take_three.new.store c.run_calls-before.new.store c.put_back.new.self c.run_calls-after.new.store c.args.notes c.args.text.now c.in-Ok.loans.0 c.in-Ok.loans.1 c.in-Ok.loans.2 c.write_front-2.new.loan c.write_front.new.loan
    c.in-Ok.ensures.taken c.run_calls-before.ensures.stays c.write_front-2.ensures c.put_back.ensures.back c.run_calls-after.ensures.stays c.write_front.ensures
    c.put_back-2.new.self c.put_back-3.new.self c.write_front-3.new.loan c.put_back-2.ensures.back c.write_front-3.ensures c.put_back-3.ensures.back

pub returns-in-Ok-Ok-clause-third : goal.returns-in-Ok-Ok-clause-third
returns-in-Ok-Ok-clause-third c = third_text c.args.store.now c.take_three.new.store c.run_calls-before.new.store c.put_back.new.self c.run_calls-after.new.store c.args.notes c.args.text.now c.in-Ok.loans.0 c.in-Ok.loans.1 c.in-Ok.loans.2 c.write_front-2.new.loan c.write_front.new.loan
    c.in-Ok.ensures.taken c.run_calls-before.ensures.stays c.write_front-2.ensures c.put_back.ensures.back c.run_calls-after.ensures.stays c.write_front.ensures
    c.put_back-2.new.self c.put_back-3.new.self c.write_front-3.new.loan c.write_front-3.ensures c.put_back-3.ensures.back

pub returns-in-Ok-Ok-clause-lent : goal.returns-in-Ok-Ok-clause-lent
returns-in-Ok-Ok-clause-lent c = none_left c.args.store.now c.take_three.new.store c.run_calls-before.new.store c.put_back.new.self c.run_calls-after.new.store c.args.notes c.args.text.now c.in-Ok.loans.0 c.in-Ok.loans.1 c.in-Ok.loans.2 c.write_front-2.new.loan c.write_front.new.loan
    c.in-Ok.ensures.taken c.run_calls-before.ensures.stays c.write_front-2.ensures c.put_back.ensures.back c.run_calls-after.ensures.stays c.write_front.ensures
    c.put_back-2.new.self c.put_back-3.new.self c.write_front-3.new.loan c.put_back-2.ensures.back c.write_front-3.ensures c.put_back-3.ensures.back

pub returns-in_default-clause-lent : goal.returns-in_default-clause-lent
returns-in_default-clause-lent c = none_left c.args.store.now c.take_three.new.store c.run_calls-before.new.store c.put_back.new.self c.run_calls-after.new.store c.args.notes c.args.text.now c.in-Ok.loans.0 c.in-Ok.loans.1 c.in-Ok.loans.2 c.write_front-2.new.loan c.write_front.new.loan
    c.in-Ok.ensures.taken c.run_calls-before.ensures.stays c.write_front-2.ensures c.put_back.ensures.back c.run_calls-after.ensures.stays c.write_front.ensures
    c.put_back-2.new.self c.put_back-3.new.self c.write_front-3.new.loan c.put_back-2.ensures.back c.write_front-3.ensures c.put_back-3.ensures.back
