use Rattle.std.proofs.Common.{rules, refl, true, false, subst, inl, inr}
use Rattle.std.specs.Prelude.{codes}
use Rattle.palm_text.specs.Counted.{Writing}
use Rattle.palm_text.specs.Output.{Puts}
use Rattle.store_commands.proofs.migrate_command.migrate_region_from.Goals as goal

pub returns-in-Ok-put_store-clause-ends : goal.returns-in-Ok-put_store-clause-ends
returns-in-Ok-put_store-clause-ends g c = record {
  accepted = λ s. c.in-Ok.ensures.accepted;
  written = λ s. (c.in-Ok.store.bytes, c.in-Ok.ensures.store, c.in-Ok-put_store.ensures);
  ok = λ s. subst (λ (w : Writing g.row.V.Denot). Puts g.V.Write.contents w c.say.new.out (codes "ok\n") true) c.in-Ok.ensures.silent (c.say.ensures.said s);
  refused = search rules;
  no_file = search rules;
  no_memory = search rules;
  write_fault = λ s. inr (inl (c.in-Ok.ensures.accepted, (c.in-Ok.store.bytes, c.in-Ok.ensures.store, c.in-Ok-put_store.ensures), subst (λ (w : Writing g.row.V.Denot). Puts g.V.Write.contents w c.say.new.out (codes "ok\n") false) c.in-Ok.ensures.silent (c.say.ensures.fault s)));
  good_words = search rules;
  reads_nothing = search rules;
}

pub returns-in-Err-clause-ends : goal.returns-in-Err-clause-ends
returns-in-Err-clause-ends g c = record {
  accepted = search rules;
  written = search rules;
  ok = search rules;
  refused = λ s. c.in-Err.ensures.said (search rules);
  no_file = search rules;
  no_memory = search rules;
  write_fault = λ s. inr (inr (c.in-Err.ensures.write (search rules), refl));
  good_words = search rules;
  reads_nothing = search rules;
}
