use Rattle.std.proofs.Common.{◌≡◌, true, false, inl, inr, rules}
use Rattle.map_commands.proofs.Mapped.{not_accepted, puts_first}
use Rattle.map_commands.proofs.draw_command.draw_region_from.Goals as goal

pub returns-in-Ok-clause-ends : goal.returns-in-Ok-clause-ends
returns-in-Ok-clause-ends g c = record {
  accepted = λ s. c.in-Ok.ensures.accepted;
  written = λ s. c.in-Ok.ensures.done;
  ok = λ s. c.say.ensures.said s;
  refused = search rules;
  no_file = search rules;
  no_memory = search rules;
  write_fault = λ s. inr (inl (c.in-Ok.ensures.accepted, c.in-Ok.ensures.done, c.say.ensures.fault s));
  good_words = search rules;
  reads_nothing = search rules;
}

pub returns-in-Err-BadImage-clause-ends : goal.returns-in-Err-BadImage-clause-ends
returns-in-Err-BadImage-clause-ends g c =
    let same : c.put_flushed.new.file_out ≡ c.args.file_out.now = c.in-Err-BadImage.ensures.untouched (λ e. cc) in
    let not = not_accepted c.args.region.now.bytes _ _ c.in-Err-BadImage.field-0-is c.in-Err-BadImage.ensures.why in
    record {
      accepted = search rules;
      written = search rules;
      ok = search rules;
      refused = λ is. (not, puts_first g.V.Write.contents c.args.out.now c.say_bad_image.new.out c.args.region.now.bytes _ _ true c.in-Err-BadImage.field-0-is c.in-Err-BadImage.ensures.why (c.say_bad_image.ensures.said is));
      no_file = λ is. same;
      no_memory = search rules;
      write_fault = λ is. inr (inr ((not, puts_first g.V.Write.contents c.args.out.now c.say_bad_image.new.out c.args.region.now.bytes _ _ false c.in-Err-BadImage.field-0-is c.in-Err-BadImage.ensures.why (c.say_bad_image.ensures.write is)), same));
      good_words = search rules;
      reads_nothing = search rules;
    }
