-- The image that is written is the blank one that was made.
use Rattle.std.proofs.Common.{rules, inl, inr}
use Rattle.image_commands.proofs.commands.cmd_new_from.Goals as goal

pub returns-in-Ok-put_image-clause-ends : goal.returns-in-Ok-put_image-clause-ends
returns-in-Ok-put_image-clause-ends g c =
    let blank = c.in-Ok.ensures.blank in
    record {
      image = λ is. (c.in-Ok.region.bytes, blank, search rules);
      ok = search rules;
      bad_words = search rules;
      no_image = search rules;
      no_memory = search rules;
      write_fault = λ is. inr (inl ((c.in-Ok.region.bytes, blank, search rules), search rules));
      not_refused = search rules;
      reads_nothing = search rules;
    }
