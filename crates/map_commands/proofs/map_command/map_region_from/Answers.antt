use Rattle.std.proofs.Common.{◌≡◌, true, false, subst, inr, rules}
use Rattle.palm_text.specs.Counted.{Writing}
use Rattle.image_commands.specs.FaultLines.{PutsBadImage}
use Rattle.map_commands.proofs.Mapped.{flushed, not_accepted, puts_first}
use Rattle.map_commands.proofs.map_command.map_region_from.Goals as goal
use Rattle.palm_text.specs.Output.{output}

pub returns-in-Ok-flushed-clause-ends : goal.returns-in-Ok-flushed-clause-ends
returns-in-Ok-flushed-clause-ends g c = record {
  done = λ s. flushed c.args.region.now.bytes g.V.Write.contents c.args.out.now c.put_map.new.out c.flushed.new.out c.in-Ok.ensures.done c.in-Ok-flushed.ensures;
  accepted = λ s. c.in-Ok.ensures.accepted;
  refused = λ e. cc;
  fault = λ e. absurd cc;
  no_memory = λ e. absurd cc;
  write_fault = λ e. absurd cc;
  good_words = λ e. cc;
  reads_nothing = λ e. cc;
}

pub returns-in-Err-BadImage-clause-ends : goal.returns-in-Err-BadImage-clause-ends
returns-in-Err-BadImage-clause-ends g c =
    let contents = g.V.Write.contents in
    let image = c.args.region.now.bytes in
    let same : c.put_map.new.out ≡ c.args.out.now = c.in-Err-BadImage.ensures.untouched (λ e. cc) in
    record {
      done = search rules;
      accepted = search rules;
      refused = λ is. not_accepted c.args.region.now.bytes _ _ c.in-Err-BadImage.field-0-is c.in-Err-BadImage.ensures.why;
      fault = λ is. subst (λ (old : Writing g.row.V.Denot). PutsBadImage image (output contents old c.say_bad_image.new.out) true) same (puts_first contents c.put_map.new.out c.say_bad_image.new.out image _ _ true c.in-Err-BadImage.field-0-is c.in-Err-BadImage.ensures.why (c.say_bad_image.ensures.said is));
      no_memory = λ is. search rules;
      write_fault = λ is. inr (not_accepted c.args.region.now.bytes _ _ c.in-Err-BadImage.field-0-is c.in-Err-BadImage.ensures.why, subst (λ (old : Writing g.row.V.Denot). PutsBadImage image (output contents old c.say_bad_image.new.out) false) same (puts_first contents c.put_map.new.out c.say_bad_image.new.out image _ _ false c.in-Err-BadImage.field-0-is c.in-Err-BadImage.ensures.why (c.say_bad_image.ensures.write is)));
      good_words = search rules;
      reads_nothing = search rules;
    }
