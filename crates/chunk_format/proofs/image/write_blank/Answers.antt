use Rattle.chunk_format.proofs.BlankLaws.{all_writes, blank_written}
use Rattle.chunk_format.proofs.image.write_blank.Goals as goal

pub returns-clause-blank : goal.returns-clause-blank
returns-clause-blank c =
    blank_written c.args.size c.args.slots c.args.start c.write.new.region.bytes c.requires.planned
    (all_writes c.args.region.now c.write_frame.new.region c.write.new.region c.args.size c.args.slots c.args.start _ c.requires.zeros c.write_frame.ensures.after c.write.ensures.after)
