-- The bytes are written over those of a chunk that isn't lent, and both chunks stay.
use Rattle.heap_compact.proofs.Laws.{take, arith, IsOne, one_written_lends, front_within, CopiedTo, copied_there, taken_fits}
use Rattle.heap_compact.proofs.relocate.copy_bytes.Goals.{After-slide}
use Rattle.heap_compact.proofs.relocate.copy_bytes.Goals as goal

copied : (c : After-slide) (f : IsOne c.args.region.now.bytes c.args.from) → CopiedTo c.args.region.now.bytes c.slide.new.self.bytes c.args.to (take c.args.to.length f.live.bytes)
copied c f = copied_there _ _ c.requires.heap.accepted f c.requires.to c.min-count.ensures c.slide.ensures.bytes

pub slide-requires : goal.slide-requires
slide-requires c = record {
  from = front_within c.requires.heap c.requires.from c.requires.other_from (omega (arith, c.min-count.ensures));
  to = front_within c.requires.heap c.requires.to c.requires.other_to (omega (arith, c.min-count.ensures));
}

pub returns : goal.returns
returns c =
    let after = (goal.at.returns c).After-slide in let k = copied after c.requires.from in
    let few = taken_fits c.args.to.length c.requires.from.live.bytes in record {
      copied = λ f. (copied after f).made;
      from = k.others c.args.from c.requires.apart c.requires.from;
      to = k.stands;
      keeps = k.keeps;
      plain = k.plain;
      out = c.slide.ensures.lent;
      slid = omega (arith, c.slide.ensures.slid, c.min-count.ensures);
      heap = record {
        accepted = k.made.frame.accepted;
        lent = one_written_lends c.args.region.now c.slide.new.self c.args.to 0 _ c.requires.heap.accepted c.requires.heap.lent c.slide.ensures.lent c.requires.to k.made (omega (arith, few)) c.requires.other_to;
      };
    }
