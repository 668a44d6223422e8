-- The bytes go up in one slide, the free chunk's header is written, and then each chunk is mended.
use Rattle.heap_compact.proofs.Laws.{[], arith, ◌∙◌, part_within, table_within, same_bytes, same_lents, lift_bounds, carried_up, lift_done, lifted_within, lifted_holds, table_still, within_misses}
use Rattle.heap_compact.proofs.lift.lift.Goals as goal

pub slide-requires : goal.slide-requires
slide-requires c =
    let up = (lift_bounds c.requires.heap.accepted c.requires.behind).up in
    let w = lifted_within c.requires.heap c.requires.behind in
    record { from = part_within _ _ _ _ _ w (omega arith) (omega (arith, up)); to = part_within _ _ _ _ _ w (omega arith) (omega (arith, up)) }

pub write-requires : goal.write-requires
write-requires c =
    let b = lift_bounds c.requires.heap.accepted c.requires.behind in record {
      inside = omega (arith, b.up, b.inside, c.slide.ensures.len);
      misses = within_misses _ 8 (lifted_within c.requires.heap c.requires.behind) c.slide.ensures.lent (omega arith) (omega (arith, b.least));
      small = omega (arith, b.most, c.slide.ensures.len);
      writable = (b.least, b.whole, omega (arith, b.inside, b.most));
    }

pub overflow_add-end : goal.overflow_add-end
overflow_add-end c =
    let b = lift_bounds c.requires.heap.accepted c.requires.behind in
    omega (arith, b.inside, b.most)

pub mend-requires : goal.mend-requires
mend-requires c =
    let b = c.requires.behind in let up = (lift_bounds c.requires.heap.accepted b).up in
    let lifting = carried_up c.requires.heap.accepted b c.slide.ensures.bytes (same_bytes c.write.ensures.after) c.write.ensures.spelled in
    let same = same_lents c.write.ensures.after ∙ c.slide.ensures.lent in record {
      carried = record { lift = _; done = []; rest = b.mid; lifting = lifting; ends = omega (arith, b.to) };
      table = table_still c.write.new.region (table_within c.args.region.now c.requires.heap.accepted c.requires.heap.lent) same lifting.len lifting.tables;
      misses = within_misses _ _ (lifted_within c.requires.heap b) same (omega arith) (omega (arith, up));
    }

pub returns-clause-lifted : goal.returns-clause-lifted
returns-clause-lifted c = λ b.
    let bounds = lift_bounds c.requires.heap.accepted b in
    let lifting = carried_up c.requires.heap.accepted b c.slide.ensures.bytes (same_bytes c.write.ensures.after) c.write.ensures.spelled in
    lift_done (c.mend.ensures.mended _ [] b.mid lifting (omega (arith, b.to))) (omega (arith, bounds.inside, bounds.most)) b.live b.loose

pub returns-clause-heap : goal.returns-clause-heap
returns-clause-heap c =
    lifted_holds c.requires.heap (c.mend.ensures.out ∙ same_lents c.write.ensures.after ∙ c.slide.ensures.lent)
    c.requires.behind (returns-clause-lifted c)
