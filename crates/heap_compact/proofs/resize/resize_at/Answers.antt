-- Zeros, the header of the rest and the chunk's own header are written.
use Rattle.heap_compact.proofs.Laws.{ap, sym, arith, rules, ◌∙◌, RunBehind, size_by, rest_length, run_facts, sized_writable, WasResized, resized_by, part_within, found_size, same_bytes, same_lents, resized_keeps, resized_rest, regrown_within, resized_holds, resized_total, length_size, within_misses}
use Rattle.heap_compact.proofs.resize.resize_at.Goals.{After-write}
use Rattle.heap_compact.proofs.resize.resize_at.Goals as goal

resized : (c : After-write) (r : RunBehind c.args.region.now.bytes c.args.found c.args.behind) → WasResized c.args.region.now.bytes c.write.new.region.bytes c.args.found c.args.count c.args.behind r
resized c r =
    resized_by _ _ _ _ _ _ _ _ _ _ _ c.requires.heap.accepted r c.requires.fits
    c.size_of_body-size.ensures c.size_of_body.ensures c.saturating_sub-gained.ensures c.header_with.ensures
    (same_bytes c.fill.ensures.after) c.write_rest.ensures.wrote (same_bytes c.write.ensures.after) c.write.ensures.spelled

pub size_of_body-size-requires : goal.size_of_body-size-requires
size_of_body-size-requires c =
    let f = run_facts _ _ _ c.requires.heap.accepted c.requires.behind in
    omega (arith, f.inside, f.most, c.requires.fits)

pub size_of_body-requires : goal.size_of_body-requires
size_of_body-requires c =
    let f = run_facts _ _ _ c.requires.heap.accepted c.requires.behind in
    omega (arith, f.inside, f.most)

pub overflow_add-left : goal.overflow_add-left
overflow_add-left c =
    let f = run_facts _ _ _ c.requires.heap.accepted c.requires.behind in
    omega (arith, f.inside, f.most, c.size_of_body.ensures)

pub fill-requires : goal.fill-requires
fill-requires c =
    let f = run_facts _ _ _ c.requires.heap.accepted c.requires.behind in
    let gained = c.saturating_sub-gained.ensures in
    let all = regrown_within c.requires.heap c.requires.behind c.requires.other in
    let low = f.low in let inside = f.inside in let body = f.body in let fits = c.requires.fits in
    part_within _ _ _ _ _ all (omega (arith, low)) (omega (arith, low, gained, fits))

pub overflow_add-at : goal.overflow_add-at
overflow_add-at c =
    let f = run_facts _ _ _ c.requires.heap.accepted c.requires.behind in
    omega (arith, f.inside, f.most, c.requires.fits, c.size_of_body-size.ensures)

pub write_rest-requires : goal.write_rest-requires
write_rest-requires c =
    let f = run_facts _ _ _ c.requires.heap.accepted c.requires.behind in record {
      inside = omega (arith, f.inside, c.requires.fits, c.size_of_body.ensures, c.size_of_body-size.ensures, c.fill.ensures.len);
      whole = omega (arith, f.whole, c.requires.fits, c.size_of_body.ensures, c.size_of_body-size.ensures);
      small = omega (arith, f.most, c.fill.ensures.len);
      misses = within_misses _ _ (regrown_within c.requires.heap c.requires.behind c.requires.other) (same_lents c.fill.ensures.after)
          (omega arith) (omega (arith, c.size_of_body.ensures, c.size_of_body-size.ensures, c.requires.fits));
    }

pub write-requires : goal.write-requires
write-requires c =
    let f = run_facts _ _ _ c.requires.heap.accepted c.requires.behind in
    let own = c.size_of_body.ensures in let size = c.size_of_body-size.ensures in let fill = c.fill.ensures.len in
    let inside = f.inside in let whole = f.whole in let most = f.most in let fits = c.requires.fits in
    let len = rest_length _ _ _ _ c.write_rest.ensures.wrote (omega arith) (omega arith) in
    let is = ap size_by c.header_with.ensures in
    let w = sized_writable _ _ c.args.count _ c.requires.heap.accepted c.requires.behind c.requires.fits in
    let takes = w.1 in record {
      inside = omega arith;
      misses = within_misses _ _ (regrown_within c.requires.heap c.requires.behind c.requires.other)
          (same_lents c.write_rest.ensures.rest ∙ same_lents c.fill.ensures.after) (omega arith) (omega arith);
      small = omega arith;
      writable = rw (← c.header_with.ensures) at w.0;
    }

pub returns : goal.returns
returns c =
    let after = (goal.at.returns c).After-write in let b = c.requires.behind in
    let x = resized after b in
    let same = same_lents c.write.ensures.after ∙ same_lents c.write_rest.ensures.rest ∙ same_lents c.fill.ensures.after in
    let size = found_size c.args.region.now.bytes c.args.found b.one in
    let own = length_size c.args.count c.args.found.name.0 _ b.one.live b.one.chunk b.one.finds.named in
    let sizes = resized_total c.args.count b.one.chunk b.run (sym b.sums) (own, omega (arith, size, c.requires.fits)) in
    record {
      resized = λ r. (resized after r).becomes;
      left = omega (arith, c.size_of_body.ensures, c.size_of_body-size.ensures);
      chunk = λ some. resized_rest _ _ _ _ _ _ c.requires.heap.accepted _ x (omega (arith, c.size_of_body.ensures, c.size_of_body-size.ensures)) some;
      keeps = resized_keeps _ _ _ _ _ c.requires.heap.accepted _ x;
      plain = x.plain;
      rest = search rules;
      heap = resized_holds c.args.count c.requires.heap same b c.requires.other (λ r. (resized after r).becomes) sizes;
    }
