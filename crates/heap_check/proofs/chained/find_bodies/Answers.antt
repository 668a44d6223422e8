-- `find_bodies` counts the chunks and marks the bodies of the manager's fixed ones, by the laws of
-- BodyLaws.
use Rattle.heap_check.proofs.Laws.{HasPassed, passed_none, passed_whole, CountsBodies, counts_none, bodies_fit, bodies_more, bodies_found, bodies_marked}
use Rattle.std.proofs.Common.{◌+◌, subst, sym, arith, refl}
use Rattle.heap_check.proofs.chained.find_bodies.Goals as goal

pub loop-at-init : goal.loop-at-init
loop-at-init c =
    let image = c.args.region.now.bytes in
    let none = c.new-found.ensures in
    let fits = c.requires.head.a_chunk_fits in
    record {
      passed = passed_none image
          (CountsBodies image c.new-found.result c.args.marks.now) _ c.area_start-at.ensures
          (omega arith) (counts_none image c.new-found.result c.args.marks.now c.requires.clear
          none.movable none.fixed none.free none.managers none.bad_owner);
      room = refl;
    }

pub loop-at-preserved : goal.loop-at-preserved
loop-at-preserved c =
    let image = c.args.region.now.bytes in
    let len = c.add.ensures.len in
    let room = c.loop-at.invariant.room in
    record {
      passed = subst (λ n. HasPassed image (CountsBodies image c.add.new.self c.add.new.marks)
          (c.loop-at.at + n)) (sym c.in-Some.ensures.size) (bodies_more image c.loop-at.at
          c.in-Some.header c.loop-at.found c.add.new.self c.loop-at.marks c.add.new.marks
          c.loop-at.invariant.passed c.in-Some.ensures.found record {
            movable = c.add.ensures.movable;
            fixed = c.add.ensures.fixed;
            free = c.add.ensures.free;
            managers = c.add.ensures.managers;
            bad_owner = c.add.ensures.bad_owner;
            marked = c.add.ensures.marked;
          });
      room = omega arith;
    }

pub add-requires-clause-whole : goal.add-requires-clause-whole
add-requires-clause-whole c = passed_whole c.args.region.now.bytes
    (CountsBodies c.args.region.now.bytes c.loop-at.found c.loop-at.marks) c.loop-at.at
    c.loop-at.invariant.passed

pub returns-clause-found : goal.returns-clause-found
returns-clause-found c = bodies_found c.args.region.now.bytes c.loop-at.at c.loop-at.found
    c.loop-at.marks (omega arith) c.loop-at.invariant.passed

pub returns-clause-marked : goal.returns-clause-marked
returns-clause-marked c = bodies_marked c.args.region.now.bytes c.loop-at.at c.loop-at.found
    c.loop-at.marks (omega arith) c.loop-at.invariant.passed

pub add-requires-clause-counts : goal.add-requires-clause-counts
add-requires-clause-counts c =
    let fit = bodies_fit c.args.region.now.bytes c.loop-at.at c.in-Some.header c.loop-at.found
    c.loop-at.marks c.loop-at.invariant.passed c.in-Some.ensures.found in
    let most = c.requires.head.most in
    omega arith
