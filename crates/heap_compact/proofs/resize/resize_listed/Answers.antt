-- What the chunk takes leaves its lists, and the rest goes into its own.
use Rattle.heap_compact.proofs.Laws.{◌+◌, ◌-◌, sym, subst, arith, IsFreeChunk, plain_then, links_plain, run_facts, rules, run_spot, resized_lists, regrown_lists, regrown_all, resizes_links, alike_behind, alike_resizes}
use Rattle.heap_compact.proofs.resize.resize_listed.Goals as goal

pub size_of_body-requires : goal.size_of_body-requires
size_of_body-requires c =
    let f = run_facts _ _ _ c.requires.heap.accepted c.requires.behind in
    omega (arith, f.inside, f.most)

pub overflow_add-end : goal.overflow_add-end
overflow_add-end c =
    let f = run_facts _ _ _ c.requires.heap.accepted c.requires.behind in
    omega (arith, f.inside, f.most, c.size_of_body.ensures)

pub unlink_run-requires-clause-room : goal.unlink_run-requires-clause-room
unlink_run-requires-clause-room c = run_spot _ _ _ _ c.size_of_body.ensures c.requires.behind

pub size_of_body-requires-then-left-gt0 : goal.size_of_body-requires-then-left-gt0
size_of_body-requires-then-left-gt0 c =
    let f = run_facts _ _ _ c.requires.heap.accepted c.requires.behind in
    omega (arith, f.inside, f.most, c.requires.fits)

pub overflow_add-at : goal.overflow_add-at
overflow_add-at c =
    let f = run_facts _ _ _ c.requires.heap.accepted c.requires.behind in
    omega (arith, f.inside, f.most, c.requires.fits, c.size_of_body-then-left-gt0.ensures)

pub resize_at-left-requires-clause-behind : goal.resize_at-left-requires-clause-behind
resize_at-left-requires-clause-behind c = (alike_behind _ _ _ _ c.unlink_run.ensures.same c.requires.behind)

pub push-requires-clause-free : goal.push-requires-clause-free
push-requires-clause-free c =
    subst (λ n. IsFreeChunk c.resize_at-left.new.region.bytes (c.args.found.place.0 - 8 + n) c.resize_at-left.result) (sym c.size_of_body-then-left-gt0.ensures) (c.resize_at-left.ensures.chunk c.if-left-gt0.true)

pub returns-then-left-gt0 : goal.returns-then-left-gt0
returns-then-left-gt0 c =
    let u = c.unlink_run.ensures in let k = c.resize_at-left.ensures in let p = c.push.ensures in
    let size = c.size_of_body-then-left-gt0.ensures in let left = k.left in let some = c.if-left-gt0.true in
    let lists = resized_lists _ _ _ _ _ _ c.size_of_body.ensures u.same.frame.accepted
    (alike_behind _ _ _ _ u.same c.requires.behind) k.keeps u.lists in
    record {
      resized = alike_resizes _ _ _ _ _ _ u.same (resizes_links _ _ _ _ _ _ _ _ k.resized p.pushed.links);
      lists = regrown_lists _ _ _ _ _ _ _ (omega arith) (omega arith) lists p.pushed;
      plain = plain_then _ _ _ u.same.plain
          (plain_then _ _ _ k.plain (links_plain _ _ _ _ p.pushed.links));
      rest = search rules;
      heap = p.heap;
    }

pub returns-else-left-gt0 : goal.returns-else-left-gt0
returns-else-left-gt0 c =
    let u = c.unlink_run.ensures in let k = c.resize_at-left.ensures in
    let lists = resized_lists _ _ _ _ _ _ c.size_of_body.ensures u.same.frame.accepted
    (alike_behind _ _ _ _ u.same c.requires.behind) k.keeps u.lists in
    record {
      resized = alike_resizes _ _ _ _ c.args.count _ u.same k.resized;
      lists = regrown_all _ _ _ _ lists;
      plain = plain_then _ _ _ u.same.plain k.plain;
      rest = search rules;
      heap = k.heap;
    }
