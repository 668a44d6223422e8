-- The free chunks from `at` on become one in its list, or the chunk there is live.
use Rattle.heap_place.proofs.Laws.{◌+◌, sym, subst, arith, IsBound, plain_then, rules, links_chunk, links_plain, cut_chunk, chunk_inside, becomes_links, bound_chunk, bound_spot, spot_least, chunk_bound, header_bound, gathered_lists, passed_lists, bound_misses}
use Rattle.heap_place.proofs.gather.gather_at.Goals as goal

pub at_with_size-taken-requires : goal.at_with_size-taken-requires
at_with_size-taken-requires c =
    record { chunk = bound_chunk c.requires.heap.accepted c.requires.bound c.requires.inside; small = omega arith; misses = bound_misses c.requires.heap c.requires.bound c.requires.inside }

pub returns-then-size-eq0-clause-bound : goal.returns-then-size-eq0-clause-bound
returns-then-size-eq0-clause-bound c =
    subst (λ n. IsBound c.args.region.now.bytes (c.args.at + n)) (sym c.at_with_size-taken.ensures.size) (header_bound c.requires.heap.accepted c.requires.bound c.at_with_size-taken.ensures.header).0

pub returns-then-size-eq0-clause-inside : goal.returns-then-size-eq0-clause-inside
returns-then-size-eq0-clause-inside c = let b = header_bound c.requires.heap.accepted c.requires.bound c.at_with_size-taken.ensures.header in omega arith

pub returns-then-size-eq0-clause-some : goal.returns-then-size-eq0-clause-some
returns-then-size-eq0-clause-some c = let b = header_bound c.requires.heap.accepted c.requires.bound c.at_with_size-taken.ensures.header in omega arith

pub returns-then-size-eq0-clause-lists : goal.returns-then-size-eq0-clause-lists
returns-then-size-eq0-clause-lists c = passed_lists _ _ c.requires.lists

pub cut-requires : goal.cut-requires
cut-requires c =
    let spot = bound_spot c.requires.bound c.free_run-size.ensures in
    let least = spot_least c.requires.heap.accepted spot (omega arith) in
    record { heap = c.requires.heap; room = spot; least = least.0; whole = least.1; within = omega arith }

pub push-requires-clause-free : goal.push-requires-clause-free
push-requires-clause-free c = cut_chunk _ _ _ _ c.free_run-size.result c.cut.ensures.same (bound_spot c.requires.bound c.free_run-size.ensures) c.cut.ensures.cut

pub returns : goal.returns
returns c =
    let k = c.cut.ensures in let p = c.push.ensures.pushed in
    let spot = bound_spot c.requires.bound c.free_run-size.ensures in
    let chunk = links_chunk p.links (cut_chunk _ _ _ _ c.free_run-size.result k.same spot k.cut) in
    record {
      same = becomes_links k.same p.links;
      bound = chunk_bound chunk;
      inside = (chunk_inside p.links.frame.accepted chunk).0;
      some = omega arith;
      lists = gathered_lists _ (spot_least c.requires.heap.accepted spot (omega arith)).0 c.requires.lists k.keeps p;
      plain = plain_then _ _ _ k.plain (links_plain _ _ _ _ p.links);
      rest = search rules;
      heap = c.push.ensures.heap;
    }
