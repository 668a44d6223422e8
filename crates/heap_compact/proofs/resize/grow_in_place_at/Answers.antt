-- The free chunks after the chunk suffice, or they don't.
use Rattle.heap_compact.proofs.Words.{arith, found_inside}
use Rattle.heap_place.proofs.RunLaws.{bound_behind, free_behind_found, all_behind, grows, in_place_facts, in_place_yes, in_place_no}
use Rattle.heap_compact.proofs.resize.grow_in_place_at.Goals as goal

pub size_of_body-own-requires : goal.size_of_body-own-requires
size_of_body-own-requires c =
    let inside = found_inside _ c.args.found c.requires.heap.accepted c.requires.found in
    omega (arith, c.requires.heap.accepted.1.tiles.head.most)

pub overflow_add-found : goal.overflow_add-found
overflow_add-found c =
    let own = c.size_of_body-own.ensures in
    let inside = found_inside _ c.args.found c.requires.heap.accepted c.requires.found in
    omega (arith, c.requires.heap.accepted.1.tiles.head.most)

pub free_run-behind-requires-clause-bound : goal.free_run-behind-requires-clause-bound
free_run-behind-requires-clause-bound c = bound_behind _ _ _ c.size_of_body-own.ensures c.requires.found

pub overflow_add-own : goal.overflow_add-own
overflow_add-own c =
    let f = in_place_facts _ _ _ _ c.requires.heap.accepted c.requires.found c.size_of_body-own.ensures c.free_run-behind.ensures in
    omega (arith, f.0, f.1)

pub resize_listed-requires-clause-behind : goal.resize_listed-requires-clause-behind
resize_listed-requires-clause-behind c =
    all_behind c.args.region.now.bytes c.args.found _ c.requires.found
    (free_behind_found c.args.region.now.bytes c.args.found _ c.free_run-behind.result c.size_of_body-own.ensures c.requires.found c.free_run-behind.ensures)

pub returns-in-Some-clause-grown : goal.returns-in-Some-clause-grown
returns-in-Some-clause-grown c =
    grows _ _ _ c.args.count _ c.requires.heap.accepted c.requires.found
    (free_behind_found c.args.region.now.bytes c.args.found _ c.free_run-behind.result c.size_of_body-own.ensures c.requires.found c.free_run-behind.ensures) c.resize_listed.ensures.resized

pub returns-in-Some-clause-tells : goal.returns-in-Some-clause-tells
returns-in-Some-clause-tells c =
    in_place_yes _ _ _ _ _ c.size_of_body-own.ensures c.free_run-behind.ensures (omega arith)

pub returns-in_default-clause-tells : goal.returns-in_default-clause-tells
returns-in_default-clause-tells c =
    in_place_no _ _ _ _ _ c.size_of_body-own.ensures c.free_run-behind.ensures (omega arith)

pub returns-in_default-2-clause-tells : goal.returns-in_default-2-clause-tells
returns-in_default-2-clause-tells c =
    let f = in_place_facts _ _ _ _ c.requires.heap.accepted c.requires.found c.size_of_body-own.ensures c.free_run-behind.ensures in
    let inside = f.0 in let most = f.1 in let beyond = c.in_default.ensures in
    in_place_no _ _ _ _ _ c.size_of_body-own.ensures c.free_run-behind.ensures (grind arith)
