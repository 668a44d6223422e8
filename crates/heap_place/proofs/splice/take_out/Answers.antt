-- The chunk leaves its list as the first of it, or past the chunk before it.
use Rattle.heap_place.proofs.Laws.{ap, sym, subst, ◌∙◌, arith, slice_set, AreLists, ButAt, chunk_inside, popped, free_there, chunk_of_class, second_within}
use Rattle.heap_place.proofs.splice.take_out.Goals as goal

pub class_of-class-requires-clause-least : goal.class_of-class-requires-clause-least
class_of-class-requires-clause-least c = (free_there _ _ _ c.requires.heap.accepted c.requires.free).header_fits

pub class_of-class-requires-clause-small : goal.class_of-class-requires-clause-small
class_of-class-requires-clause-small c = let inside = chunk_inside c.requires.heap.accepted c.requires.free in omega arith

pub get_u32-requires : goal.get_u32-requires
get_u32-requires c = second_within c.requires.heap c.requires.free

pub returns-then-head-at-clause-lists : goal.returns-then-head-at-clause-lists
returns-then-head-at-clause-lists c =
    subst (λ heads. AreLists (ButAt c.args.at) c.args.region.now.bytes heads) (sym (c.set_head.ensures ∙ ap (λ n. slice_set c.args.lists.now c.class_of-class.result n) c.get_u32.ensures))
    (popped _ c.requires.lists c.class_of-class.ensures.below (sym c.if-head-at.true ∙ c.head.ensures) (omega arith))

pub link_past-requires-clause-free : goal.link_past-requires-clause-free
link_past-requires-clause-free c = chunk_of_class c.requires.heap.accepted c.requires.free c.class_of-class.ensures.of_class
