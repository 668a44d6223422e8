-- The chunk before another in its list is found, or there is none.
use Rattle.heap_place.proofs.Laws.{sym, subst, ◌∙◌, Looking, look_more, looked_free, begun_chunk, second_within}
use Rattle.heap_place.proofs.splice.find_before.Goals as goal

pub get_u32-next-requires : goal.get_u32-next-requires
get_u32-next-requires c =
    let f = looked_free c.loop.invariant c.if-here-eq0.false in
    second_within c.requires.heap (begun_chunk c.loop.here c.requires.heap.accepted f.begins)

pub loop-preserved : goal.loop-preserved
loop-preserved c =
    subst (λ n. Looking c.args.region.now.bytes c.args.lists.now c.args.class n c.args.at) (sym c.get_u32-next.ensures)
    (look_more c.loop.invariant c.if-here-eq0.false (λ e. c.if-next-at.false (c.get_u32-next.ensures ∙ e)))
