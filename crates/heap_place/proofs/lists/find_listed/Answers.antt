-- The first chunk of a list is free, and its first word has its size.
use Rattle.heap_place.proofs.Laws.{sym, subst, ◌∙◌, IsSpot, IsWithin, chunk_spot, listed_chunk, first_within}
use Rattle.heap_place.proofs.lists.find_listed.Goals as goal

pub size_at-found-requires : goal.size_at-found-requires
size_at-found-requires c =
    let b = listed_chunk _ c.requires.heap.accepted c.requires.lists c.loop-class-test.true (λ e. c.if-at-ne0.true (c.head-at.ensures ∙ e)) in
    subst (λ n. IsWithin c.args.region.now n 4) (sym c.head-at.ensures) (first_within c.requires.heap b)

pub returns-then-found-size-clause-room : goal.returns-then-found-size-clause-room
returns-then-found-size-clause-room c =
    subst (λ n. IsSpot c.args.region.now.bytes c.head-at.result n) (sym c.size_at-found.ensures)
    (rw (← c.head-at.ensures) at (chunk_spot (listed_chunk _ c.requires.heap.accepted c.requires.lists c.loop-class-test.true (λ e. c.if-at-ne0.true (c.head-at.ensures ∙ e)))))
