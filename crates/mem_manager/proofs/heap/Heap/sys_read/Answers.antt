-- The range lies in the body, and its slice is that of the bytes under the name.
use Rattle.mem_manager.proofs.Laws.{◌+◌, sym, ap, subst, ◌∙◌, slice_range, Memory, IsWithin, bytes_under, one_body_within, slice_found, within_found, not_lent_other, here_inside}
use Rattle.mem_manager.proofs.StepWords.{one_of}
use Rattle.mem_manager.proofs.heap.Heap.sys_read.Goals as goal

pub slice-requires : goal.slice-requires
slice-requires c =
    let h = c.self.invariant.heap.accepted in
    let within = rw (← c.self.view_is) at c.requires.within in
    let fits = within_found (c.args.at + c.args.count) h c.chunk-found.ensures within in
    let other = not_lent_other c.self.invariant.heap c.chunk-found.ensures
    (here_inside c.self.view_is c.self.invariant.heap c.requires.here) in
    subst (λ (m : Memory). IsWithin m (c.chunk-found.result.place.0 + c.args.at) c.args.count)
    (sym c.region.ensures.same)
    (one_body_within c.self.inside.space c.chunk-found.result c.args.at c.args.count h c.self.invariant.heap.lent (one_of c.chunk-found.ensures) other fits)

pub returns : goal.returns
returns c =
    let within = rw (← c.self.view_is) at c.requires.within in
    c.slice.ensures
    ∙ ap (λ (m : Memory). slice_range m.bytes (c.chunk-found.result.place.0 + c.args.at) (c.chunk-found.result.place.0 + c.args.at + c.args.count)) c.region.ensures.same
    ∙ slice_found c.args.at c.args.count c.self.invariant.heap.accepted c.chunk-found.ensures within
    ∙ ap (λ (m : Memory). slice_range (bytes_under m.bytes c.args.name.0) c.args.at (c.args.at + c.args.count)) c.self.view_is
