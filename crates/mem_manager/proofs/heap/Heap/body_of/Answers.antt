-- A body lies in the image, and its slice is the bytes under its name.
use Rattle.mem_manager.proofs.Laws.{◌≡◌, ◌+◌, ap, subst, sym, ◌∙◌, arith, slice_range, Memory, IsWithin, HeapAccepted, LendsBodies, one_body_within, body_found}
use Rattle.mem_manager.proofs.heap.Heap.body_of.Goals as goal

pub slice-requires : goal.slice-requires
slice-requires c =
    let h = c.self.invariant.heap.accepted in
    let accepted = subst (λ (m : Memory). HeapAccepted m.bytes) c.self.view_is h in
    let lends = subst (λ (m : Memory). LendsBodies m) c.self.view_is c.self.invariant.heap.lent in
    let start : c.args.found.place.0 + 0 ≡ c.args.found.place.0 = omega arith in
    subst (λ (m : Memory). IsWithin m c.args.found.place.0 c.args.found.length)
    (sym (c.region.ensures.same ∙ c.self.view_is))
    (rw start at (one_body_within c.args.self.now c.args.found 0 c.args.found.length accepted lends c.requires.found c.requires.other (omega arith)))

pub returns : goal.returns
returns c =
    let h = c.self.invariant.heap.accepted in
    let accepted = subst (λ (m : Memory). HeapAccepted m.bytes) c.self.view_is h in
    c.slice.ensures
    ∙ ap (λ (m : Memory). slice_range m.bytes c.args.found.place.0 (c.args.found.place.0 + c.args.found.length)) (c.region.ensures.same ∙ c.self.view_is)
    ∙ body_found accepted c.requires.found
