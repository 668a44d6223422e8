-- The copied bytes are written over those of a body that isn't lent.
use Rattle.heap_compact.proofs.Laws.{ℕ, List, ◌+◌, rules, arith, slice_range, length-slice, bytes_inside, viewed_heap, SpaceWritten, space_written, body_within}
use Rattle.heap_compact.proofs.space.Space.slide_within.Goals.{After-slide}
use Rattle.heap_compact.proofs.space.Space.slide_within.Goals as goal

pub slide-requires : goal.slide-requires
slide-requires c = record {
  from = body_within c.self.view_is c.self.invariant c.requires.found c.requires.other c.args.from _ c.requires.from_within;
  to = body_within c.self.view_is c.self.invariant c.requires.found c.requires.other c.args.to _ c.requires.to_within;
}

-- the bytes that are slid
abbrev slid : (c : After-slide) → List ℕ → List ℕ
slid c old = slice_range old (c.args.found.place.0 + c.args.from) (c.args.found.place.0 + c.args.from + c.args.count)

written : (c : After-slide) → SpaceWritten c.args.self.now.bytes c.slide.new.self c.self.inside.lists c.self.inside.tables c.args.found c.args.to (slid c c.args.self.now.bytes)
written c =
    let inside = bytes_inside _ c.args.found (viewed_heap c.self.view_is c.self.invariant.heap).accepted c.requires.found in
    let many = length-slice c.args.self.now.bytes (c.args.found.place.0 + c.args.from) c.args.count
    (omega (arith, inside, c.requires.from_within)) in
    space_written c.self.view_is c.self.invariant c.requires.found c.requires.other c.slide.new.self c.args.to
    (slid c) (omega (arith, many, c.requires.to_within)) c.slide.ensures.bytes c.slide.ensures.lent

pub returns : goal.returns
returns c =
    let w = written (goal.at.returns c).After-slide in
    record { made = w.made; plain = w.plain; rest = search rules; heap = w.space.heap }

pub invariant_of-self : goal.invariant_of-self
invariant_of-self c = (written (goal.at.invariant_of-self c).After-slide).space
