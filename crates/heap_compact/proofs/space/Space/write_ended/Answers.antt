-- The bytes and a zero are one write over those of a body that isn't lent.
use Rattle.heap_compact.proofs.Laws.{◌≡◌, ℕ, ◌+◌, ◌++◌, [], ◌∷◌, length, refl, ap, rules, ◌∙◌, arith, length-append, Memory, overwritten, overwritten-behind, still_within, bytes_inside, same_bytes, same_lents, viewed_heap, SpaceWritten, space_written, body_within}
use Rattle.heap_compact.proofs.space.Space.write_ended.Goals.{After-fill}
use Rattle.heap_compact.proofs.space.Space.write_ended.Goals as goal

pub write-requires : goal.write-requires
write-requires c = body_within c.self.view_is c.self.invariant c.requires.found c.requires.other c.args.at _ (omega (arith, c.requires.within))

pub fill-requires : goal.fill-requires
fill-requires c =
    let e : c.args.found.place.0 + (c.args.at + length c.args.bytes.now) ≡ c.args.found.place.0 + c.args.at + length c.args.bytes.now = omega arith in
    still_within _ c.write.new.self _ 1
    (rw e at (body_within c.self.view_is c.self.invariant c.requires.found c.requires.other (c.args.at + length c.args.bytes.now) 1 (omega (arith, c.requires.within))))
    (same_lents c.write.ensures.after) c.write.ensures.len

-- the bytes and the zero after them are one write
written : (c : After-fill) → SpaceWritten c.args.self.now.bytes c.fill.new.self c.self.inside.lists c.self.inside.tables c.args.found c.args.at (c.args.bytes.now ++ 0 ∷ [])
written c =
    let at : ℕ = c.args.found.place.0 + c.args.at in let end : ℕ = at + length c.args.bytes.now in
    let inside = bytes_inside _ c.args.found (viewed_heap c.self.view_is c.self.invariant.heap).accepted c.requires.found in
    let len = ap (λ (m : Memory). length m.bytes) c.self.view_is in
    let both = overwritten-behind c.self.inside.region.bytes at c.args.bytes.now (0 ∷ []) end refl
    (omega (arith, inside, len, c.requires.within)) in
    space_written c.self.view_is c.self.invariant c.requires.found c.requires.other c.fill.new.self c.args.at
    (λ old. c.args.bytes.now ++ 0 ∷ []) (omega (arith, length-append c.args.bytes.now (0 ∷ []), c.requires.within))
    (same_bytes c.fill.ensures.after ∙ ap (λ x. overwritten x end (0 ∷ [])) (same_bytes c.write.ensures.after) ∙ both)
    (same_lents c.fill.ensures.after ∙ same_lents c.write.ensures.after)

pub returns : goal.returns
returns c =
    let w = written (goal.at.returns c).After-fill in
    record { made = w.made; plain = w.plain; rest = search rules; heap = w.space.heap }

pub invariant_of-self : goal.invariant_of-self
invariant_of-self c = (written (goal.at.invariant_of-self c).After-fill).space
