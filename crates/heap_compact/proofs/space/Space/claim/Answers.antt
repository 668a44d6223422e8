-- The room is taken from its lists, and a movable chunk is put there.
use Rattle.heap_compact.proofs.Laws.{replicate, ap, sym, subst, ◌∙◌, arith, length-replicate, Memory, u32_at, movable, need, IsSlot, Claims, slot_kept, room_facts, lists_kept, lists_any, taken_chunk, same_slots, viewed_heap, viewed_space, room_claimed}
use Rattle.heap_compact.proofs.space.Space.claim.Goals.{After-build_unless_packed}
use Rattle.heap_compact.proofs.space.Space.claim.Goals as goal

claimed : (c : After-build_unless_packed) → Claims c.args.self.now.bytes c.build_unless_packed.new.region.bytes c.args.room.at c.args.room.size (movable (replicate c.args.count 0) 0 c.args.owner c.args.slot.0)
claimed c =
    room_claimed _ _ c.self.view_is c.size_of_body.ensures (ap need (length-replicate c.args.count 0))
    c.take.ensures.same c.take.ensures.cut c.claim_movable.ensures.made c.build_unless_packed.ensures.same

pub size_of_body-requires : goal.size_of_body-requires
size_of_body-requires c =
    let f = room_facts _ _ _ (viewed_heap c.self.view_is c.self.invariant.heap).accepted c.requires.room in
    omega (arith, f.0, f.2, c.requires.enough)

pub claim_movable-requires-clause-free : goal.claim_movable-requires-clause-free
claim_movable-requires-clause-free c = taken_chunk _ _ _ _ _ _ _ c.self.view_is c.requires.room c.size_of_body.ensures c.take.ensures.same c.take.ensures.cut

pub build_unless_packed-requires-clause-lists : goal.build_unless_packed-requires-clause-lists
build_unless_packed-requires-clause-lists c =
    lists_any _ _ _
    (lists_kept _ _ _ _ c.claim_movable.ensures.keeps c.take.ensures.lists)

pub returns-clause-made : goal.returns-clause-made
returns-clause-made c = claimed (goal.at.returns-clause-made c).After-build_unless_packed

pub claim_movable-requires-clause-empty : goal.claim_movable-requires-clause-empty
claim_movable-requires-clause-empty c =
    same_slots _ _ _ c.self.invariant.heap.accepted c.take.ensures.same
    (subst (λ (m : Memory). IsSlot m.bytes c.args.slot.0) (sym c.self.view_is) c.requires.slot)
    ∙ ap (λ (m : Memory). u32_at m.bytes c.args.slot.0) c.self.view_is ∙ c.requires.empty

pub claim_movable-requires-clause-slot : goal.claim_movable-requires-clause-slot
claim_movable-requires-clause-slot c =
    slot_kept _ _ _ _ c.take.ensures.same (rw (← c.self.view_is) at c.requires.slot)

pub invariant_of-self : goal.invariant_of-self
invariant_of-self c =
    viewed_space c.self.view_is c.build_unless_packed.ensures.heap c.build_unless_packed.ensures.lists (claimed (goal.at.invariant_of-self c).After-build_unless_packed c.requires.room).frame c.self.invariant.tables
