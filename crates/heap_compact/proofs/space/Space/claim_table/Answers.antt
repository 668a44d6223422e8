-- The room is taken from its lists, and a table is put there and remembered.
use Rattle.heap_compact.proofs.Laws.{◌+◌, ap, subst, ◌∙◌, arith, is_chained, PutsTable, room_facts, lists_kept, lists_any, taken_chunk, puts_after, puts_before, tables_kept, tables_gained, viewed_heap}
use Rattle.heap_compact.proofs.space.Space.claim_table.Goals.{After-build_unless_packed}
use Rattle.heap_compact.proofs.space.Space.claim_table.Goals as goal

pub move_to_last-start-requires-clause-tiled : goal.move_to_last-start-requires-clause-tiled
move_to_last-start-requires-clause-tiled c = (c.take.ensures.heap.accepted.0, c.take.ensures.heap.accepted.1.tiles)

pub move_to_last-start-requires-clause-knows : goal.move_to_last-start-requires-clause-knows
move_to_last-start-requires-clause-knows c = tables_kept _ c.take.ensures.same.frame c.self.invariant.tables

put : (c : After-build_unless_packed)
    → PutsTable c.args.self.now.bytes c.build_unless_packed.new.region.bytes (c.args.room.at + 8)
put c =
    subst (λ m. PutsTable m.bytes c.build_unless_packed.new.region.bytes (c.args.room.at + 8)) c.self.view_is
    (puts_before _ _ _ _
    (puts_after _ _ _ _ c.take.ensures.same c.claim_table_at.ensures.made) c.build_unless_packed.ensures.same)

pub claim_table_at-requires-clause-free : goal.claim_table_at-requires-clause-free
claim_table_at-requires-clause-free c = taken_chunk _ _ _ _ _ _ 64 c.self.view_is c.requires.room c.size_of_body.ensures c.take.ensures.same c.take.ensures.cut

pub claim_table_at-requires-clause-chained : goal.claim_table_at-requires-clause-chained
claim_table_at-requires-clause-chained c = ap (λ t. t.chained) c.take.ensures.same.frame.tables ∙ ap (λ m. is_chained m.bytes) c.self.view_is ∙ c.requires.chained

pub build_unless_packed-requires-clause-lists : goal.build_unless_packed-requires-clause-lists
build_unless_packed-requires-clause-lists c =
    lists_any _ _ _
    (lists_kept _ _ _ _ c.claim_table_at.ensures.keeps c.take.ensures.lists)

pub returns-clause-made : goal.returns-clause-made
returns-clause-made c = put (goal.at.returns-clause-made c).After-build_unless_packed

pub invariant_of-self : goal.invariant_of-self
invariant_of-self c = record {
  heap = c.build_unless_packed.ensures.heap;
  lists = c.build_unless_packed.ensures.lists;
  tables = tables_gained c.move_to_last-start.new.self _
      (puts_before _ _ _ _ c.claim_table_at.ensures.made c.build_unless_packed.ensures.same).gains
      c.move_to_last-start.ensures.knows c.remember.ensures;
}

pub overflow_add-room : goal.overflow_add-room
overflow_add-room c =
    let f = room_facts _ _ _ (viewed_heap c.self.view_is c.self.invariant.heap).accepted c.requires.room in
    omega (arith, f.0, f.2)
