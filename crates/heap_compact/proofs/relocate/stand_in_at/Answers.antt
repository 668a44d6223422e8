-- A fixed chunk is made where the room is, and every chunk that was found stays.
use Rattle.heap_compact.proofs.Laws.{ℕ, ap, subst, arith, rules, length-replicate, need, IsFreeChunk, room_facts, lists_kept, lists_any, cut_chunk, cut_claims, stands_there, stand_keeps}
use Rattle.heap_compact.proofs.relocate.stand_in_at.Goals as goal

pub size_of_body-requires : goal.size_of_body-requires
size_of_body-requires c =
    let f = room_facts _ _ _ c.requires.heap.accepted c.requires.room in
    omega (arith, f.0, f.2, c.requires.enough)

pub overflow_add-body : goal.overflow_add-body
overflow_add-body c =
    let f = room_facts _ _ _ c.requires.heap.accepted c.requires.room in omega (arith, f.0, f.2)

pub claim_fixed_at-requires-clause-free : goal.claim_fixed_at-requires-clause-free
claim_fixed_at-requires-clause-free c =
    subst (λ (n : ℕ). IsFreeChunk c.take.new.region.bytes c.args.room.at n) c.size_of_body.ensures
    (cut_chunk _ _ _ _ c.size_of_body.result c.take.ensures.same c.requires.room c.take.ensures.cut)

pub returns : goal.returns
returns c =
    let cut = rw c.size_of_body.ensures at c.take.ensures.cut in
    let made = cut_claims _ _ _ _ c.args.room.size _ _ (ap need (length-replicate c.args.count 0)) c.take.ensures.same cut c.claim_fixed_at.ensures.made in
    record {
      lists = lists_any _ _ _ (lists_kept _ _ _ _ c.claim_fixed_at.ensures.keeps c.take.ensures.lists);
      made = made;
      is = search rules;
      found = stands_there _ _ c.requires.heap.accepted c.requires.room c.requires.enough made;
      others = stand_keeps _ _ c.requires.heap.accepted c.requires.room c.requires.enough made;
      plain = search rules;
      rest = search rules;
      heap = search rules;
    }
