-- The header is as it was, so the next slot is the given database's; its chunk is still there.
use Rattle.palm_store.proofs.Laws.{◌+◌, refl, sym, subst, ◌∙◌, ◌≡◌, ◌<◌, ℕ, List, length, IsSpelled, database_in, data_in, stands_still, keeps_itself, writes_then, number_spelled, freed_none, freed_one, freed_next, named_at, header_held, header_owner, header_like, slot_left, slot_other, managers_here}
use Rattle.palm_store.proofs.NamedChunks.{slot_unlocked}
use Rattle.palm_store.proofs.databases.clearing.free_data.Goals as goal

pub loop-index-init : goal.loop-index-init
loop-index-init c = record { leaves = freed_none c.args.heap.now.bytes c.requires.accepted.heap; stands = c.requires.opened.chunk; kept = record { loan = keeps_itself c.args.heap.now; rest = refl } }

pub slot_at-slot-requires-clause-spelled : goal.slot_at-slot-requires-clause-spelled
slot_at-slot-requires-clause-spelled c =
    subst (λ (body : List ℕ). IsSpelled (database_in body) body)
    (sym (c.sys_body_found.ensures ∙ header_like c.args.heap.now.bytes c.loop-index.heap.bytes c.args.opened.db.0 c.loop-index.index c.requires.accepted c.requires.opened.number c.loop-index.invariant.leaves))
    (number_spelled c.args.heap.now.bytes c.args.opened.db.0 c.requires.accepted c.requires.opened.number)

pub slot_at-slot-requires-clause-inside : goal.slot_at-slot-requires-clause-inside
slot_at-slot-requires-clause-inside c =
    let same : c.sys_body_found.result.now ≡ c.header_in.result.now = c.sys_body_found.ensures ∙ header_like c.args.heap.now.bytes c.loop-index.heap.bytes c.args.opened.db.0 c.loop-index.index c.requires.accepted c.requires.opened.number c.loop-index.invariant.leaves ∙ sym c.header_in.ensures.is in
    let below : c.loop-index.index < length (data_in (database_in c.header_in.result.now)) = subst (λ (count : ℕ). c.loop-index.index < count) c.slot_count-count.ensures c.loop-index-test.true in
    subst (λ (body : List ℕ). c.loop-index.index < length (data_in (database_in body))) (sym same) below

pub free_chunk_of-requires-clause-movable : goal.free_chunk_of-requires-clause-movable
free_chunk_of-requires-clause-movable c some =
    let at = named_at c.args.heap.now.bytes c.header_in.result.now c.sys_body_found.result.now c.args.opened.db.0 c.loop-index.index c.slot_count-count.result c.slot_at-slot.result.0 c.header_in.ensures.is
    (c.sys_body_found.ensures ∙ header_like c.args.heap.now.bytes c.loop-index.heap.bytes c.args.opened.db.0 c.loop-index.index c.requires.accepted c.requires.opened.number c.loop-index.invariant.leaves) c.slot_count-count.ensures c.loop-index-test.true c.slot_at-slot.ensures in
    slot_left c.args.heap.now.bytes c.loop-index.heap.bytes c.args.opened.db.0 c.loop-index.index c.slot_at-slot.result.0 c.requires.accepted c.requires.opened.number c.loop-index.invariant.leaves at some

pub free_chunk_of-requires-clause-unlocked : goal.free_chunk_of-requires-clause-unlocked
free_chunk_of-requires-clause-unlocked c some =
    let at = named_at c.args.heap.now.bytes c.header_in.result.now c.sys_body_found.result.now c.args.opened.db.0 c.loop-index.index c.slot_count-count.result c.slot_at-slot.result.0 c.header_in.ensures.is
    (c.sys_body_found.ensures ∙ header_like c.args.heap.now.bytes c.loop-index.heap.bytes c.args.opened.db.0 c.loop-index.index c.requires.accepted c.requires.opened.number c.loop-index.invariant.leaves) c.slot_count-count.ensures c.loop-index-test.true c.slot_at-slot.ensures in
    slot_unlocked c.args.heap.now.bytes c.loop-index.heap.bytes c.args.opened.db.0 c.loop-index.index c.slot_at-slot.result.0 c.requires.accepted c.requires.opened.number c.loop-index.invariant.leaves at c.requires.unlocked some

pub free_chunk_of-requires-clause-no_directory : goal.free_chunk_of-requires-clause-no_directory
free_chunk_of-requires-clause-no_directory c some directory =
    let at = named_at c.args.heap.now.bytes c.header_in.result.now c.sys_body_found.result.now c.args.opened.db.0 c.loop-index.index c.slot_count-count.result c.slot_at-slot.result.0 c.header_in.ensures.is
    (c.sys_body_found.ensures ∙ header_like c.args.heap.now.bytes c.loop-index.heap.bytes c.args.opened.db.0 c.loop-index.index c.requires.accepted c.requires.opened.number c.loop-index.invariant.leaves) c.slot_count-count.ensures c.loop-index-test.true c.slot_at-slot.ensures in
    slot_other c.args.heap.now.bytes c.loop-index.heap.bytes c.args.opened.db.0 c.loop-index.index c.slot_at-slot.result.0 c.requires.accepted c.requires.opened.number c.loop-index.invariant.leaves.frame.directory at some directory

pub loop-index-preserved : goal.loop-index-preserved
loop-index-preserved c =
    let at = named_at c.args.heap.now.bytes c.header_in.result.now c.sys_body_found.result.now c.args.opened.db.0 c.loop-index.index c.slot_count-count.result c.slot_at-slot.result.0 c.header_in.ensures.is
    (c.sys_body_found.ensures ∙ header_like c.args.heap.now.bytes c.loop-index.heap.bytes c.args.opened.db.0 c.loop-index.index c.requires.accepted c.requires.opened.number c.loop-index.invariant.leaves) c.slot_count-count.ensures c.loop-index-test.true c.slot_at-slot.ensures in
    let next = freed_next c.args.heap.now.bytes c.loop-index.heap.bytes c.free_chunk_of.new.heap.bytes c.args.opened.db.0 c.loop-index.index c.slot_at-slot.result.0 at c.loop-index.invariant.leaves (freed_one c.loop-index.heap.bytes c.free_chunk_of.new.heap.bytes c.slot_at-slot.result.0 c.free_chunk_of.ensures.leaves) in
    record {
      leaves = next;
      stands = stands_still c.loop-index.heap.bytes c.free_chunk_of.new.heap.bytes c.args.opened.db.0 c.args.opened.chunk c.loop-index.invariant.leaves.frame.accepted next.frame.accepted c.loop-index.invariant.stands
          (header_held c.args.heap.now.bytes c.free_chunk_of.new.heap.bytes c.args.opened.db.0 (c.loop-index.index + 1) c.requires.accepted c.requires.opened.number next
          ∙ sym (header_held c.args.heap.now.bytes c.loop-index.heap.bytes c.args.opened.db.0 c.loop-index.index c.requires.accepted c.requires.opened.number c.loop-index.invariant.leaves)) c.free_chunk_of.ensures.unmoved;
      kept = writes_then c.args.heap.now c.loop-index.heap c.free_chunk_of.new.heap
          c.loop-index.invariant.kept c.free_chunk_of.ensures.kept;
    }

pub sys_body_found-requires-clause-here : goal.sys_body_found-requires-clause-here
sys_body_found-requires-clause-here c = managers_here c.loop-index.heap c.args.opened.db.0 (header_owner c.args.heap.now.bytes c.loop-index.heap.bytes c.args.opened.db.0 c.loop-index.index c.requires.accepted c.requires.opened.number c.loop-index.invariant.leaves)
