-- `note_owners` marks each slot with the owner of its chunk, by the laws of NotingLaws.
use Rattle.heap_check.proofs.Laws.{ℕ, ◌+◌, ◌<◌, length, refl, sym, subst, arith, read_heap, HasPassed, passed_none, passed_there, NotesSlots, notes_none, names_room, notes_more, notes_all}
use Rattle.heap_check.proofs.owners.note_owners.Goals as goal

pub loop-at-init : goal.loop-at-init
loop-at-init c =
    let fits = (read_heap c.args.region.now.bytes c.requires.accepted).tiles.head.a_chunk_fits in
    record {
      passed = passed_none c.args.region.now.bytes
          (NotesSlots c.args.region.now.bytes c.args.owners.now) _ c.area_start-at.ensures
          (omega arith) (notes_none c.args.region.now.bytes c.args.owners.now c.requires.clear);
      room = refl;
    }

pub at_with_size-header-requires-clause-chunk : goal.at_with_size-header-requires-clause-chunk
at_with_size-header-requires-clause-chunk c = let len = c.len.ensures in
    passed_there c.args.region.now.bytes (NotesSlots c.args.region.now.bytes c.loop-at.owners)
    c.loop-at.at (read_heap c.args.region.now.bytes c.requires.accepted).tiles
    c.loop-at.invariant.passed (omega arith)

pub note_owner-requires : goal.note_owner-requires
note_owner-requires c =
    let room = c.loop-at.invariant.room in
    record {
      room = names_room c.args.region.now.bytes c.loop-at.at c.at_with_size-header.result.0
          c.loop-at.owners (length c.loop-at.owners) c.requires.accepted c.loop-at.invariant.passed
          c.at_with_size-header.ensures.header
          (λ number s. subst (λ (n : ℕ). number < n) (sym room) (c.requires.room number s));
    }

pub loop-at-preserved : goal.loop-at-preserved
loop-at-preserved c =
    let image = c.args.region.now.bytes in
    let owners = c.note_owner.new.owners in
    let room = c.loop-at.invariant.room in
    let len = c.note_owner.ensures.len in
    record {
      passed = subst (λ (n : ℕ). HasPassed image (NotesSlots image owners) (c.loop-at.at + n))
          (sym c.at_with_size-header.ensures.size)
          (notes_more image c.loop-at.at c.at_with_size-header.result.0 c.loop-at.owners owners
          c.requires.accepted len c.loop-at.invariant.passed c.at_with_size-header.ensures.header
          c.note_owner.ensures.noted);
      room = omega arith;
    }

pub returns-clause-noted : goal.returns-clause-noted
returns-clause-noted c =
    let len = c.len.ensures in
    let room = c.loop-at.invariant.room in
    notes_all c.args.region.now.bytes c.loop-at.at c.loop-at.owners c.requires.accepted
    (omega arith) (λ number s. subst (λ (n : ℕ). number < n) (sym room) (c.requires.room number s))
    c.loop-at.invariant.passed
