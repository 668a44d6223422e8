-- `find_stray` returns the first fixed chunk of the manager's that is no table, by the laws of
-- StrayLaws.
use Rattle.heap_check.proofs.Laws.{ℕ, ◌+◌, Option, None, refl, sym, subst, arith, size_by, HasPassed, passed_none, passed_whole, passed_there, passed_size, NotesStrays, none_marked_left, first_of_bodies, strays_none, strays_more, strays_all}
use Rattle.heap_check.proofs.chained.find_stray.Goals as goal

pub returns-then-chain-bodies-clause-first : goal.returns-then-chain-bodies-clause-first
returns-then-chain-bodies-clause-first c = first_of_bodies c.args.region.now.bytes c.args.bodies
    c.args.chain c.args.marks.now c.requires.found c.requires.followed c.if-chain-bodies.true

pub returns-then-chain-bodies-clause-clear : goal.returns-then-chain-bodies-clause-clear
returns-then-chain-bodies-clause-clear c = none_marked_left c.args.region.now.bytes c.args.bodies
    c.args.chain c.args.marks.now c.requires.found c.requires.followed c.if-chain-bodies.true

pub loop-at-init : goal.loop-at-init
loop-at-init c =
    let fits = c.requires.tiles.head.a_chunk_fits in
    record {
      passed = passed_none c.args.region.now.bytes (NotesStrays c.args.region.now.bytes None
          c.args.marks.now) _ c.area_start-at.ensures (omega arith)
          (strays_none c.args.region.now.bytes c.args.chain c.args.marks.now c.requires.followed);
      room = refl;
    }

pub at_with_size-header-requires-clause-chunk : goal.at_with_size-header-requires-clause-chunk
at_with_size-header-requires-clause-chunk c = let len = c.len.ensures in
    passed_there c.args.region.now.bytes (NotesStrays c.args.region.now.bytes c.loop-at.first
    c.loop-at.marks) c.loop-at.at c.requires.tiles c.loop-at.invariant.passed (omega arith)

pub take_unknown-requires-clause-small : goal.take_unknown-requires-clause-small
take_unknown-requires-clause-small c =
    let size = passed_size c.args.region.now.bytes c.loop-at.at c.at_with_size-header.result.0
    c.at_with_size-header.ensures.header in
    let least = size.0 in
    let inside = size.1 in
    let most = c.requires.tiles.head.most in
    omega arith

pub take_unknown-requires-clause-whole : goal.take_unknown-requires-clause-whole
take_unknown-requires-clause-whole c = passed_whole c.args.region.now.bytes
    (NotesStrays c.args.region.now.bytes c.loop-at.first c.loop-at.marks) c.loop-at.at
    c.loop-at.invariant.passed

pub loop-at-preserved : goal.loop-at-preserved
loop-at-preserved c =
    let image = c.args.region.now.bytes in
    let header = c.at_with_size-header.result.0 in
    let marks = c.take_unknown.new.marks in
    let room = c.loop-at.invariant.room in
    let len = c.take_unknown.ensures.len in
    let whole = passed_whole image
    (NotesStrays image c.loop-at.first c.loop-at.marks) c.loop-at.at c.loop-at.invariant.passed in
    record {
      passed = subst (λ (n : ℕ). HasPassed image (NotesStrays image c.note-first.result marks)
          (c.loop-at.at + n)) (sym c.at_with_size-header.ensures.size)
          (subst (λ (f : Option ℕ). HasPassed image (NotesStrays image f marks)
          (c.loop-at.at + size_by header)) (sym c.note-first.ensures) (strays_more image
          c.loop-at.at header c.loop-at.first c.take_unknown.result c.loop-at.marks marks
          c.requires.tiles whole c.loop-at.invariant.passed c.at_with_size-header.ensures.header
          c.take_unknown.ensures.known c.take_unknown.ensures.taken));
      room = omega arith;
    }

pub returns-clause-first : goal.returns-clause-first
returns-clause-first c = let len = c.len.ensures in (strays_all c.args.region.now.bytes c.loop-at.at
    c.loop-at.first c.loop-at.marks (omega arith) c.loop-at.invariant.passed).0

pub returns-clause-clear : goal.returns-clause-clear
returns-clause-clear c = let len = c.len.ensures in (strays_all c.args.region.now.bytes c.loop-at.at
    c.loop-at.first c.loop-at.marks (omega arith) c.loop-at.invariant.passed).1
