-- `match_names` takes the mark away from each slot that the chunk named in it holds, by the laws of
-- NameLaws.
use Rattle.heap_check.proofs.Laws.{ℕ, ◌+◌, sym, subst, arith, ◌↔◌, ◌⊎◌, IsTrue, Names, ManagersBy, HasPassed, passed_there, passed_size, NotesNames, names_more, names_all}
use Rattle.heap_check.proofs.chained.match_names.Goals as goal

pub at_with_size-header-requires-clause-chunk : goal.at_with_size-header-requires-clause-chunk
at_with_size-header-requires-clause-chunk c = let len = c.len.ensures in
    passed_there c.args.region.now.bytes (NotesNames c.args.region.now.bytes c.loop-at.names
    c.loop-at.marks) c.loop-at.at c.requires.tiles c.loop-at.invariant.passed (omega arith)

pub take_named-named-requires-clause-small : goal.take_named-named-requires-clause-small
take_named-named-requires-clause-small c =
    let size = passed_size c.args.region.now.bytes c.loop-at.at c.at_with_size-header.result.0
    c.at_with_size-header.ensures.header in
    let least = size.0 in
    let inside = size.1 in
    let most = c.requires.tiles.head.most in
    omega arith

pub take_named-named-requires-clause-slots : goal.take_named-named-requires-clause-slots
take_named-named-requires-clause-slots c =
    λ word has. ((c.loop-at.invariant.passed.holds.left word).0 has).0.0

pub loop-at-preserved : goal.loop-at-preserved
loop-at-preserved c =
    let image = c.args.region.now.bytes in
    let header = c.at_with_size-header.result.0 in
    let marks = c.take_named-named.new.marks in
    let room = c.loop-at.invariant.room in
    let len = c.take_named-named.ensures.len in
    let names : Names =
    record { without_slot = c.note-names.result; directory = c.is_directory.result } in
    record {
      passed = subst (λ (n : ℕ). HasPassed image (NotesNames image names marks) (c.loop-at.at + n))
          (sym c.at_with_size-header.ensures.size)
          (names_more image c.loop-at.at header c.loop-at.names names c.loop-at.marks marks
          c.requires.tiles c.loop-at.invariant.passed c.at_with_size-header.ensures.header record {
            named = c.take_named-named.result;
            decides = c.take_named-named.ensures.named;
            without = c.note-names.ensures;
            directory = subst (λ (w : ℕ). IsTrue c.is_directory.result
                ↔ (IsTrue c.loop-at.names.directory ⊎ ManagersBy w header)) c.directory-word.ensures
                c.is_directory.ensures;
            taken = c.take_named-named.ensures.taken;
          });
      room = omega arith;
    }

pub returns-clause-without : goal.returns-clause-without
returns-clause-without c = let len = c.len.ensures in (names_all c.args.region.now.bytes
    c.loop-at.at c.loop-at.names c.loop-at.marks (omega arith) c.loop-at.invariant.passed).without

pub returns-clause-directory : goal.returns-clause-directory
returns-clause-directory c = let len = c.len.ensures in (names_all c.args.region.now.bytes
    c.loop-at.at c.loop-at.names c.loop-at.marks (omega arith) c.loop-at.invariant.passed).directory

pub returns-clause-left : goal.returns-clause-left
returns-clause-left c = let len = c.len.ensures in (names_all c.args.region.now.bytes c.loop-at.at
    c.loop-at.names c.loop-at.marks (omega arith) c.loop-at.invariant.passed).left
