-- `check_area` returns the first fault, or the survey of an accepted image and its owners, by the
-- laws of CheckLaws and OwnerLaws.
use Rattle.heap_check.proofs.Laws.{map, ◌∙◌, refl, sym, arith, length-map, false≢true, one_total, one_lies, whole_table, surveyed_mismatch, surveyed_without, surveyed_owner, passed_paired, passed_directory, passed_heap}
use Rattle.heap_check.proofs.OwnerLaws.{all_owners}
use Rattle.heap_check.proofs.check.check_area.Goals as goal

pub survey_chunks-requires-clause-has_table : goal.survey_chunks-requires-clause-has_table
survey_chunks-requires-clause-has_table g c = let fits = c.requires.head.a_chunk_fits in
    whole_table c.args.region.now c.requires.whole
    (one_lies c.args.region.now.bytes c.requires.plain (omega arith))

pub survey_chunks-requires-clause-room : goal.survey_chunks-requires-clause-room
survey_chunks-requires-clause-room g c = let total =
    one_total c.args.region.now.bytes c.requires.plain in omega (arith, total)

pub find_unmarked-requires-clause-has_table : goal.find_unmarked-requires-clause-has_table
find_unmarked-requires-clause-has_table g c = let fits = c.requires.head.a_chunk_fits in
    whole_table c.args.region.now c.requires.whole
    (one_lies c.args.region.now.bytes c.requires.plain (omega arith))

pub find_unmarked-requires-clause-room : goal.find_unmarked-requires-clause-room
find_unmarked-requires-clause-room g c = let total =
    one_total c.args.region.now.bytes c.requires.plain in omega (arith, total)

pub has_directory-requires-clause-has_table : goal.has_directory-requires-clause-has_table
has_directory-requires-clause-has_table g c = let fits = c.requires.head.a_chunk_fits in
    whole_table c.args.region.now c.requires.whole
    (one_lies c.args.region.now.bytes c.requires.plain (omega arith))

pub returns-in-Some-clause-fault : goal.returns-in-Some-clause-fault
returns-in-Some-clause-fault g c = surveyed_mismatch c.args.region.now.bytes c.in-Ok.survey _
    c.in-Some.slot c.requires.plain c.requires.head c.in-Ok.ensures.surveyed c.in-Some.ensures.some

pub returns-in-Some-without_slot-clause-fault : goal.returns-in-Some-without_slot-clause-fault
returns-in-Some-without_slot-clause-fault g c = surveyed_without c.args.region.now.bytes
    c.in-Ok.survey _ c.in-Some-without_slot.at c.requires.plain c.requires.head
    c.in-Ok.ensures.surveyed c.in_default.ensures.none c.in-Some-without_slot.is

pub returns-in-Some-bad_owner-clause-fault : goal.returns-in-Some-bad_owner-clause-fault
returns-in-Some-bad_owner-clause-fault g c = surveyed_owner c.args.region.now.bytes c.in-Ok.survey _
    c.in-Some-bad_owner.at c.requires.plain c.requires.head c.in-Ok.ensures.surveyed
    c.in_default.ensures.none c.in_default-without_slot.is c.in-Some-bad_owner.is

pub has_directory-requires-clause-paired : goal.has_directory-requires-clause-paired
has_directory-requires-clause-paired g c =
    passed_paired c.args.region.now.bytes c.in-Ok.survey _ record {
      plain = c.requires.plain;
      head = c.requires.head;
      surveyed = c.in-Ok.ensures.surveyed;
      marked = c.in_default.ensures.none;
      without_slot = c.in_default-without_slot.is;
      bad_owner = c.in_default-bad_owner.is;
    }

pub returns-then-not-has_directory-clause-fault : goal.returns-then-not-has_directory-clause-fault
returns-then-not-has_directory-clause-fault g c =
    passed_directory c.args.region.now.bytes c.in-Ok.survey _ record {
      plain = c.requires.plain;
      head = c.requires.head;
      surveyed = c.in-Ok.ensures.surveyed;
      marked = c.in_default.ensures.none;
      without_slot = c.in_default-without_slot.is;
      bad_owner = c.in_default-bad_owner.is;
    } (λ has. false≢true (c.if-not-has_directory.ensures.1 has))

pub returns-clause-accepted : goal.returns-clause-accepted
returns-clause-accepted g c = passed_heap c.args.region.now.bytes c.in-Ok.survey _ record {
  plain = c.requires.plain;
  head = c.requires.head;
  surveyed = c.in-Ok.ensures.surveyed;
  marked = c.in_default.ensures.none;
  without_slot = c.in_default-without_slot.is;
  bad_owner = c.in_default-bad_owner.is;
} (c.if-not-has_directory.ensures.0 refl)

pub returns-clause-summary : goal.returns-clause-summary
returns-clause-summary g c =
    let s = c.in-Ok.ensures.surveyed.surveys in
    record {
      size = c.len.ensures;
      slots = c.count.ensures ∙ c.of-table.ensures.1
          ∙ sym (one_total c.args.region.now.bytes c.requires.plain);
      movable = s.movable;
      fixed = s.fixed;
      free = s.free;
    }

pub returns-clause-owners : goal.returns-clause-owners
returns-clause-owners g c notes =
    let was = length-map c.args.marks.now g.M.Mark.says in
    let is = length-map c.survey_chunks.new.marks g.M.Mark.says in
    let len = c.survey_chunks.ensures.len in
    let total = one_total c.args.region.now.bytes c.requires.plain in
    all_owners g.M.Mark.notes c.args.region.now.bytes (map g.M.Mark.says c.args.marks.now) _
    (passed_heap c.args.region.now.bytes c.in-Ok.survey _ record {
      plain = c.requires.plain;
      head = c.requires.head;
      surveyed = c.in-Ok.ensures.surveyed;
      marked = c.in_default.ensures.none;
      without_slot = c.in_default-without_slot.is;
      bad_owner = c.in_default-bad_owner.is;
    } (c.if-not-has_directory.ensures.0 refl)) record {
      notes_owners = notes;
      plain = c.requires.plain;
      room = omega arith;
      len = omega arith;
      clear = c.requires.clear;
      every = c.in_default.ensures.none;
      noted = c.in-Ok.ensures.noted;
      beyond = c.survey_chunks.ensures.beyond;
    }
