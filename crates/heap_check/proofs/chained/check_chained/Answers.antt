-- `check_chained` returns the first fault, or what an accepted image contains, by the laws of
-- CheckLaws and ChainedLaws.
use Rattle.heap_check.proofs.Laws.{first_chunk, first_table, first_directory, faultless_heap, followed_tiles, left_mismatch, names_without, named_all, stray_owner, owned_all, not_so, is_so}
use Rattle.heap_check.proofs.chained.check_chained.Goals as goal

pub returns-in-Err-clause-fault : goal.returns-in-Err-clause-fault
returns-in-Err-clause-fault c =
    first_chunk c.args.region.now.bytes c.in-Err.at c.requires.head c.in-Err.ensures.stuck

pub returns-in-Err-follow-clause-fault : goal.returns-in-Err-follow-clause-fault
returns-in-Err-follow-clause-fault c = first_table c.args.region.now.bytes c.in-Err-follow.number
    c.requires.head c.in-Err-follow.ensures.bad

pub find_stray-stray-requires-clause-tiles : goal.find_stray-stray-requires-clause-tiles
find_stray-stray-requires-clause-tiles c =
    followed_tiles c.args.region.now.bytes c.in-Ok.bodies c.in-Ok-follow.chain c.follow.new.marks
    c.requires.head c.in-Ok.ensures.found c.in-Ok-follow.ensures.followed

pub mark_slots-requires-clause-tiles : goal.mark_slots-requires-clause-tiles
mark_slots-requires-clause-tiles c =
    followed_tiles c.args.region.now.bytes c.in-Ok.bodies c.in-Ok-follow.chain c.follow.new.marks
    c.requires.head c.in-Ok.ensures.found c.in-Ok-follow.ensures.followed

pub match_names-names-requires-clause-tiles : goal.match_names-names-requires-clause-tiles
match_names-names-requires-clause-tiles c =
    followed_tiles c.args.region.now.bytes c.in-Ok.bodies c.in-Ok-follow.chain c.follow.new.marks
    c.requires.head c.in-Ok.ensures.found c.in-Ok-follow.ensures.followed

pub find_left-requires-clause-tiles : goal.find_left-requires-clause-tiles
find_left-requires-clause-tiles c =
    followed_tiles c.args.region.now.bytes c.in-Ok.bodies c.in-Ok-follow.chain c.follow.new.marks
    c.requires.head c.in-Ok.ensures.found c.in-Ok-follow.ensures.followed

pub returns-in-Some-clause-fault : goal.returns-in-Some-clause-fault
returns-in-Some-clause-fault c = left_mismatch c.args.region.now.bytes c.in-Some.slot
    (followed_tiles c.args.region.now.bytes c.in-Ok.bodies c.in-Ok-follow.chain c.follow.new.marks
    c.requires.head c.in-Ok.ensures.found c.in-Ok-follow.ensures.followed) c.in-Some.ensures.some

pub returns-in-Some-without_slot-clause-fault : goal.returns-in-Some-without_slot-clause-fault
returns-in-Some-without_slot-clause-fault c = names_without c.args.region.now.bytes
    c.in-Some-without_slot.at c.match_names-names.result.without_slot
    (followed_tiles c.args.region.now.bytes c.in-Ok.bodies c.in-Ok-follow.chain c.follow.new.marks
    c.requires.head c.in-Ok.ensures.found c.in-Ok-follow.ensures.followed) c.in_default.ensures.none
    c.match_names-names.ensures.without c.in-Some-without_slot.is

pub returns-in-Some-stray-clause-fault : goal.returns-in-Some-stray-clause-fault
returns-in-Some-stray-clause-fault c =
    stray_owner c.args.region.now.bytes c.in-Some-stray.at c.find_stray-stray.result
    (followed_tiles c.args.region.now.bytes c.in-Ok.bodies c.in-Ok-follow.chain c.follow.new.marks
    c.requires.head c.in-Ok.ensures.found c.in-Ok-follow.ensures.followed) c.in_default.ensures.none
    (named_all c.args.region.now.bytes c.match_names-names.result.without_slot
    c.match_names-names.ensures.without c.in_default-without_slot.is)
    c.find_stray-stray.ensures.first c.in-Some-stray.is

pub returns-then-not-names-clause-fault : goal.returns-then-not-names-clause-fault
returns-then-not-names-clause-fault c =
    first_directory c.args.region.now.bytes c.in_default.ensures.none
    (named_all c.args.region.now.bytes c.match_names-names.result.without_slot
    c.match_names-names.ensures.without c.in_default-without_slot.is)
    (owned_all c.args.region.now.bytes c.find_stray-stray.result c.find_stray-stray.ensures.first
    c.in_default-stray.is) (
      followed_tiles c.args.region.now.bytes c.in-Ok.bodies c.in-Ok-follow.chain c.follow.new.marks
          c.requires.head c.in-Ok.ensures.found c.in-Ok-follow.ensures.followed,
      λ has. not_so c.match_names-names.result.directory c.if-not-names.true
          (c.match_names-names.ensures.directory.1 has),
    )

pub returns-clause-accepted : goal.returns-clause-accepted
returns-clause-accepted c = faultless_heap c.args.region.now.bytes
    (followed_tiles c.args.region.now.bytes c.in-Ok.bodies c.in-Ok-follow.chain c.follow.new.marks
    c.requires.head c.in-Ok.ensures.found c.in-Ok-follow.ensures.followed) c.in_default.ensures.none
    (named_all c.args.region.now.bytes c.match_names-names.result.without_slot
    c.match_names-names.ensures.without c.in_default-without_slot.is)
    (owned_all c.args.region.now.bytes c.find_stray-stray.result c.find_stray-stray.ensures.first
    c.in_default-stray.is) (c.match_names-names.ensures.directory.0
    (is_so c.match_names-names.result.directory c.if-not-names.false))

pub returns-clause-summary : goal.returns-clause-summary
returns-clause-summary c =
    let found = c.in-Ok.ensures.found in
    record {
      size = c.len.ensures;
      slots = c.in-Ok-follow.ensures.followed.slots;
      movable = found.movable;
      fixed = found.fixed;
      free = found.free;
    }
