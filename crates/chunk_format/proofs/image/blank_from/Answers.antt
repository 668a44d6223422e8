use Rattle.std.proofs.Common.{refl, arith}
use Rattle.chunk_format.specs.Blank.{LeavesRoom}
use Rattle.chunk_format.proofs.EmptyLaws.{blank_accepted, blank_empty}
use Rattle.chunk_format.proofs.image.blank_from.Goals as goal

pub returns-in_default-clause-slots : goal.returns-in_default-clause-slots
returns-in_default-clause-slots g c =
    let start = c.start_behind-start.ensures in
    let room : LeavesRoom c.args.size c.args.slots = record { some_slot = omega arith; a_chunk_fits = omega arith } in
    (λ same. absurd (cc), λ none. absurd (none.1 room))

pub write_blank-requires-clause-planned : goal.write_blank-requires-clause-planned
write_blank-requires-clause-planned g c =
    let start = c.start_behind-start.ensures in
    record {
      start_is = start;
      size_right = c.if-not-is_image_size.ensures.0 refl;
      room = record { some_slot = omega arith; a_chunk_fits = omega arith };
      slots_fit = omega arith;
    }

pub returns-clause-accepted : goal.returns-clause-accepted
returns-clause-accepted g c = blank_accepted c.args.size c.args.slots c.write_blank.new.region.bytes c.write_blank.ensures.blank

pub returns-clause-empty : goal.returns-clause-empty
returns-clause-empty g c = blank_empty c.args.size c.args.slots c.write_blank.new.region.bytes c.write_blank.ensures.blank
