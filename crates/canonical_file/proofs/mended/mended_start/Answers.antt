-- `mended_start` returns the first bytes of the mended file, by the laws of MendedFiles and
-- MendedStarts.
use Rattle.std.proofs.Common.{◌≤◌, refl, arith}
use Rattle.std.proofs.lemmas.Grind.{common_steps}
use Rattle.canonical_file.specs.Salvage.{sound_in}
use Rattle.canonical_file.proofs.MendedFiles.{entries_within, front_inside}
use Rattle.canonical_file.proofs.MendedStarts.{front_most, start_parts}
use Rattle.canonical_file.proofs.mended.mended_start.Goals as goal

pub append_sound_entries-requires-clause-room : goal.append_sound_entries-requires-clause-room
append_sound_entries-requires-clause-room g c =
    let inside = front_inside c.args.file.now c.know_bytes.ensures c.requires in
    let most = front_most c.args.file.now c.know_bytes.ensures in
    let fits = entries_within c.args.file.now _ c.know_bytes.ensures inside in
    let few = entries_within c.args.file.now _ c.know_bytes.ensures most in
    let none = c.in_ok-start.ensures.len in
    let room = c.in_ok-start.ensures.room in
    let head = c.append.ensures.len in
    let kept = c.append.ensures.capacity in
    omega arith

pub slice_bounds-append-count : goal.slice_bounds-append-count
slice_bounds-append-count g c =
    let inside = front_inside c.args.file.now c.know_bytes.ensures c.requires in
    let most = front_most c.args.file.now c.know_bytes.ensures in
    let fits = entries_within c.args.file.now _ c.know_bytes.ensures inside in
    let few = entries_within c.args.file.now _ c.know_bytes.ensures most in
    let none = c.in_ok-start.ensures.len in
    let head = c.append.ensures.len in
    let entries = c.append_sound_entries.ensures.len in
    omega arith

pub slice_bounds-append-start : goal.slice_bounds-append-start
slice_bounds-append-start g c =
    let inside = front_inside c.args.file.now c.know_bytes.ensures c.requires in
    let most = front_most c.args.file.now c.know_bytes.ensures in
    let fits = entries_within c.args.file.now _ c.know_bytes.ensures inside in
    let few = entries_within c.args.file.now _ c.know_bytes.ensures most in
    let none = c.in_ok-start.ensures.len in
    let head = c.append.ensures.len in
    let entries = c.append_sound_entries.ensures.len in
    omega arith

pub returns-clause-is : goal.returns-clause-is
returns-clause-is g c =
    let inside = front_inside c.args.file.now c.know_bytes.ensures c.requires in
    let most = front_most c.args.file.now c.know_bytes.ensures in
    let fits = entries_within c.args.file.now _ c.know_bytes.ensures inside in
    let few = entries_within c.args.file.now _ c.know_bytes.ensures most in
    let none = c.in_ok-start.ensures.len in
    let head = c.append.ensures.len in
    let entries = c.append_sound_entries.ensures.len in
    let less : c.len-at.result ≤ c.min-size.result = omega arith in
    start_parts c.args.file.now c.in_ok-start.start.items c.append.new.bytes.items
    c.append_sound_entries.new.bytes.items c.append-2.new.bytes.items c.to_bytes.result _
    c.len-at.result c.min-size.result c.in_ok-start.ensures.none c.append.ensures.items
    (c.to_bytes.ensures.is (sound_in c.args.file.now) c.sound_header.ensures)
    c.append_sound_entries.ensures.items c.append-2.ensures.items (grind (arith, common_steps)) refl
    less c.min-size.ensures
