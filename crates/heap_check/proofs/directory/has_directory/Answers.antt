-- `has_directory` decides whether the directory word is right, by the laws of DirectoryLaws.
use Rattle.heap_check.proofs.Words.{false≢true, IsSlot, stands_slot, slot_within}
use Rattle.heap_check.proofs.DirectoryLaws.{directory_decided, no_directory}
use Rattle.heap_check.proofs.directory.has_directory.Goals as goal

pub get_u32-requires : goal.get_u32-requires
get_u32-requires c =
    let image = c.args.region.now.bytes in
    slot_within c.args.region.now c.directory-slot.result c.requires.has_table (stands_slot image
    c.directory-slot.result c.in-Some.field-0 (c.in-Some.ensures.some image c.requires.table))

pub returns-in-Some : goal.returns-in-Some
returns-in-Some c =
    let image = c.args.region.now.bytes in
    let is_slot : IsSlot image c.directory-slot.result = stands_slot image c.directory-slot.result
    c.in-Some.field-0 (c.in-Some.ensures.some image c.requires.table) in
    let d = directory_decided image c.directory-slot.result c.get_u32.result c.requires.paired
    c.directory-slot.ensures c.if-slot-eq0.false is_slot c.get_u32.ensures in
    (λ yes. d.0 (c.is_managers.ensures.0 yes), λ has. c.is_managers.ensures.1 (d.1 has))

pub returns-in-None : goal.returns-in-None
returns-in-None c =
    let image = c.args.region.now.bytes in (
      λ yes. absurd (false≢true yes),
      λ has. absurd (no_directory image c.directory-slot.result c.requires.paired
          c.directory-slot.ensures c.if-slot-eq0.false
          (λ s. c.in-None.ensures.none image c.requires.table s) has),
    )
