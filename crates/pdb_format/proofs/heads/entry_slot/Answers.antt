-- `entry_slot` reads an entry that lies within the first bytes of the file, by the laws of
-- StartLaws.
use Rattle.std.proofs.Common.{◌≤◌, ◌+◌, Bool, length, sym, subst}
use Rattle.heap_model.specs.Database.{entry_offset}
use Rattle.pdb_format.proofs.StartLaws.{entry_within_start}
use Rattle.pdb_format.proofs.heads.entry_slot.Goals as goal

pub entry_slot-requires-clause-inside : goal.entry_slot-requires-clause-inside
entry_slot-requires-clause-inside g c =
    subst (λ (resources : Bool). entry_offset resources (c.args.index + 1)
    ≤ length c.start-start.result.now) (sym c.has_resources.ensures)
    (entry_within_start _ _ c.start-start.ensures c.requires.whole c.args.index c.requires.inside)
