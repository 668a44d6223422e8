use Rattle.std.proofs.Common.{length}
use Rattle.master_table.specs.Table.{tables_from}
use Rattle.master_table.specs.Known.{KnowsTables}
use Rattle.master_table.proofs.FurtherLaws.{WalksTables}
use Rattle.master_table.proofs.known.KnownTables.of.Given as goal

abbrev pub invariant-loop-next : goal.invariant-loop-next
invariant-loop-next l = record {
  walks : WalksTables l.region.bytes l.next;
  knows : KnowsTables l.region.bytes l.known;
}

abbrev pub decreases-loop-next : goal.decreases-loop-next
decreases-loop-next l = length (tables_from l.region.bytes l.next)
