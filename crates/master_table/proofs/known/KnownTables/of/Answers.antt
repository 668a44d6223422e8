use Rattle.std.proofs.Common.{refl}
use Rattle.master_table.proofs.FurtherLaws.{walk_first, walk_on}
use Rattle.master_table.proofs.LentLaws.{walk_within}
use Rattle.master_table.proofs.known.KnownTables.of.Goals as goal

pub loop-next-init : goal.loop-next-init
loop-next-init c = record {
  walks = walk_first c.args.region.now.bytes _ c.first_next-next.ensures;
  knows = c.none-known.ensures c.args.region.now.bytes;
}

pub get_u32-next-requires : goal.get_u32-next-requires
get_u32-next-requires c = walk_within c.args.region.now c.loop-next.next c.requires.tiled c.requires.lent c.loop-next.invariant.walks c.loop-next-test.true

pub loop-next-smaller : goal.loop-next-smaller
loop-next-smaller c = (walk_on c.args.region.now.bytes c.loop-next.next c.get_u32-next.result c.requires.tiled c.loop-next.invariant.walks c.loop-next-test.true c.get_u32-next.ensures).fewer

pub add-requires-clause-table : goal.add-requires-clause-table
add-requires-clause-table c = (walk_on c.args.region.now.bytes c.loop-next.next _ c.requires.tiled c.loop-next.invariant.walks c.loop-next-test.true refl).here

pub loop-next-preserved : goal.loop-next-preserved
loop-next-preserved c = record {
  walks = (walk_on c.args.region.now.bytes c.loop-next.next c.get_u32-next.result c.requires.tiled c.loop-next.invariant.walks c.loop-next-test.true c.get_u32-next.ensures).walks;
  knows = c.add.ensures;
}
