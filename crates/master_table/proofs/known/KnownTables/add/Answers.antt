use Rattle.std.proofs.Common.{arith}
use Rattle.master_table.proofs.FurtherLaws.{further_stands, further_long, table_live, knows_more}
use Rattle.master_table.proofs.LentLaws.{further_reads}
use Rattle.master_table.proofs.known.KnownTables.add.Goals as goal

pub overflow_sub-place : goal.overflow_sub-place
overflow_sub-place c = (further_stands c.args.region.now.bytes c.args.place c.requires.tiled c.requires.table).1.low

pub live_fields-requires-clause-live : goal.live_fields-requires-clause-live
live_fields-requires-clause-live c = let s = further_stands c.args.region.now.bytes c.args.place c.requires.tiled c.requires.table in table_live c.args.region.now.bytes c.args.place s.0 s.1

pub live_fields-requires-clause-misses : goal.live_fields-requires-clause-misses
live_fields-requires-clause-misses c = (further_reads c.args.region.now c.args.place c.requires.tiled c.requires.lent c.requires.table).header.misses

pub returns-then-live_fields-ge-TABLE_LENGTH : goal.returns-then-live_fields-ge-TABLE_LENGTH
returns-then-live_fields-ge-TABLE_LENGTH c =
    knows_more c.args.region.now.bytes c.args.self.now c.remember.new.self c.args.place c.requires.knows c.remember.ensures
    (further_long c.args.region.now.bytes c.args.place c.requires.tiled c.requires.table (λ count s.
    let told = (c.live_fields.ensures s.bytes 15 0 0 s.live).0 in
    let long = s.long in
    let most = c.if-live_fields-ge-TABLE_LENGTH.true in
    omega (arith, told, long, most)))
