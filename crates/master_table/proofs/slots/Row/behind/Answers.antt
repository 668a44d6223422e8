use Rattle.std.proofs.Common.{arith, refl}
use Rattle.master_table.proofs.RowLaws.{row_bounds, next_stands, has_live, row_behind}
use Rattle.master_table.proofs.LentLaws.{next_reads}
use Rattle.master_table.proofs.slots.Row.behind.Goals as goal

pub overflow_sub-self : goal.overflow_sub-self
overflow_sub-self c = (next_stands c.args.region.now.bytes c.args.self c.requires.tiled c.requires.row c.requires.more).stands.low

pub live_fields-fields-requires-clause-live : goal.live_fields-fields-requires-clause-live
live_fields-fields-requires-clause-live c = has_live c.args.region.now.bytes c.args.self.next (next_stands c.args.region.now.bytes c.args.self c.requires.tiled c.requires.row c.requires.more)

pub live_fields-fields-requires-clause-misses : goal.live_fields-fields-requires-clause-misses
live_fields-fields-requires-clause-misses c = (next_reads c.args.region.now c.args.self.next c.requires.tiled c.requires.lent (next_stands c.args.region.now.bytes c.args.self c.requires.tiled c.requires.row c.requires.more)).header.misses

pub overflow_add-result : goal.overflow_add-result
overflow_add-result c =
    let n = next_stands c.args.region.now.bytes c.args.self c.requires.tiled c.requires.row c.requires.more in
    let inside = n.stands.inside in
    let small = (row_bounds c.args.region.now.bytes c.args.self c.requires.tiled c.requires.row).small in
    omega arith

pub overflow_sub-result : goal.overflow_sub-result
overflow_sub-result c =
    let n = next_stands c.args.region.now.bytes c.args.self c.requires.tiled c.requires.row c.requires.more in
    let told = (c.live_fields-fields.ensures n.stands.bytes 15 0 0 n.stands.live).0 in
    let long = n.stands.long in
    omega arith

pub overflow_add-result-2 : goal.overflow_add-result-2
overflow_add-result-2 c =
    let b = row_bounds c.args.region.now.bytes c.args.self c.requires.tiled c.requires.row in
    let numbers = b.numbers in
    let small = b.small in
    omega arith

pub get_u32-requires : goal.get_u32-requires
get_u32-requires c = (next_reads c.args.region.now c.args.self.next c.requires.tiled c.requires.lent (next_stands c.args.region.now.bytes c.args.self c.requires.tiled c.requires.row c.requires.more)).next

pub returns : goal.returns
returns c =
    let n = next_stands c.args.region.now.bytes c.args.self c.requires.tiled c.requires.row c.requires.more in
    let told = (c.live_fields-fields.ensures n.stands.bytes 15 0 0 n.stands.live).0 in
    let long = n.stands.long in
    row_behind c.args.region.now.bytes c.args.self _ c.requires.tiled c.requires.row n refl (omega arith) refl c.get_u32.ensures refl
