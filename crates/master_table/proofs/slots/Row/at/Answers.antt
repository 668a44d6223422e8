use Rattle.std.proofs.Common.{refl, sym, ◌∙◌, arith}
use Rattle.master_table.proofs.RowLaws.{further_start, first_start, start_stands, start_row, has_live}
use Rattle.master_table.proofs.LentLaws.{next_reads}
use Rattle.master_table.proofs.slots.Row.at.Goals as goal

pub returns-then-start-eq0-clause-start : goal.returns-then-start-eq0-clause-start
returns-then-start-eq0-clause-start c = c.of.ensures.start ∙ sym (first_start c.args.region.now.bytes c.args.start.place c.args.start.before c.requires.tiled c.requires.start c.if-start-eq0.true)

pub overflow_sub-start : goal.overflow_sub-start
overflow_sub-start c =
    let s = further_start c.args.region.now.bytes c.args.start.place c.args.start.before c.requires.start c.if-start-eq0.false in
    (start_stands c.args.region.now.bytes c.args.start.place c.args.start.before c.requires.tiled s).next.stands.low

pub live_fields-fields-requires-clause-live : goal.live_fields-fields-requires-clause-live
live_fields-fields-requires-clause-live c =
    let s = further_start c.args.region.now.bytes c.args.start.place c.args.start.before c.requires.start c.if-start-eq0.false in
    has_live c.args.region.now.bytes c.args.start.place (start_stands c.args.region.now.bytes c.args.start.place c.args.start.before c.requires.tiled s).next

pub live_fields-fields-requires-clause-misses : goal.live_fields-fields-requires-clause-misses
live_fields-fields-requires-clause-misses c =
    let s = further_start c.args.region.now.bytes c.args.start.place c.args.start.before c.requires.start c.if-start-eq0.false in
    (next_reads c.args.region.now c.args.start.place c.requires.tiled c.requires.lent (start_stands c.args.region.now.bytes c.args.start.place c.args.start.before c.requires.tiled s).next).header.misses

pub overflow_add-result : goal.overflow_add-result
overflow_add-result c =
    let s = further_start c.args.region.now.bytes c.args.start.place c.args.start.before c.requires.start c.if-start-eq0.false in
    let inside = (start_stands c.args.region.now.bytes c.args.start.place c.args.start.before c.requires.tiled s).next.stands.inside in
    let most = c.requires.tiled.1.head.most in
    omega arith

pub overflow_sub-result : goal.overflow_sub-result
overflow_sub-result c =
    let s = further_start c.args.region.now.bytes c.args.start.place c.args.start.before c.requires.start c.if-start-eq0.false in
    let n = (start_stands c.args.region.now.bytes c.args.start.place c.args.start.before c.requires.tiled s).next in
    let told = (c.live_fields-fields.ensures n.stands.bytes 15 0 0 n.stands.live).0 in
    let long = n.stands.long in
    omega arith

pub get_u32-requires : goal.get_u32-requires
get_u32-requires c =
    let s = further_start c.args.region.now.bytes c.args.start.place c.args.start.before c.requires.start c.if-start-eq0.false in
    (next_reads c.args.region.now c.args.start.place c.requires.tiled c.requires.lent (start_stands c.args.region.now.bytes c.args.start.place c.args.start.before c.requires.tiled s).next).next

pub returns-clause-row : goal.returns-clause-row
returns-clause-row c =
    let image = c.args.region.now.bytes in
    let s = further_start image c.args.start.place c.args.start.before c.requires.start c.if-start-eq0.false in
    let st = start_stands image c.args.start.place c.args.start.before c.requires.tiled s in
    let told = (c.live_fields-fields.ensures st.next.stands.bytes 15 0 0 st.next.stands.live).0 in
    let long = st.next.stands.long in
    start_row image _ c.args.start.place c.args.start.before s st refl refl (omega (arith, told, long)) refl c.get_u32.ensures
