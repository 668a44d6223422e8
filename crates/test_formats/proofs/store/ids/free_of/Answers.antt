use Rattle.std.proofs.Common.{refl}
use Rattle.laws_store.proofs.Shapes.{shape_spelled}
use Rattle.test_formats.proofs.store.ids.free_of.Goals as goal

pub free_ids-free-requires-clause-spelled : goal.free_ids-free-requires-clause-spelled
free_ids-free-requires-clause-spelled c =
    let whole = c.if-not-is_whole.ensures.0 refl in
    let name = c.if-not-has_name.ensures.0 refl in
    shape_spelled c.args.bytes.now (λ k. (c.type_inv.bytes k).fits) (record { header = whole.header; name = name; next_list = whole.next_list; ends = whole.ends })

pub free_ids-requires-clause-spelled : goal.free_ids-requires-clause-spelled
free_ids-requires-clause-spelled c =
    let whole = c.if-not-is_whole.ensures.0 refl in
    let name = c.if-not-has_name.ensures.0 refl in
    shape_spelled c.args.bytes.now (λ k. (c.type_inv.bytes k).fits) (record { header = whole.header; name = name; next_list = whole.next_list; ends = whole.ends })
