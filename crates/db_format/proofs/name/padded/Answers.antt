use Rattle.db_format.proofs.NameLaws.{padded_field, name_of_field, is_field}
use Rattle.db_format.proofs.name.padded.Goals as goal

pub invariant_of-result : goal.invariant_of-result
invariant_of-result c = is_field c.args.name.now _ c.requires (padded_field c.args.name.now _ c.copy_from_slice.ensures.after)

pub returns : goal.returns
returns c = name_of_field c.args.name.now _ c.requires (padded_field c.args.name.now _ c.copy_from_slice.ensures.after)
