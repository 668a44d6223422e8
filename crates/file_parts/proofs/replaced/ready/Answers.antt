-- `ready` lays a file with a block replaced out, by the laws of ReplacedFiles and ReplacedSound.
use Rattle.file_parts.proofs.AllLaws.{refl, exact_of, exactly_in, part_empty, place_why}
use Rattle.file_parts.proofs.replaced.ready.Goals as goal

pub returns-then-not-is_in_order-clause-why : goal.returns-then-not-is_in_order-clause-why
returns-then-not-is_in_order-clause-why g c =
    let r = c.args.replacing in
    let found = c.if-not-is_in_order.ensures.no refl in (
      part_empty r found.0 c.requires found.1,
      (exact_of r.unpacked, exactly_in r c.requires, (found.0, found.1)),
    )

pub returns-clause-why : goal.returns-clause-why
returns-clause-why g c =
    place_why _ c.in-Err.fault _ c.requires c.replace_fault.ensures c.in-Err.ensures.large
