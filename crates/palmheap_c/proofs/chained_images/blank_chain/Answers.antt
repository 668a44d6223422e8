-- `blank_chain` returns a blank image with a chain of one table, or reports out of memory only if
-- an allocation failed.
use Rattle.palmheap_c.proofs.Laws.{inr, refl, rules, IsRegionSize, chain_made}
use Rattle.palmheap_c.proofs.chained_images.blank_chain.Goals as goal

pub returns-in-Ok-clause-made : goal.returns-in-Ok-clause-made
returns-in-Ok-clause-made c =
    let is : IsRegionSize c.args.size = c.is_image_size.ensures.0 (search rules) in
    chain_made c.args.size c.args.slots c.growth.result c.in-Ok.region.bytes c.chained.result is
    c.growth.ensures.is c.growth.ensures.few c.in-Ok.ensures.blank c.in-Ok.ensures.accepted
    c.chained.ensures.bytes

pub returns-in-Err-OutOfMemory-clause-refused : goal.returns-in-Err-OutOfMemory-clause-refused
returns-in-Err-OutOfMemory-clause-refused c = inr (inr (
  refl,
  c.blank.ensures.no_memory (let is = c.in-Err-OutOfMemory.is in
      let what = c.in-Err-OutOfMemory.field-0-is in cc),
))
