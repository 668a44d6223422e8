-- `packed` returns the file of the given values, by the laws of WriteLaws.
use Rattle.palmheap_c.proofs.Words.{inr, refl, ◌∙◌, given_by}
use Rattle.palmheap_c.proofs.WriteLaws.{file_from_c}
use Rattle.palmheap_c.proofs.writing.packed.Goals as goal

pub returns-in-Ok-pack_exact-clause-ok : goal.returns-in-Ok-pack_exact-clause-ok
returns-in-Ok-pack_exact-clause-ok c = file_from_c (given_by c.args.given.now) c.args.exact
    c.deref.result.now c.in-Ok-pack_exact.bytes.items c.requires.inside c.requires.good
    c.requires.text (c.deref.ensures.value ∙ c.in-Ok.ensures.parts)
    c.in-Ok-pack_exact.ensures.packed c.in-Ok-pack_exact.ensures.fits

pub returns-clause-err : goal.returns-clause-err
returns-clause-err c =
    inr (inr (refl, c.pack_exact.ensures.short (let is = c.in-Err-OutOfMemory.is in cc)))
