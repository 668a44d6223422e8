-- `check_region` gives the check enough bits, all of them 0, and refuses an image with its fault,
-- by the laws of AnswerLaws.
use Rattle.std.proofs.Common.{ℕ, length, sym, ap, subst}
use Rattle.bit_sets.specs.Sets.{HasNone}
use Rattle.heap_check.specs.Bits.{AreEnoughBits}
use Rattle.palmheap_c.proofs.AnswerLaws.{image_refused}
use Rattle.palmheap_c.proofs.images.check_region.Goals as goal

pub check_store_with-requires-clause-enough : goal.check_store_with-requires-clause-enough
check_store_with-requires-clause-enough c =
    subst (λ (n : ℕ). AreEnoughBits c.args.region.now.bytes n)
    (sym (ap length c.deref_mut.ensures.value)) c.in-Ok.ensures.enough

pub check_store_with-requires-clause-none : goal.check_store_with-requires-clause-none
check_store_with-requires-clause-none c =
    subst HasNone (sym c.deref_mut.ensures.value) c.in-Ok.ensures.none

pub returns-clause-refused : goal.returns-clause-refused
returns-clause-refused c =
    image_refused c.args.region.now.bytes c.in-Err.fault c.of_store.result
    (λ none. c.in-Err.ensures.no_memory cc) c.of_store.ensures.is c.in-Err.ensures.fault
