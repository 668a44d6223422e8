-- `check_image` refuses an image with the fault that the check of the store found, by the laws of
-- FaultLaws.
use Rattle.heap_map.proofs.Laws.{sym, ◌∙◌, subst, IsMapFault, fault_of, never_write, short_fault}
use Rattle.heap_map.proofs.picture.check_image.Goals as goal

pub returns-in-Err-clause-why : goal.returns-in-Err-clause-why
returns-in-Err-clause-why g c = subst (IsMapFault c.args.region.now.bytes) (sym c.map_fault.ensures)
    (fault_of _ _ c.in-Err.ensures.fault c.in-Err.ensures.refused)

pub returns-in-Err-clause-before : goal.returns-in-Err-clause-before
returns-in-Err-clause-before g c = λ e. never_write c.in-Err.fault (sym c.map_fault.ensures ∙ cc)

pub returns-in-Err-clause-short : goal.returns-in-Err-clause-short
returns-in-Err-clause-short g c =
    λ e. c.in-Err.ensures.no_memory (let is = short_fault _ (sym c.map_fault.ensures ∙ cc) in cc)
