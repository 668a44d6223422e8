-- `exact_head` lays the file of an exact folder out.
use Rattle.file_parts.proofs.AllLaws.{◌≡◌, ◌++◌, ◌∙◌, IfErr-weaker, IfOk-weaker, exact_tail, exact_packed, OutOfMemory, large_fault, misplaced_fault, misplaced_memory, with_all, packed_long}
use Rattle.file_parts.proofs.exact_packing.exact_head.Goals as goal

pub returns-in-Ok-clause-packed : goal.returns-in-Ok-clause-packed
returns-in-Ok-clause-packed g c = IfOk-weaker c.head_placed.result _ _
    (λ head is. record { file = is; placed = c.in-Ok.ensures.ok }) c.head_placed.ensures.head

pub returns-in-Ok-clause-size : goal.returns-in-Ok-clause-size
returns-in-Ok-clause-size g c = with_all c.head_placed.result _ _ _ _ (λ head size is fits. size
    ∙ packed_long _ _ (head.bytes.items ++ exact_tail (exact_packed c.args.exact.now
    c.args.parts.now)) c.requires (record { file = is; placed = c.in-Ok.ensures.ok }) fits)
    c.head_placed.ensures.size c.head_placed.ensures.head c.head_placed.ensures.fits

pub returns-in-Ok-clause-why : goal.returns-in-Ok-clause-why
returns-in-Ok-clause-why g c = IfErr-weaker c.head_placed.result _ _
    (λ fault is. large_fault c.args.exact.now c.args.parts.now fault is) c.head_placed.ensures.large

pub returns-in-Err-clause-why : goal.returns-in-Err-clause-why
returns-in-Err-clause-why g c =
    misplaced_fault c.args.exact.now c.args.parts.now c.in-Err.fault c.in-Err.ensures.err

pub returns-in-Err-clause-short : goal.returns-in-Err-clause-short
returns-in-Err-clause-short g c = λ e.
    let memory : c.in-Err.fault ≡ OutOfMemory = cc in
    absurd (misplaced_memory c.args.exact.now c.args.parts.now _ c.in-Err.ensures.err memory)
