-- Results for images and scripts with faults.
use Rattle.palmheap_c.proofs.Words.{◌≡◌, ◌≢◌, ◌⊎◌, ℕ, List, Err, ap, ◌∙◌, inl, inr, GrowthRefused, Accepted, StoreFault, read_script, LineFault, ScriptFault, UnknownCommand, WrongCount, BadWord, OutOfMemory, Answer, IsImageFault, IsMemoryAnswer, of_store, IsRunRefusal, capped, of_line, of_script}
use Rattle.store_check.specs.Checks.{IsAnswered}
use Rattle.store_check.specs.declared.fault.StoreFault.TheVariants as store_faults

pub image_refused : (image : List ℕ) (fault : StoreFault) (found : Answer)
    → (fault ≡ store_faults.OutOfMemory → GrowthRefused) → found ≡ of_store fault
    → IsAnswered image fault → IsMemoryAnswer found ⊎ IsImageFault image found
image_refused image fault found short e (inl none) = inl (e ∙ ap of_store none.0, short none.0)
image_refused image fault found short e (inr first) = inr (fault, first, e)

pub script_refused : (image script : List ℕ) (fault : LineFault) (found : Answer)
    (kind : ScriptFault) → fault.fault ≡ kind → Accepted image → found ≡ of_line fault
    → (fault.fault ≢ OutOfMemory → read_script script ≡ Err fault)
    → (fault.fault ≡ OutOfMemory → GrowthRefused) → IsRunRefusal image script found
script_refused image script fault found OutOfMemory k good e err short =
    inl (e ∙ ap (of_script (capped fault.line)) k, short k)
script_refused image script fault found UnknownCommand k good e err short =
    inr (inr (good, (fault, err (λ none. let other = k in cc), e)))
script_refused image script fault found WrongCount k good e err short =
    inr (inr (good, (fault, err (λ none. let other = k in cc), e)))
script_refused image script fault found (BadWord word) k good e err short =
    inr (inr (good, (fault, err (λ none. let other = k in cc), e)))
