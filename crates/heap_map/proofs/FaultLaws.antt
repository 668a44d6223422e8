-- The fault of a picture by that of the check.
use Rattle.heap_map.proofs.Words.{◌≡◌, List, ℕ, refl, sym, ap, subst, ◌∙◌, inl, inr, ◌⊎◌, Accepted, map_fault, IsMapFault}
use Rattle.store_check.specs.declared.fault.StoreFault.{StoreFault}
use Rattle.store_check.specs.declared.fault.StoreFault.TheVariants as checks
use Rattle.store_check.specs.Checks.{IsAnswered, IsRefusal}
use Rattle.store_check.specs.Faults.{IsFirstStoreFault}
use Rattle.heap_map.specs.declared.picture.MapFault.TheVariants.{BadImage, OutOfMemory, Write}

-- an allocation failed, or the image is refused
cases : (fault : StoreFault) → (fault ≡ checks.OutOfMemory)
    ⊎ ((fault ≡ checks.OutOfMemory → ⊥) × (BadImage fault ≡ map_fault fault))
cases (checks.Heap fault) = inr (λ e. cc, refl)
cases (checks.BadDirectorySlot index) = inr (λ e. cc, refl)
cases (checks.BadHeader db) = inr (λ e. cc, refl)
cases (checks.BadEntry db index) = inr (λ e. cc, refl)
cases (checks.SharedChunk slot) = inr (λ e. cc, refl)
cases (checks.StrayChunk slot) = inr (λ e. cc, refl)
cases (checks.BadId db index) = inr (λ e. cc, refl)
cases (checks.BadName db) = inr (λ e. cc, refl)
cases (checks.SameName db) = inr (λ e. cc, refl)
cases checks.OutOfMemory = inl refl

pub other_fault : (fault : StoreFault) → (fault ≡ checks.OutOfMemory → ⊥)
    → BadImage fault ≡ map_fault fault
other_fault fault ne = elim (cases fault) [ inl short ↦ absurd (ne short) | inr other ↦ other.1 ]

bad : (image : List ℕ) (fault : StoreFault) → (fault ≡ checks.OutOfMemory → ⊥)
    → IsAnswered image fault → IsRefusal image fault
    → (Accepted image → ⊥) × IsFirstStoreFault image fault
bad image fault ne answered refusal = (
  elim refusal [ inl short ↦ absurd (ne short) | inr refused ↦ refused ],
  elim answered [ inl short ↦ absurd (ne short.0) | inr first ↦ first ],
)

pub fault_of : (image : List ℕ) (fault : StoreFault) → IsAnswered image fault
    → IsRefusal image fault → IsMapFault image (map_fault fault)
fault_of image fault answered refusal = elim (cases fault) [
  | inl short ↦ subst (λ (one : StoreFault). IsMapFault image (map_fault one)) (sym short) tt
  | inr other ↦ subst (IsMapFault image) other.1 (bad image fault other.0 answered refusal)
]

short_write : OutOfMemory ≡ Write → ⊥
short_write e = cc

not_write : (fault : StoreFault) → BadImage fault ≡ Write → ⊥
not_write fault e = cc

pub never_write : (fault : StoreFault) → map_fault fault ≡ Write → ⊥
never_write fault e = elim (cases fault) [
  | inl short ↦ short_write (ap map_fault (sym short) ∙ e)
  | inr other ↦ not_write fault (other.1 ∙ e)
]

not_short : (fault : StoreFault) → BadImage fault ≡ OutOfMemory → ⊥
not_short fault e = cc

pub short_fault : (fault : StoreFault) → map_fault fault ≡ OutOfMemory → fault ≡ checks.OutOfMemory
short_fault fault e =
    elim (cases _) [ inl short ↦ short | inr other ↦ absurd (not_short _ (other.1 ∙ e)) ]
