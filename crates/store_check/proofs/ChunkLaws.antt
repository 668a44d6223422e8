-- The first mark of a kind brings the first fault, and no fault is there without such a mark.
use Rattle.store_check.proofs.Terms.{◌≡◌, ℕ, List, length, inl, ap, Least, FirstBrought, marked_word, HasOwners, SharedChunk, StrayChunk, shared_faults, stray_faults, NoneBrought, AreNamed, accounted, AreEnoughMarks, AreMarks, IsMarkedTwice, IsUnmarked}
use Rattle.store_check.proofs.CountLaws.{least_shared, none_shared, least_stray, none_stray}

pub shared_first : (image marks : List ℕ) (number slot : ℕ) → AreNamed image
    → AreEnoughMarks image (length marks) → AreMarks (accounted image) marks
    → Least (IsMarkedTwice marks) number → slot ≡ marked_word number
    → FirstBrought (shared_faults image) (SharedChunk slot)
shared_first image marks number slot n room m l is =
    inl (marked_word number, least_shared _ marks _ n room m l, ap SharedChunk is)

pub shared_none : (image marks : List ℕ) → AreNamed image → AreEnoughMarks image (length marks)
    → AreMarks (accounted image) marks → ((number : ℕ) → IsMarkedTwice marks number → ⊥)
    → NoneBrought (shared_faults image)
shared_none image marks n room m none =
    (λ fault row. none_shared _ marks n room m none row.0 row.1.here, tt)

pub stray_first : (image marks owners : List ℕ) (number slot : ℕ) → AreNamed image
    → HasOwners image owners → AreEnoughMarks image (length marks)
    → AreMarks (accounted image) marks → Least (IsUnmarked marks owners) number
    → slot ≡ marked_word number → FirstBrought (stray_faults image) (StrayChunk slot)
stray_first image marks owners number slot n noted room m l is =
    inl (marked_word number, least_stray _ _ _ _ n noted room m l, ap StrayChunk is)

pub stray_none : (image marks owners : List ℕ) → AreNamed image → HasOwners image owners
    → AreEnoughMarks image (length marks) → AreMarks (accounted image) marks
    → ((number : ℕ) → IsUnmarked marks owners number → ⊥) → NoneBrought (stray_faults image)
stray_none image marks owners n noted room m none =
    (λ fault row. none_stray _ marks _ n noted room m none row.0 row.1.here, tt)
