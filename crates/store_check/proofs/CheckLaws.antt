-- The passes prove together that an image is accepted with its databases, or its first fault.
use Rattle.store_check.proofs.Terms.{◌≡◌, ℕ, List, [], ◌∷◌, ◌++◌, ◌/◌, length, take, refl, sym, subst, ◌∙◌, inl, inr, AreBytes, HeapAccepted, listed, Accepted, no_least, no_least_pair, FirstBrought, OutOfMemory, Body, IsGoodDirectory, AreListed, NotesListed, IsBadSlot, IsBadHeader, IsBadEntry, directory_faults, header_faults, entry_faults, store_faults, NoneBrought, AreNamed, IsFirstOr, IsRefusal, IsAnswered, marked_faults, own_faults}
use Rattle.heap_check.proofs.CheckLaws as laws_heap
use Rattle.store_check.specs.declared.fault.StoreFault.{StoreFault}
use Rattle.store_check.proofs.FaultLaws.{length-listed, are_named, accepted_none}

-- ---- rows, part by part

pub first_before : (xs ys : List (StoreFault → Type 0)) (fault : StoreFault) → FirstBrought xs fault
    → FirstBrought (xs ++ ys) fault
first_before [] ys fault f = absurd f
first_before (row ∷ xs) ys fault f =
    elim f [ inl here ↦ inl here | inr later ↦ inr (later.0, first_before xs ys _ later.1) ]

pub first_after : (xs ys : List (StoreFault → Type 0)) (fault : StoreFault) → NoneBrought xs
    → FirstBrought ys fault → FirstBrought (xs ++ ys) fault
first_after [] ys fault n f = f
first_after (row ∷ xs) ys fault n f = inr (n.0, first_after xs ys fault n.1 f)

pub none_both : (xs ys : List (StoreFault → Type 0)) → NoneBrought xs → NoneBrought ys
    → NoneBrought (xs ++ ys)
none_both [] ys n m = m
none_both (row ∷ xs) ys n m = (n.0, none_both xs ys n.1 m)

first_none : (rows : List (StoreFault → Type 0)) (fault : StoreFault) → FirstBrought rows fault
    → NoneBrought rows → ⊥
first_none [] fault f n = f
first_none (row ∷ rows) fault f n =
    elim f [ inl here ↦ n.0 fault here | inr later ↦ first_none rows fault later.1 n.1 ]

-- ---- no row brings `OutOfMemory`

abbrev NoneBrings : StoreFault → List (StoreFault → Type 0) → Type 0
NoneBrings fault [] = Unit {0}
NoneBrings fault (row ∷ rows) = (row fault → ⊥) × NoneBrings fault rows

not_first : (rows : List (StoreFault → Type 0)) (fault : StoreFault) → NoneBrings fault rows
    → FirstBrought rows fault → ⊥
not_first [] fault n f = f
not_first (row ∷ rows) fault n f =
    elim f [ inl here ↦ n.0 here | inr later ↦ not_first rows fault n.1 later.1 ]

pub marked_not_memory : (image : List ℕ) → FirstBrought (marked_faults image) OutOfMemory → ⊥
marked_not_memory image = not_first (marked_faults image) OutOfMemory (
  λ row. (let e = row.2 in absurd cc),
  (
    λ row. (let e = row.2 in absurd cc),
    (
      λ row. (let e = row.3 in absurd cc),
      (λ row. (let e = row.2 in absurd cc), (λ row. (let e = row.2 in absurd cc), tt)),
    ),
  ),
)

pub own_not_memory : (image : List ℕ) → FirstBrought (own_faults image) OutOfMemory → ⊥
own_not_memory image = not_first (own_faults image) OutOfMemory (
  λ row. (let e = row.3 in absurd cc),
  (λ row. (let e = row.2 in absurd cc), (λ row. (let e = row.2 in absurd cc), tt)),
)

-- ---- what is known if the first three passes found nothing

pub listed_named : (image : List ℕ) → HeapAccepted image → NoneBrought (directory_faults image)
    → NoneBrought (header_faults image) → NoneBrought (entry_faults image) → AreNamed image
listed_named image h slots headers entries =
    are_named image h (no_least (IsBadSlot image) (λ k l. slots.0 _ (k, l, refl)))
    (no_least (IsBadHeader image) (λ k l. headers.0 _ (k, l, refl)))
    (no_least_pair (IsBadEntry image) (λ k i l. entries.0 _ (k, i, l, refl)))

-- the prefix of a table that is cut to as many as are listed
pub listed_cut : (image directory : List ℕ) (table : List Body) (count : ℕ)
    → IsGoodDirectory image directory → count ≡ length directory / 4 → NotesListed image table
    → AreListed image (take count table)
listed_cut image directory table count l is noted = rw (← (is ∙ l.count)) at noted

pub listed_length : (image : List ℕ) (headers : List Body) → AreListed image headers
    → length headers ≡ length (listed image)
listed_length image headers l = l.count ∙ sym (length-listed image)

-- ---- the whole

pub marked_first : (image : List ℕ) (fault : StoreFault) → IsFirstOr (marked_faults image) fault
    → IsFirstOr (store_faults image) fault
marked_first image fault f = elim f [
  | inl none ↦ inl none
  | inr first ↦ inr (first_before (marked_faults image) (own_faults image) _ first)
]

pub own_first : (image : List ℕ) (fault : StoreFault) → NoneBrought (marked_faults image)
    → IsFirstOr (own_faults image) fault → IsFirstOr (store_faults image) fault
own_first image fault n f = elim f [
  | inl none ↦ inl none
  | inr first ↦ inr (first_after (marked_faults image) (own_faults image) fault n first)
]

pub none_accepted : (image : List ℕ) → HeapAccepted image → AreBytes image
    → NoneBrought (marked_faults image) → NoneBrought (own_faults image) → Accepted image
none_accepted image h b n o =
    (accepted_none image h b).1 (none_both (marked_faults image) (own_faults image) n o)

pub store_first : (image : List ℕ) (fault : StoreFault) → HeapAccepted image
    → IsFirstOr (store_faults image) fault → IsAnswered image fault
store_first image fault h f = elim f [
  | inl none ↦ inl (none, h)
  | inr first ↦ inr (inr (λ other row. laws_heap.refuses image row.0 row.1 h, first))
]

pub first_refused : (image : List ℕ) (fault : StoreFault) → HeapAccepted image → AreBytes image
    → IsFirstOr (store_faults image) fault → IsRefusal image fault
first_refused image fault h b f = elim f [
  | inl none ↦ inl none
  | inr first ↦
      inr (λ a. first_none (store_faults image) fault first ((accepted_none image h b).0 a))
]
