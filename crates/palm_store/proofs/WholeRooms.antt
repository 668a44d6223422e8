-- Room for parts that are made one after the other.
use Rattle.palm_store.proofs.Words.{◌≡◌, ℕ, ◌+◌, ◌≤◌, List, [], ◌∷◌, ◌++◌, length, Option, Some, None, refl, ap, subst, arith, inl, inr, free_slots, rooms, Part, making, Stuck, makings, RunsOut, Spends}

-- parts that found room, and others that run out of it
pub spends_then : (left : List ℕ) (done : List Part) (mid : List ℕ) (parts : List Part) → Spends left done mid → Stuck mid parts → Stuck left (done ++ parts)
spends_then left [] mid parts spends stuck = subst (λ (there : List ℕ). Stuck there parts) spends stuck
spends_then left (part ∷ done) mid parts spends stuck = inr (spends.0, spends.1, spends_then spends.0 done mid parts spends.2 stuck)

pub spends_both : (left : List ℕ) (done : List Part) (mid : List ℕ) (parts : List Part) (rest : List ℕ) → Spends left done mid → Spends mid parts rest → Spends left (done ++ parts) rest
spends_both left [] mid parts rest spends more = subst (λ (there : List ℕ). Spends there parts rest) spends more
spends_both left (part ∷ done) mid parts rest spends more = (spends.0, spends.1, spends_both spends.0 done mid parts rest spends.2 more)

-- what runs out of room does so where more is wanted
pub stuck_more : (left : List ℕ) (parts more : List Part) → Stuck left parts → Stuck left (parts ++ more)
stuck_more left [] more stuck = absurd stuck
stuck_more left (part ∷ parts) more stuck = elim stuck [ inl short ↦ inl short | inr some ↦ inr (some.0, some.1, stuck_more some.0 parts more some.2) ]

pub makings-append : (sizes more : List (Option ℕ)) → makings (sizes ++ more) ≡ makings sizes ++ makings more
makings-append [] more = refl
makings-append (None ∷ sizes) more = makings-append sizes more
makings-append (Some size ∷ sizes) more = ap (λ (parts : List Part). making size ∷ parts) (makings-append sizes more)

pub runs_more : (image : List ℕ) (slots more_slots : ℕ) (parts more : List Part) → RunsOut image slots parts → RunsOut image (slots + more_slots) (parts ++ more)
runs_more image slots more_slots parts more lacks = elim lacks [ inl few ↦ inl (omega arith) | inr stuck ↦ inr (stuck_more (rooms image) parts more stuck) ]

-- parts that found room and slots, and others that run out of them
pub runs_then : (old mid : List ℕ) (done parts : List Part) (slots : ℕ) → Spends (rooms old) done (rooms mid) → free_slots old ≤ free_slots mid + length done → RunsOut mid slots parts → RunsOut old (length done + slots) (done ++ parts)
runs_then old mid done parts slots spends taken lacks = elim lacks [ inl few ↦ inl (omega arith) | inr stuck ↦ inr (spends_then (rooms old) done (rooms mid) parts spends stuck) ]
