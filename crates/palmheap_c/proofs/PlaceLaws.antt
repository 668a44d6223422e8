-- The places of the pointers to chunks, counted from the start of an image, and the chunk that is
-- found there.
use Rattle.palmheap_c.proofs.Words.{◌≡◌, ◌≤◌, ℕ, List, [], ◌∷◌, length, sym, ap, ◌∙◌, arith, inl, inr, Option, Some, None, Ptr, ◌+ₚ◌, LiveChunk, Memory, Lent, SomeLent, Of, chunks_of, area_start, place_of, store_of, DoesInStore, Recover, Named, Refused, Refusal, AllLieIn, PartOut, as_name, as_place, Opened, AreAtPlaces, HoldsPointers, loan_of, pinned, Pinned}
use Rattle.heap_model.specs.declared.call.Call.TheVariants as calls
use Rattle.palmheap_c.proofs.OutLaws.{one_under}

at_place : (start : Ptr) (size name : ℕ) (bytes : List ℕ) (part : PartOut) (lents : List Lent)
    → AllLieIn start size lents → SomeLent (λ lent. (place_of bytes name ≡ Some lent.at)
    × (part.start ≡ lent.start) × (length part.bytes ≡ lent.count)) lents → (place : ℕ)
    × (place_of bytes name ≡ Some place) × (place ≤ size) × (part.start ≡ start +ₚ place)
at_place start size name bytes part [] lie out = absurd out
at_place start size name bytes part (lent ∷ lents) lie out = elim out [
  | inl is ↦
      (lent.at, is.0, (let inside = lie.0.inside in omega (arith, inside)), is.1 ∙ lie.0.there)
  | inr later ↦ at_place start size name bytes part lents lie.1 later
]

-- Each pointer that is out is where the image starts, plus the place of its chunk.
pub at_places : (store : Opened) (start : Ptr)
    → AllLieIn start (length store.memory.bytes) store.memory.lents → HoldsPointers store
    → AreAtPlaces start store
at_places store start lie holds name it was =
    let is = holds name it was in
    let found = at_place start (length store.memory.bytes) name store.memory.bytes
    (loan_of it).part store.memory.lents lie is.out in
    record { place = found.0; of_chunk = found.1; within = found.2; at_is = is.starts ∙ found.3 }

-- ---- the chunk at a place

-- a call finds this chunk at a place
abbrev Finds : Memory → (place name : ℕ) → Memory → Type 0
Finds old place name new =
    DoesInStore old (calls.Memory (Recover (as_place place))) (Named (as_name name)) new

of_any : (A : Type 0) (o : Option LiveChunk) → Of o (λ live. A) → A
of_any A None of = absurd of
of_any A (Some live) of = of

found_at : (old new : Memory) (place name : ℕ) → Finds old place name new
    → place_of old.bytes name ≡ Some place
found_at old new place name does =
    of_any (place_of old.bytes name ≡ Some place) ((store_of old.bytes).map name) does.step.1.0

same_place : {m n : ℕ} → Some m ≡ Some n → m ≡ n
same_place e = cc

-- The chunk that is found at the place of a chunk is this chunk.
pub finds_own : (old new : Memory) (place name found : ℕ) → place_of old.bytes name ≡ Some place
    → Finds old place found new → found ≡ name
finds_own old new place name found is does = one_under (area_start old.bytes)
    (chunks_of old.bytes) found name place (found_at old new place found does) is

-- At the place of a chunk that callers may use the call is not refused.
pub finds_it : (old new : Memory) (place name : ℕ) (refusal : Refusal)
    → Of ((store_of old.bytes).map name) (λ live. place_of old.bytes name ≡ Some place)
    → DoesInStore old (calls.Memory (Recover (as_place place))) (Refused refusal) new → ⊥
finds_it old new place name refusal is does = elim does.step.0 [
  | inl nowhere ↦ nowhere.0 name is
  | inr none ↦ absurd none.1
]

-- If a pointer to the chunk that is found is out, it is where the image starts, plus the place.
pub finds_no_other : (store : Opened) (new : Memory) (start : Ptr) (place found : ℕ) (it : Pinned)
    → AreAtPlaces start store → Finds store.memory place found new
    → pinned store.pointers found ≡ Some it → it.at ≡ start +ₚ place
finds_no_other store new start place found it places does was =
    let at = places found it was in
    at.at_is ∙ ap (λ (n : ℕ). start +ₚ n)
    (same_place (sym at.of_chunk ∙ found_at store.memory new place found does))
