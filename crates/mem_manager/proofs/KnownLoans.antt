-- Whether a body is lent, by its place and by its name.
use Rattle.mem_manager.proofs.Words.{◌≡◌, ◌≢◌, ℕ, zero, suc, ◌+◌, ◌<◌, List, [], ◌∷◌, refl, sym, ap, subst, ◌∙◌, arith, inl, inr, Chunk, free, movable, fixed, Spelled, bytes_of, owner_of, callers_map, ChangesName, finds_place, name_held, unheld_here, IsHere, Memory, Lent, EachLent, HeapAccepted, LiveChunk, NamedHere, held, IsLent, LentHere, IsLentBody, LendsOther, HoldsHeap, place_of, Name, BeginsAt, fixed_live_is, held_finds, finds_spelled, callers_some, some_gives, some_to, Found, IsFound, IsOne, one_placed}
use Rattle.heap_model.specs.Store.{owner_under}
use Rattle.std.specs.Prelude.{Option, Some, None}
use Rattle.mem_manager.proofs.KeptLoans.{lent_locked, lent_at_found}
use Rattle.mem_manager.proofs.StepWords.{one_of, same_owner}

same_place : {m n : ℕ} → Some m ≡ Some n → m ≡ n
same_place e = cc

-- ---- whether a body is lent

pub none_begins : (at : ℕ) (lents : List Lent) → (BeginsAt at lents → ⊥)
    → EachLent (λ l. l.at ≢ at) lents
none_begins at [] none = tt
none_begins at (l ∷ ls) none = ((λ e. none (inl e)), none_begins at ls (λ r. none (inr r)))

pub placed : {image : List ℕ} {name : ℕ} {found : Found} → HeapAccepted image
    → IsFound image name found → place_of image name ≡ Some found.place.0
placed {image} {found} h f = rw f.name_is at (one_placed image found h (one_of f))

pub here_of : {m : Memory} {name : Name} {found : Found} → HoldsHeap m
    → IsFound m.bytes name.0 found → LendsOther m found.place.0 → IsLent m name.0 → ⊥
here_of {m} {name} {found} h f other is =
    some_gives (λ l. place_of m.bytes name.0 ≡ Some l.at) (λ l. l.at ≢ found.place.0) m.lents other
    is (λ l differs e. differs (same_place (sym e ∙ placed h.accepted f)))

pub lent_of : (m : Memory) {name : Name} {found : Found} → HeapAccepted m.bytes
    → IsFound m.bytes name.0 found → BeginsAt found.place.0 m.lents → IsLent m name.0
lent_of m {name} {found} h f begins =
    some_to (λ l. l.at ≡ found.place.0) (λ l. place_of m.bytes name.0 ≡ Some l.at) m.lents begins
    (λ l e. placed h f ∙ ap (λ (n : ℕ). Some n) (sym e))

pub lent_begins : (m : Memory) {name : ℕ} {found : Found} → HeapAccepted m.bytes
    → IsFound m.bytes name found → IsLent m name → BeginsAt found.place.0 m.lents
lent_begins m {name} {found} h f lent =
    some_to (λ l. place_of m.bytes name ≡ Some l.at) (λ l. l.at ≡ found.place.0) m.lents lent
    (λ l is. same_place (sym is ∙ placed h f))

pub other_not_lent : {m : Memory} {found : Found} → HoldsHeap m → IsOne m.bytes found
    → LendsOther m found.place.0 → IsLent m found.name.0 → ⊥
other_not_lent {m} {found} h f other is =
    some_gives (λ l. place_of m.bytes found.name.0 ≡ Some l.at) (λ l. l.at ≢ found.place.0) m.lents
    other is (λ l differs e. differs (same_place (sym e ∙ one_placed m.bytes found h.accepted f)))

pub not_lent_other : {m : Memory} {name : ℕ} {found : Found} → HoldsHeap m
    → IsFound m.bytes name found → (IsLent m name → ⊥) → LendsOther m found.place.0
not_lent_other {m} {name} {found} h f here = none_begins found.place.0 m.lents (λ b. here (some_to (λ l. l.at ≡ found.place.0) (λ l. place_of m.bytes name ≡ Some l.at) m.lents b (λ l e. placed h.accepted f ∙ ap (λ (n : ℕ). Some n) (sym e))))

-- what is lent has an owner other than the manager
owner_there : (image : List ℕ) (name : ℕ) (live : LiveChunk) → held image name ≡ Some live
    → owner_under image name ≡ live.owner
unfolding owner_under
owner_there image name live e = ap owner_of e

owned_here : (image : List ℕ) (lent : Lent) (at name : ℕ) (live : LiveChunk) (c : Chunk)
    → Spelled image at c → NamedHere name live at c → LentHere lent at c → 0 < live.owner
owned_here image lent at name live (free size) s n l = absurd l
owned_here image lent at name live (movable bytes zero owner slot) s n l = absurd l
owned_here image lent at name live (movable bytes (suc lock) owner slot) s n l =
    let own : owner ≡ live.owner = same_owner n.1 in
    elim s.3 [ inl none ↦ absurd (omega (arith, none)) | inr some ↦ omega (arith, some, own) ]
owned_here image lent at name live (fixed bytes owner) s n l =
    let own : owner ≡ live.owner = same_owner (fixed_live_is at bytes owner n) in let some = l.2 in
    omega (arith, some, own)

pub lent_owned : {m : Memory} (name : ℕ) → HoldsHeap m → IsLent m name
    → owner_under m.bytes name ≢ 0
lent_owned {m} name h is own = by (held m.bytes name) refl where
  by : (o : Option LiveChunk) → held m.bytes name ≡ o → ⊥
  by None e = unheld_here m name e is
  by (Some live) e =
      let g = held_finds m.bytes name live h.accepted e in
      let some : 0 < live.owner = some_gives (λ y. place_of m.bytes name ≡ Some y.at)
      (IsLentBody m.bytes) m.lents h.lent is (λ y body at.
      let here : g.at + 8 ≡ y.at =
      same_place (sym (finds_place m.bytes name live g.chunk g.at h.accepted g.finds) ∙ at) in
      owned_here m.bytes y g.at name live g.chunk (finds_spelled m.bytes name live g.chunk g.at h.accepted g.finds) g.finds.named (lent_at_found y body g.finds here)) in
      let there = owner_there m.bytes name live e in omega (arith, some, there, own)

-- what has an owner other than the manager is a caller's, and its bytes are seen once they are put back
pub callers_bytes : {old new : List ℕ} {name : ℕ} {found : Found} (bytes : List ℕ)
    → HeapAccepted old → (f : IsFound old name found) → owner_under old name ≢ 0
    → ChangesName old new name (Some (record f.live { bytes = bytes })) (Some found.place.0)
    → bytes_of (callers_map new name) ≡ bytes
callers_bytes {old} {new} {name} {found} bytes h f own ch =
    ap bytes_of (callers_some new name (record f.live { bytes = bytes }) ch.here (λ none. own (owner_there old name f.live (name_held old name found h f) ∙ none)))

pub here_inside : {region value : Memory} {name : ℕ} → region ≡ value → HoldsHeap region
    → IsHere value name → IsLent region name → ⊥
here_inside {region} {name} view h here is =
    let here_too = subst (λ (m : Memory). IsHere m name) (sym view) here in
    here_too.not_lent (lent_owned name h is) is

pub managers_here : {region value : Memory} (name : ℕ) → region ≡ value → HoldsHeap region
    → owner_under value.bytes name ≡ 0 → IsLent value name → ⊥
managers_here name view h own is =
    here_inside view h (record { not_lent = λ other lent_too. other own }) (rw (← view) at is)

-- nor is what has no lock
pub unlocked_here : {region value : Memory} {name : ℕ} {found : Found} → region ≡ value
    → HoldsHeap region → IsFound region.bytes name found → found.lock ≡ 0 → IsLent value name → ⊥
unlocked_here {region} {name} {found} view h f unlocked is =
    let locked = lent_locked region name f.live h.accepted h.lent (rw (← view) at is)
    (name_held region.bytes name found h.accepted f) in
    let lock = f.lock_is in omega (arith, locked, lock, unlocked)
