-- Which name has its chunk at a place.
use Rattle.mem_manager.proofs.Words.{◌≡◌, ◌≢◌, ℕ, ◌+◌, ◌-◌, ◌≤◌, Bool, true, false, cond, List, Option, Some, None, refl, sym, ap, ◌∙◌, arith, ◌==◌, Result, Ok, Err, OnErr, eq-eqb, HeapAccepted, LiveChunk, held, callers_map, not_owned, place_of, IsNowhere, Of, cond-true, held-zero, held_finds, finds_one, callers_managers, finds_place, name_held, one_placed, Found, IsFound, IsOne, NothingAt, IsThere}
use Rattle.mem_manager.proofs.StepWords.{known}

-- the chunk that was found there is a caller's
pub found_there : {image : List ℕ} {place : ℕ} {found : Found} → HeapAccepted image
    → (f : IsOne image found) → found.place.0 ≡ place → 1 ≤ found.owner
    → IsThere image place found.name.0
found_there {image} {found} h f there positive = record { live = f.live; known = known h f positive; there = one_placed image found h f ∙ ap (λ (n : ℕ). some_place n) there } where
  some_place : ℕ → Option ℕ
  some_place n = Some n

-- a chunk of the manager's is no caller's
pub managers_unknown : {image : List ℕ} {name : ℕ} {found : Found} → HeapAccepted image
    → IsFound image name found → found.owner ≡ 0 → callers_map image name ≡ None
managers_unknown {image} {name} {found} h f e =
    callers_managers image name f.live (name_held image name found h f) (sym f.owner_is ∙ e)

-- where what was found is refused as the manager's, callers know nothing of the name
pub refused_unknown : {A E : Type 0} (image : List ℕ) (name : ℕ) (found : Found) (result : Result A E) → HeapAccepted image → IsFound image name found → OnErr result (found.owner ≡ 0) → OnErr result (callers_map image name ≡ None)
refused_unknown image name found (Ok own) h f managers = tt
refused_unknown image name found (Err refusal) h f managers = managers_unknown h f managers

-- what was found has a name
pub name_named : (image : List ℕ) (name : ℕ) (found : Found) → HeapAccepted image
    → IsFound image name found → name ≢ 0
name_named image name found h f none =
    let nothing = sym (name_held image name found h f) ∙ ap (held image) none ∙ held-zero image h in
    absurd cc

pub found_named : (image : List ℕ) (name : ℕ) (found : Found) → HeapAccepted image
    → IsFound image name found → found.name.0 ≢ 0
found_named image name found h f none = name_named image name found h f (sym f.name_is ∙ none)

-- what callers may name is held
pub callers_held : (x : Option LiveChunk) (live : LiveChunk) → not_owned 0 x ≡ Some live
    → x ≡ Some live
callers_held None live e = e
callers_held (Some own) live e = kept (own.owner == 0) e where
  kept : (b : Bool) → cond b None (Some own) ≡ Some live → Some own ≡ Some live
  kept true f = absurd cc
  kept false f = f

-- a caller's is not the manager's
pub not_managers : (live : LiveChunk) → not_owned 0 (Some live) ≡ Some live → live.owner ≢ 0
not_managers live e none =
    let gone = sym (cond-true (live.owner == 0) None (Some live) (eq-eqb live.owner 0 none)) ∙ e in
    absurd cc

-- where a place has no chunk, or one of the manager's, no caller's chunk is there
pub nowhere : {image : List ℕ} (place : ℕ) → HeapAccepted image → NothingAt image place
    → IsNowhere image (callers_map image) place
nowhere {image} place h none name of = by_known (callers_map image name) of where
  by_known : (x : Option LiveChunk) → Of x (λ live. place_of image name ≡ Some place) → ⊥
  by_known None o = o
  by_known (Some live) there = none name there

pub managers_there : {image : List ℕ} {place : ℕ} {found : Found} → HeapAccepted image
    → IsOne image found → found.place.0 ≡ place → found.owner ≡ 0
    → IsNowhere image (callers_map image) place
managers_there {image} {place} {found} h f there managers name of =
    by_known (callers_map image name) refl of where
      same : (m n : ℕ) → Some m ≡ Some n → m ≡ n
      same m n e = cc

      by_known : (x : Option LiveChunk) → callers_map image name ≡ x
          → Of x (λ live. place_of image name ≡ Some place) → ⊥
      by_known None e o = o
      by_known (Some live) e at =
          let g = held_finds image name live h (callers_held (held image name) live e) in
          let body : g.at + 8 ≡ place =
          same _ _ (sym (finds_place image name live g.chunk g.at h g.finds) ∙ at) in
          let one : g.at ≡ found.place.0 - 8 = omega arith in
          let its = finds_one image name found.name.0 live f.live g.chunk f.chunk (found.place.0 - 8) h
          (rw one at g.finds) f.finds in
          not_managers live (ap (not_owned 0) (sym (callers_held (held image name) live e)) ∙ e)
          (ap (λ (l : LiveChunk). l.owner) its ∙ sym f.owner_is ∙ managers)

-- ---- what recover answers
