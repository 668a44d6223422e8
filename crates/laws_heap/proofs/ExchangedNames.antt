-- What changes under a name, and where, when its chunk is exchanged.
use Rattle.laws_heap.proofs.Words.{◌≡◌, ◌≢◌, ℕ, ◌+◌, ◌-◌, ◌<◌, ◌≤◌, List, [], ◌∷◌, ◌++◌, length, Option, Some, None, refl, sym, ap, subst, ◌∙◌, arith, inl, inr, overwritten, Chunk, free, movable, fixed, fixed_lock, need, size_of, total, area_start, Tiles, IsHeap, HeapAccepted, AnyPlaced, LiveChunk, NamedHere, chunks_of, held, Finds, merged, Alters, freed, with_lock, with_owner, with_bytes}
use Rattle.laws_heap.proofs.Frames.{length-overwritten}
use Rattle.laws_heap.proofs.Placed.{At, one_at, AnyPlaced-mid, SpelledAll-takes}
use Rattle.laws_heap.proofs.Slots.{slot_beside, slot_no_fixed}
use Rattle.laws_heap.proofs.Meanings.{live_under-there, with_offset, slot_place, held-is}
use Rattle.laws_heap.proofs.AlteredChunks.{named_live, named_place}
use Rattle.laws_heap.proofs.FixedNames.{fixed_name, fixed_live_is, fixed_once, fixed_with_bytes, fixed_with_owner}
use Rattle.laws_heap.proofs.FoundChunks.{read_heap}
use Rattle.laws_heap.proofs.Layouts.{IsNotFree}
use Rattle.laws_heap.proofs.Exchanges.{exchanges_parts, free_no_other, named_no_other, named_beside, ChangesName, exchange_changes}

pub changes_as : (old new : List ℕ) (name : ℕ) (now other : Option LiveChunk)
    (there place : Option ℕ) → now ≡ other → there ≡ place → ChangesName old new name now there
    → ChangesName old new name other place
changes_as old new name now other there place e f ch = rw f at (rw e at ch)

abbrev pub some_place : ℕ → Option ℕ
some_place n = Some n

-- ---- a chunk of a name is exchanged

-- a chunk of a name is live
pub named_live_chunk : (name at : ℕ) (live : LiveChunk) (c : Chunk) → NamedHere name live at c
    → IsNotFree c
named_live_chunk name at live (free size) n = n
named_live_chunk name at live (movable bytes lock owner slot) n = tt
named_live_chunk name at live (fixed bytes owner) n = tt

pub freed_changes : (old new : List ℕ) (name at : ℕ) (live : LiveChunk) (c : Chunk)
    → HeapAccepted old → Finds old name live c at → Alters old new at freed
    → ChangesName old new name None None
freed_changes old new name at live c h f x =
    let named : NamedHere name live (area_start old + total f.before) c = rw f.there at f.named in
    exchange_changes old new f.before c (freed c ∷ []) f.after name h (ap merged f.chunks)
    ((exchanges_parts old new at (λ chunk. freed chunk ∷ []) f.before c f.after h
    (named_live_chunk name at live c f.named) f.chunks f.there).0 x)
    (let e : size_of c + 0 ≡ size_of c = omega arith in e)
    (named_beside old f.before c f.after name live h f.chunks named)
    (named_no_other name _ live c [] named tt) (free_no_other name _ (freed c ∷ []) tt)

pub named_changes : (old new : List ℕ) (name place : ℕ) (live now : LiveChunk) (c : Chunk)
    (change : Chunk → Chunk) → HeapAccepted old → 8 ≤ place → Finds old name live c (place - 8)
    → Alters old new (place - 8) change → size_of (change c) ≡ size_of c
    → NamedHere name now (place - 8) (change c) → ChangesName old new name (Some now) (Some place)
named_changes old new name place live now c change h low f x size is =
    let there = f.there in
    let here : ℕ = area_start old + total f.before in
    let was : NamedHere name live here c = rw f.there at f.named in
    let becomes : NamedHere name now here (change c) = rw f.there at is in
    changes_as old new name _ (Some now) _ (Some place) (named_live name here now
    (change c) [] becomes) (named_place name here now (change c) [] becomes
    ∙ ap some_place (let e : here + 8 ≡ place = omega arith in e))
    (exchange_changes old new f.before c (change c ∷ []) f.after name h (ap merged f.chunks)
    ((exchanges_parts old new (place - 8) (λ chunk. change chunk ∷ []) f.before c f.after h
    (named_live_chunk name here live c was) f.chunks f.there).0 x)
    (let e : size_of (change c) + 0 ≡ size_of c = omega arith in e)
    (named_beside old f.before c f.after name live h f.chunks was)
    (named_no_other name _ live c [] was tt) (named_no_other name _ now (change c) [] becomes tt))

pub lock_changes : (old new : List ℕ) (name place lock : ℕ) (live : LiveChunk) (c : Chunk)
    → HeapAccepted old → 8 ≤ place → Finds old name live c (place - 8) → live.lock ≢ fixed_lock
    → Alters old new (place - 8) (with_lock lock)
    → ChangesName old new name (Some (record live { lock = lock })) (Some place)
lock_changes old new name place lock live (free size) h low f loose x = absurd f.named
lock_changes old new name place lock live (movable bytes count owner slot) h low f loose x =
    named_changes old new name place live (record live { lock = lock })
    (movable bytes count owner slot) (with_lock lock) h low f x refl
    (f.named.0, ap (λ (l : LiveChunk). record l { lock = lock }) f.named.1)
lock_changes old new name place lock live (fixed bytes owner) h low f loose x =
    absurd (loose (sym (ap (λ l. l.lock) (fixed_live_is (place - 8) bytes owner f.named))))

-- to any but the manager, if it is fixed
pub owner_changes : (old new : List ℕ) (name place owner : ℕ) (live : LiveChunk) (c : Chunk)
    → HeapAccepted old → 8 ≤ place → Finds old name live c (place - 8)
    → (live.lock ≡ fixed_lock → 0 < owner) → Alters old new (place - 8) (with_owner owner)
    → ChangesName old new name (Some (record live { owner = owner })) (Some place)
owner_changes old new name place owner live (free size) h low f some x = absurd f.named
owner_changes old new name place owner live (movable bytes count holder slot) h low f some x =
    named_changes old new name place live (record live { owner = owner })
    (movable bytes count holder slot) (with_owner owner) h low f x refl
    (f.named.0, ap (λ (l : LiveChunk). record l { owner = owner }) f.named.1)
owner_changes old new name place owner live (fixed bytes holder) h low f some x =
    named_changes old new name place live _ (fixed bytes holder) (with_owner owner) h low f x refl
    (fixed_with_owner _ _ _ _ (some (sym (ap (λ l. l.lock) (fixed_live_is _ _ _ f.named)))) f.named)

pub bytes_changes : (old new : List ℕ) (name place at : ℕ) (part : List ℕ) (live : LiveChunk)
    (c : Chunk) → HeapAccepted old → 8 ≤ place → Finds old name live c (place - 8)
    → at + length part ≤ length live.bytes → Alters old new (place - 8) (with_bytes at part)
    → ChangesName old new name (Some (record live { bytes = overwritten live.bytes at part }))
    (Some place)
bytes_changes old new name place at part live (free size) h low f within x = absurd f.named
bytes_changes old new name place at part live (movable bytes count owner slot) h low f within x =
    let fits : at + length part ≤ length bytes = rw (← f.named.1) at within in
    named_changes old new name place live (record live { bytes = overwritten live.bytes at part })
    (movable bytes count owner slot) (with_bytes at part) h low f x
    (ap need (length-overwritten bytes at part fits))
    (f.named.0, ap (λ (l : LiveChunk). record l { bytes = overwritten l.bytes at part }) f.named.1)
bytes_changes old new name place at part live (fixed bytes owner) h low f within x =
    let fits : at + length part ≤ length bytes = rw (← (fixed_live_is _ _ _ f.named)) at within in
    named_changes old new name place live (record live { bytes = overwritten live.bytes at part })
    (fixed bytes owner) (with_bytes at part) h low f x
    (ap need (length-overwritten bytes at part fits))
    (fixed_with_bytes (place - 8) bytes owner (λ (body : List ℕ). overwritten body at part) f.named)

-- ---- the name of a fixed chunk

-- where a free chunk stands there is no fixed one, so the name of one there names nothing
pub free_unheld : (image : List ℕ) (before : List Chunk) (size : ℕ) (after : List Chunk)
    → HeapAccepted image → chunks_of image ≡ before ++ free size ∷ after
    → held image (fixed_name (area_start image + total before)) ≡ None
free_unheld image before size after h e = nothing (held image place) refl where
  place : ℕ
  place = fixed_name (area_start image + total before)

  heap : IsHeap image (chunks_of image)
  heap = read_heap image h

  free_here : AnyPlaced (At (area_start image + total before) (λ at c. c ≡ free size))
      (area_start image) (chunks_of image)
  free_here = subst (λ cs. AnyPlaced (At (area_start image + total before) (λ at c. c ≡ free size))
      (area_start image) cs) (sym e)
      (AnyPlaced-mid _ (area_start image) before (free size) after (refl, refl))

  not_free : (live : LiveChunk) (at : ℕ) (c : Chunk) → NamedHere place live at c → c ≡ free size → ⊥
  not_free live at c n e = subst (λ (d : Chunk). NamedHere place live at d) e n

  parts : Tiles image (before ++ free size ∷ after)
  parts = subst (λ (cs : List Chunk). Tiles image cs) e heap.tiles

  nothing : (x : Option LiveChunk) → held image place ≡ x → x ≡ None
  nothing None e = refl
  nothing (Some live) e =
      let o = with_offset place live (area_start image) (chunks_of image)
      (live_under-there (area_start image) (chunks_of image) place live
      (sym (held-is image (chunks_of image) place heap) ∙ e)) in
      elim o.kind [
        | inl b ↦ absurd (slot_no_fixed place _ (total (free size ∷ []))
            (slot_beside image before (free size ∷ []) after (area_start image + total before) place
            parts tt refl (slot_place image (chunks_of image) place (o.at + 8) heap b).0) refl)
        | inr is ↦
            let same = fixed_once o.at (area_start image + total before) is in
            let both = one_at (NamedHere place live) (λ at c. c ≡ free size)
            (area_start image + total before) (area_start image) (chunks_of image) (SpelledAll-takes
            image (area_start image) (chunks_of image) (length image) heap.tiles.area)
            (rw same at o.there) free_here in
            absurd (not_free live (area_start image + total before) both.0 both.1 both.2)
      ]
