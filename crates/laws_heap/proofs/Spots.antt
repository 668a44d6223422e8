-- Room for a chunk, whatever stands before it: where it is in the layout, what fits into it, and
-- what a claim of it does to names.
use Rattle.laws_heap.proofs.Words.{◌≡◌, ℕ, ◌+◌, ◌-◌, ◌<◌, ◌≤◌, List, [], ◌∷◌, ◌++◌, sym, ap, ◌∙◌, arith, Some, None, Chunk, free, movable, fixed, size_of, total, area_start, HeapAccepted, LiveChunk, NamedHere, chunks_of, held, AllFree, NoRun, Short, merged, layout_of, gap, IsRoom, IsSpot, Claims}
use Rattle.laws_heap.proofs.Layouts.{merged-right, merged-left, runs-merged, short_no_run}
use Rattle.laws_heap.proofs.FreeChunks.{free_sum}
use Rattle.laws_heap.proofs.FixedNames.{fixed_name}
use Rattle.laws_heap.proofs.Exchanges.{ChangesName, free_no_other, named_no_other, gap_free, gap_total, unheld_beside, exchange_changes}
use Rattle.laws_heap.proofs.AlteredChunks.{named_live, named_place}
use Rattle.laws_heap.proofs.ExchangedNames.{changes_as, some_place, free_unheld}

-- room at the front of a run of free chunks
pub room_spot : (image : List ℕ) (at size : ℕ) → IsRoom image at size → IsSpot image at size
room_spot image at size r = record {
  before = r.before;
  run = r.run;
  after = r.after;
  chunks = r.chunks;
  all_free = r.all_free;
  there = r.there;
  sums = r.sums;
}

-- in the layout it is one free chunk between what stands before it and after
pub spot_layout : (image : List ℕ) (at size : ℕ) → 0 < size → (r : IsSpot image at size)
    → layout_of image ≡ merged (r.before ++ free size ∷ r.after)
spot_layout image at size some r =
    let sums = r.sums in
    ap merged r.chunks
    ∙ merged-right r.before (r.run ++ r.after) (free size ∷ r.after) (merged-left r.run (free size
    ∷ []) r.after (runs-merged r.run (free size ∷ []) r.all_free tt (omega arith) (omega arith)))

-- ---- names

-- a chunk of a name that stood for nothing is made at the front of room
pub claims_change : (old new : List ℕ) (at size name : ℕ) (now : LiveChunk) (d : Chunk)
    → HeapAccepted old → 0 < size → IsSpot old at size → held old name ≡ None
    → Claims old new at size d → size_of d ≤ size → NamedHere name now at d
    → ChangesName old new name (Some now) (Some (at + 8))
claims_change old new at size name now d h some r none claims fits is =
    let here : ℕ = area_start old + total r.before in
    let becomes : NamedHere name now here d = rw r.there at is in
    let left : ℕ = size - size_of d in
    let sizes : total (d ∷ gap left) ≡ size = let e = gap_total left in omega arith in
    let parts = spot_layout old at size some r in
    changes_as old new name _ (Some now) _ (Some (at + 8))
    (named_live name here now d (gap left) becomes)
    (named_place name here now d (gap left) becomes ∙ ap (λ n. some_place (n + 8)) (sym r.there))
    (exchange_changes old new r.before (free size) (d ∷ gap left) r.after name h parts
    (claims r) sizes (unheld_beside old r.before size r.after name parts none)
    (free_no_other name _ _ tt) (named_no_other name _ now d (gap left) becomes (gap_free left)))

-- the name of a fixed chunk there names nothing
pub spot_unheld : (image : List ℕ) (at size : ℕ) → HeapAccepted image → 0 < size
    → IsSpot image at size → held image (fixed_name at) ≡ None
spot_unheld image at size h some r = by_run r.run r.all_free r.sums r.chunks where
  by_run : (run : List Chunk) → AllFree run → size ≡ total run
      → chunks_of image ≡ r.before ++ (run ++ r.after) → held image (fixed_name at) ≡ None
  by_run [] f sums e = absurd (omega arith)
  by_run (movable bytes lock owner slot ∷ run) f sums e = absurd f
  by_run (fixed bytes owner ∷ run) f sums e = absurd f
  by_run (free n ∷ run) f sums e = ap (λ k. held image (fixed_name k)) r.there
      ∙ free_unheld image r.before n (run ++ r.after) h e

-- ---- what fits

-- room that has the size is a run
pub spot_is_run : (image : List ℕ) (at room size : ℕ) → IsSpot image at room → size ≤ room
    → NoRun (chunks_of image) size → ⊥
spot_is_run image at room size r enough none =
    let short = none r.before r.run r.after r.chunks r.all_free in
    let sum = free_sum r.run r.all_free in
    let sums = r.sums in
    omega arith

-- and then the image is not short of it
pub spot_not_short : (image : List ℕ) (at room size : ℕ) → 0 < size → IsSpot image at room
    → size ≤ room → Short image size → ⊥
spot_not_short image at room size some r enough short =
    spot_is_run image at room size r enough (short_no_run (chunks_of image) size some short)
