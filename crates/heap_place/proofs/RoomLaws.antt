-- The search for room, step by step.
use Rattle.heap_place.proofs.Words.{◌≡◌, ℕ, ◌+◌, ◌-◌, ◌<◌, ◌≤◌, List, [], ◌∷◌, ◌++◌, length, refl, sym, ap, subst, ◌∙◌, append_assoc, append-nil, arith, Chunk, free, size_of, total, SpelledAll, area_start, HeapAccepted, chunks_of, AllFree, NoRun, merged, IsRoom, total-append, Spelled-size, SpelledAll-end, SpelledAll-push, chunk_there, chunks_after, chunks_of-area, free_sum, IsNotFree, merged-live, Header, header_of, size_by, HasHeader, size_by-header_of, StaysBelow, run_behind, KeepsApart, Searched, run_by, HasChunk}
use Rattle.chunk_format.specs.declared.header.Header.TheVariants as headers

-- ---- runs that stay below a size

below_prefix : (size begun : ℕ) (c : Chunk) (run after : List Chunk) → AllFree (c ∷ run)
    → StaysBelow size begun ((c ∷ run) ++ after) → begun + total (c ∷ run) < size
below_prefix size begun (free n) [] after f b = omega arith
below_prefix size begun (free n) (d ∷ run) after f b = let ih = below_prefix size (begun + n) d run after f b.1 in omega arith
below_prefix size begun c run after f b = absurd f

below_any : (size begun : ℕ) (before : List Chunk) (c : Chunk) (run after : List Chunk) → AllFree (c ∷ run) → StaysBelow size begun (before ++ ((c ∷ run) ++ after)) → total (c ∷ run) < size
below_any size begun [] c run after f b = let h = below_prefix size _ c run _ f b in omega arith
below_any size begun (free n ∷ before) c run after f b = below_any size _ before c run after f b.1
below_any size begun (d ∷ before) c run after f b = below_any size 0 before c run after f b

below_no_run : (size : ℕ) (cs : List Chunk) → 0 < size → StaysBelow size 0 cs → NoRun cs size
below_no_run size cs some b before [] after e f = some
below_no_run size cs some b before (c ∷ run) after e f =
    let sums = free_sum (c ∷ run) f in
    let low = below_any size 0 before c run after f (subst (λ xs. StaysBelow size 0 xs) e b) in
    omega arith

below_push : (size begun : ℕ) (cs : List Chunk) (c : Chunk) → StaysBelow size begun cs
    → StaysBelow size (run_behind begun cs) (c ∷ []) → StaysBelow size begun (cs ++ c ∷ [])
below_push size begun [] c b last = last
below_push size begun (free n ∷ cs) c b last = (b.0, below_push size (begun + n) cs c b.1 last)
below_push size begun (d ∷ cs) c b last = below_push size 0 cs c b last

behind_push : (begun : ℕ) (cs : List Chunk) (c : Chunk)
    → run_behind begun (cs ++ c ∷ []) ≡ run_behind (run_behind begun cs) (c ∷ [])
behind_push begun [] c = refl
behind_push begun (free n ∷ cs) c = behind_push (begun + n) cs c
behind_push begun (d ∷ cs) c = behind_push 0 cs c

behind_one : (begun : ℕ) (c : Chunk) → run_behind begun (c ∷ []) ≡ run_by begun (header_of c)
behind_one begun (free n) = refl
behind_one begun c = refl

below_one : (size begun : ℕ) (c : Chunk) → run_by begun (header_of c) < size
    → StaysBelow size begun (c ∷ [])
below_one size begun (free n) lt = (lt, tt)
below_one size begun c lt = tt

-- ---- the walk

-- the chunks in front of an offset, the last of which are a run of free ones
pub record EndsInRun (image : List ℕ) (at run_size : ℕ) (cs : List Chunk) : Type 0 where
  pub front : List Chunk
  pub run : List Chunk
  pub parts : cs ≡ front ++ run
  pub all_free : AllFree run
  pub sums : run_size ≡ total run
  pub apart : KeepsApart front

-- after a live chunk
pub live_keeps : (cs : List Chunk) (c : Chunk) → IsNotFree c → KeepsApart (cs ++ c ∷ [])
live_keeps cs c live others =
    ap merged (append_assoc cs (c ∷ []) others) ∙ merged-live cs c _ live ∙ sym (append_assoc (merged cs) (c ∷ []) (merged others)) ∙ ap (λ xs. xs ++ merged others) (sym (merged-live cs c [] live))

pub free_push : (run : List Chunk) (n : ℕ) → AllFree run → AllFree (run ++ free n ∷ [])
free_push [] n f = tt
free_push (free m ∷ run) n f = free_push run n f
free_push (c ∷ run) n f = absurd f

run_push : (image : List ℕ) (at run_size : ℕ) (cs : List Chunk) (c : Chunk) (next : ℕ) → EndsInRun image at run_size cs → EndsInRun image next (run_by run_size (header_of c)) (cs ++ c ∷ [])
run_push image at run_size cs (free n) next e = record {
  front = e.front;
  run = e.run ++ free n ∷ [];
  parts = ap (λ xs. xs ++ free n ∷ []) e.parts ∙ append_assoc e.front e.run (free n ∷ []);
  all_free = free_push e.run n e.all_free;
  sums = let t = total-append e.run (free n ∷ []) in omega arith;
  apart = e.apart;
}
run_push image at run_size cs c next e = record { front = cs ++ c ∷ []; run = []; parts = sym (append-nil _); all_free = tt; sums = refl; apart = live_keeps cs c tt }

pub search_start : (image : List ℕ) (size : ℕ) → 0 < size → area_start image ≤ length image
    → Searched image size (area_start image) 0
search_start image size some inside = record { front = []; run = []; spelled = refl; all_free = tt; sums = refl; below = tt; ends = refl; inside = inside; small = some; apart = λ others. refl }

-- a chunk stands where the search has come to
pub search_there : {image : List ℕ} {size at run_size : ℕ} → HeapAccepted image
    → Searched image size at run_size → at < length image → HasChunk image at
search_there {at} h s inside = let c = chunk_there _ h.0 _ at h.1.tiles s.spelled inside in record { chunk = c.0; spelled = c.1 }

pub search_fits : {image : List ℕ} {size at run_size : ℕ} → Searched image size at run_size
    → run_size ≤ at
search_fits {image} {at} s =
    let e = SpelledAll-end image (area_start image) (s.front ++ s.run) at s.spelled in
    let t = total-append s.front s.run in omega arith

pub search_size : {image : List ℕ} {size at run_size : ℕ} {h : Header} → Searched image size at run_size → HasHeader image at h → (8 ≤ size_by h) × (at + size_by h ≤ length image) × (run_by run_size h ≤ at + size_by h)
search_size {image} {at} {run_size} {h} s found =
    let c = found.chunk in
    let e : size_by h ≡ size_of c = ap size_by found.header_is ∙ size_by-header_of c in
    let z = Spelled-size image at c found.spelled in let fits = search_fits s in
    (omega arith, omega arith, within h fits) where
      within : (g : Header) → run_size ≤ at → run_by run_size g ≤ at + size_by g
      within (headers.Free n) fits = omega arith
      within (headers.Movable count lock owner slot) fits = omega arith
      within (headers.Fixed count owner) fits = omega arith

-- the walk goes on after a chunk
pushed : {image : List ℕ} {size at run_size : ℕ} {h : Header} → (s : Searched image size at run_size) → (found : HasHeader image at h) → SpelledAll image (area_start image) ((s.front ++ s.run) ++ found.chunk ∷ []) (at + size_by h)
pushed {image} {at} {h} s found =
    SpelledAll-push image (area_start image) (s.front ++ s.run) at found.chunk (at + size_by h) s.spelled found.spelled (ap (λ n. at + n) (ap size_by found.header_is ∙ size_by-header_of found.chunk))

pushed_run : {image : List ℕ} {size at run_size : ℕ} {h : Header} → (s : Searched image size at run_size) → (found : HasHeader image at h) → EndsInRun image (at + size_by h) (run_by run_size h) ((s.front ++ s.run) ++ found.chunk ∷ [])
pushed_run {image} {at} {run_size} {h} s found =
    subst (λ g. EndsInRun image (at + size_by h) (run_by run_size g) ((s.front ++ s.run) ++ found.chunk ∷ [])) (sym found.header_is)
    (run_push _ at _ _ _ _ record { front = s.front; run = s.run; parts = refl; all_free = s.all_free; sums = s.sums; apart = s.apart })

pub search_more : {image : List ℕ} {size at run_size : ℕ} {h : Header} → Searched image size at run_size → HasHeader image at h → run_by run_size h < size → Searched image size (at + size_by h) (run_by run_size h)
search_more {size} {at} {run_size} {h} s found small =
    let c : Chunk = found.chunk in let cs : List Chunk = s.front ++ s.run in
    let r = pushed_run s found in let z = search_size s found in
    let low = subst (λ g. run_by run_size g < size) found.header_is small in
    let last = rw (← s.ends) at (below_one size run_size c low) in
    let ends = behind_push 0 cs c ∙ ap (λ n. run_behind n (c ∷ [])) s.ends ∙ behind_one _ c ∙ sym (ap (run_by run_size) found.header_is) in
    record {
      front = r.front;
      run = r.run;
      spelled = rw r.parts at (pushed s found);
      all_free = r.all_free;
      sums = r.sums;
      below = subst (λ xs. StaysBelow size 0 xs) r.parts (below_push size 0 cs c s.below last);
      ends = ap (run_behind 0) (sym r.parts) ∙ ends;
      inside = z.1;
      small = small;
      apart = r.apart;
    }

pub search_found : {image : List ℕ} {size at run_size : ℕ} {h : Header} → HeapAccepted image → Searched image size at run_size → HasHeader image at h → IsRoom image (at + size_by h - run_by run_size h) (run_by run_size h)
search_found {image} {at} {h} accepted s found =
    let c : Chunk = found.chunk in let cs : List Chunk = s.front ++ s.run in
    let r = pushed_run s found in let z = search_size s found in
    let spelled = pushed s found in
    let after = chunks_after image _ (cs ++ c ∷ []) (at + size_by h) accepted.1.tiles spelled z.1 in
    let end = SpelledAll-end image (area_start image) (cs ++ c ∷ []) (at + size_by h) spelled in
    let split = ap total r.parts ∙ total-append r.front r.run in record {
      before = r.front;
      run = r.run;
      after = after.0;
      chunks = after.1 ∙ ap (λ xs. xs ++ after.0) r.parts ∙ append_assoc r.front r.run after.0;
      all_free = r.all_free;
      there = omega arith;
      sums = r.sums;
      front = ap merged (after.1 ∙ ap (λ xs. xs ++ after.0) r.parts ∙ append_assoc r.front r.run after.0) ∙ r.apart (r.run ++ after.0);
    }

-- at the end none was found
pub search_none : {image : List ℕ} {size at run_size : ℕ} → HeapAccepted image → 0 < size
    → Searched image size at run_size → length image ≤ at → NoRun (chunks_of image) size
search_none {image} {size} {at} accepted some s beyond =
    let end : at ≡ length image = omega arith in let cs : List Chunk = s.front ++ s.run in
    let all = subst (λ n. SpelledAll image (area_start image) cs n) end s.spelled in
    let is = chunks_of-area image cs all in
    below_no_run size (chunks_of image) some (subst (λ xs. StaysBelow size 0 xs) (sym is) s.below)
