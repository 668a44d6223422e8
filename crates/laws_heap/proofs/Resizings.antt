-- A chunk that takes another length in its place: its name alone stands for something else, and
-- nothing moves.
use Rattle.laws_heap.proofs.Words.{◌≡◌, ◌≢◌, ℕ, zero, suc, ◌+◌, ◌-◌, ◌≤◌, Bool, true, false, cond, List, [], ◌∷◌, ◌++◌, length, replicate, take, Option, Some, None, refl, sym, ap, subst, ◌∙◌, append_assoc, length-append, arith, ◌==◌, eq-eqb, nat_tests, length-replicate, sized_to, Chunk, free, movable, fixed, need, size_of, total, area_start, HeapAccepted, EveryPlaced, LiveChunk, NamedHere, chunks_of, live_under, is_fixed_name, AllFree, NoneStays, room_of, free_front, free_behind_in, free_behind, Finds, free_onto, merged, layout_of, Becomes, gap, lives, packed, BeginsStaying, WholeStretch, opened, OpensBehind, with_length, behind_front, grown, GrowsInPlace}
use Rattle.std.proofs.lemmas.List.{length-take}
use Rattle.laws_heap.proofs.Tests.{cond-true, cond-false, none_some}
use Rattle.laws_heap.proofs.FixedNames.{fixed_with_bytes}
use Rattle.laws_heap.proofs.Placed.{TakesBytes}
use Rattle.laws_heap.proofs.FreeChunks.{or_front, or_back}
use Rattle.laws_heap.proofs.AlteredChunks.{named_live, named_place}
use Rattle.laws_heap.proofs.Lives.{or_else, live_under-append}
use Rattle.laws_heap.proofs.Layouts.{IsNotFree, free_front-merged, merged-front, merged-right, merged-back, merged-live, merged-twice, total-merged, live_under-merged}
use Rattle.laws_heap.proofs.SameLayouts.{becomes_alike, becomes_behind}
use Rattle.laws_heap.proofs.Exchanges.{layout_takes, gap_free, gap_total, NotBeside, named_no_other, named_beside, ChangesName, run_changes}
use Rattle.laws_heap.proofs.ExchangedNames.{changes_as, some_place, named_live_chunk}
use Rattle.laws_heap.proofs.Packings.{no_true, packed_slid}
use Rattle.laws_heap.proofs.Slides.{slid_live, none_stays-append, stretch_packed}

-- ---- a chunk with another length

pub length-sized_to : (bytes : List ℕ) (count : ℕ) → length (sized_to bytes count) ≡ count
length-sized_to bytes count =
    let both = length-append (take count bytes) (replicate (count - length bytes) 0) in
    let front = length-take count bytes in
    let back = length-replicate {A = ℕ} (count - length bytes) 0 in
    omega (arith, both, front, back)

-- what it takes
pub size_of-with_length : (c : Chunk) (count : ℕ) → IsNotFree c
    → size_of (with_length count c) ≡ need count
size_of-with_length (free size) count n = absurd n
size_of-with_length (movable bytes lock owner slot) count n = ap need (length-sized_to bytes count)
size_of-with_length (fixed bytes owner) count n = ap need (length-sized_to bytes count)

-- what its name stands for then
abbrev pub live_sized : ℕ → LiveChunk → LiveChunk
live_sized count live = record live { bytes = sized_to live.bytes count }

pub named_sized : (name at count : ℕ) (live : LiveChunk) (c : Chunk) → NamedHere name live at c
    → NamedHere name (live_sized count live) at (with_length count c)
named_sized name at count live (free size) n = absurd n
named_sized name at count live (movable bytes lock owner slot) n = (n.0, ap (live_sized count) n.1)
named_sized name at count live (fixed bytes owner) n =
    fixed_with_bytes at bytes owner (λ body. sized_to body count) n

-- ---- a chunk and the free ones after it, for another of its name and free ones

beside_run : (start : ℕ) (before : List Chunk) (c : Chunk) (run after : List Chunk) (name : ℕ)
    → NotBeside start before (size_of c) (run ++ after) name
    → NotBeside start before (total (c ∷ run)) after name
beside_run start before c run after name b =
    let here : ℕ = start + total before + size_of c in
    let there : here + total run ≡ start + total before + (size_of c + total run) = omega arith in
    record {
      front = b.front;
      back = subst (λ n. live_under n after name ≡ None) there
          (or_back _ _ (sym (live_under-append here run after name) ∙ b.back));
    }

resized_changes : (old new : List ℕ) (before : List Chunk) (c : Chunk) (run : List Chunk)
    (d : Chunk) (left after : List Chunk) (name : ℕ) (live now : LiveChunk) → HeapAccepted old
    → layout_of old ≡ merged (before ++ ((c ∷ run) ++ after))
    → Becomes old new (before ++ ((d ∷ left) ++ after)) → total (d ∷ left) ≡ total (c ∷ run)
    → AllFree run → AllFree left → NotBeside (area_start old) before (size_of c) (run ++ after) name
    → NamedHere name live (area_start old + total before) c
    → NamedHere name now (area_start old + total before) d
    → ChangesName old new name (Some now) (Some (area_start old + total before + 8))
resized_changes old new before c run d left after name live now h e b sizes free_run free_left
    beside was is =
    let here : ℕ = area_start old + total before in
    changes_as old new name _ (Some now) _ (Some (here + 8)) (named_live name here now d left is)
    (named_place name here now d left is)
    (run_changes old new before (c ∷ run) (d ∷ left) after name h e b sizes
    (beside_run (area_start old) before c run after name beside) (named_no_other name here live c
    run was free_run) (named_no_other name here now d left is free_left))

-- ---- a chunk is grown

grown-at : (there count at : ℕ) (before : List Chunk) (c : Chunk) (after : List Chunk)
    → EveryPlaced TakesBytes at (before ++ c ∷ after) → there ≡ at + total before
    → grown there count at (before ++ c ∷ after) ≡ before ++ with_length count c
    ∷ (gap (size_of c + free_front after - size_of (with_length count c)) ++ behind_front after)
unfolding grown
grown-at there count at [] c after takes e = cond-true _ _ _ (eq-eqb at there (omega arith))
grown-at there count at (b ∷ before) c after takes e =
    let least = takes.0 in
    let low : at ≢ there = omega arith in
    cond-false (at == there) _ _ (grind (arith, nat_tests))
    ∙ ap (λ ds. b ∷ ds) (grown-at there count (at + size_of b) before c after takes.1 (omega arith))

-- the free chunks with which some begin, and those after them
pub record FrontParts (cs : List Chunk) : Type 0 where
  pub run : List Chunk
  pub all_free : AllFree run
  pub sums : total run ≡ free_front cs
  pub parts : cs ≡ run ++ behind_front cs

pub front_parts : (cs : List Chunk) → FrontParts cs
front_parts [] = record { run = []; all_free = tt; sums = refl; parts = refl }
front_parts (free size ∷ cs) =
    let p = front_parts cs in
    record {
      run = free size ∷ p.run;
      all_free = p.all_free;
      sums = ap (λ n. size + n) p.sums;
      parts = ap (λ ds. free size ∷ ds) p.parts;
    }
front_parts (movable bytes lock owner slot ∷ cs) =
    record { run = []; all_free = tt; sums = refl; parts = refl }
front_parts (fixed bytes owner ∷ cs) = record { run = []; all_free = tt; sums = refl; parts = refl }

behind_onto : (size : ℕ) (cs : List Chunk) → behind_front (free_onto size cs) ≡ behind_front cs
behind_onto size [] = refl
behind_onto size (free more ∷ cs) = refl
behind_onto size (movable bytes lock owner slot ∷ cs) = refl
behind_onto size (fixed bytes owner ∷ cs) = refl

behind_front-merged : (cs : List Chunk) → behind_front (merged cs) ≡ merged (behind_front cs)
behind_front-merged [] = refl
behind_front-merged (free size ∷ cs) = behind_onto size (merged cs) ∙ behind_front-merged cs
behind_front-merged (movable bytes lock owner slot ∷ cs) = refl
behind_front-merged (fixed bytes owner ∷ cs) = refl

-- in parts of the image's chunks
pub grows_parts : (old new : List ℕ) (there count : ℕ) (before : List Chunk) (c : Chunk)
    (after : List Chunk) → HeapAccepted old → IsNotFree c → chunks_of old ≡ before ++ c ∷ after
    → there ≡ area_start old + total before → Becomes old new (before ++ ((with_length count c
    ∷ gap (size_of c + free_front after - need count)) ++ behind_front after))
    → GrowsInPlace old new there count
grows_parts old new there count before c after h live e is b =
    let start : ℕ = area_start old in
    let d : Chunk = with_length count c in
    let left : ℕ = size_of c + free_front after - need count in
    let layout = ap merged e ∙ merged-live before c after live in
    let takes = rw layout at (layout_takes old h) in
    let front = free_front-merged after in
    let size = size_of-with_length c count live in
    let left_is : size_of c + free_front (merged after) - size_of d ≡ left = omega arith in
    let parts : grown there count start (layout_of old)
    ≡ merged before ++ d ∷ (gap left ++ behind_front (merged after)) =
    ap (grown there count start) layout ∙ grown-at there count start (merged before) c
    (merged after) takes (is ∙ ap (λ n. start + n) (sym (total-merged before)))
    ∙ ap (λ (n : ℕ). merged before ++ d ∷ (gap n ++ behind_front (merged after))) left_is in
    let tail = ap (λ cs. merged (gap left ++ cs)) (behind_front-merged after)
    ∙ merged-back (gap left) (behind_front after) in
    let alike : merged (before ++ d ∷ (gap left ++ behind_front after))
    ≡ merged (merged before ++ d ∷ (gap left ++ behind_front (merged after))) =
    sym (merged-front before (d ∷ (gap left ++ behind_front (merged after)))
    ∙ merged-right before (d ∷ (gap left ++ behind_front (merged after)))
    (d ∷ (gap left ++ behind_front after)) (merged-right (d ∷ [])
    (gap left ++ behind_front (merged after)) (gap left ++ behind_front after) tail)) in
    subst (λ (cs : List Chunk). Becomes old new cs) (sym parts) (becomes_alike old new _ _ alike b)

pub grow_changes : (old new : List ℕ) (name place count : ℕ) (live : LiveChunk) (c : Chunk)
    → HeapAccepted old → 8 ≤ place → (f : Finds old name live c (place - 8))
    → need count ≤ size_of c + free_front f.after → GrowsInPlace old new (place - 8) count
    → ChangesName old new name (Some (live_sized count live)) (Some place)
grow_changes old new name place count live c h low f fits b =
    let there = f.there in
    let start : ℕ = area_start old in
    let before : List Chunk = merged f.before in
    let after : List Chunk = merged f.after in
    let here : ℕ = start + total before in
    let sum = total-merged f.before in
    let first : NamedHere name live (start + total f.before) c = rw f.there at f.named in
    let was : NamedHere name live here c =
    rw (let e : place - 8 ≡ here = omega arith in e) at f.named in
    let alive = named_live_chunk name here live c was in
    let d : Chunk = with_length count c in
    let p = front_parts after in
    let front = free_front-merged f.after in
    let left : ℕ = size_of c + free_front after - size_of d in
    let size = size_of-with_length c count alive in
    let run_sum = p.sums in
    let sizes : total (d ∷ gap left) ≡ total (c ∷ p.run) = let e = gap_total left in omega arith in
    let layout = ap merged f.chunks ∙ merged-live f.before c f.after alive in
    let takes = rw layout at (layout_takes old h) in
    let becomes : Becomes old new (before ++ ((d ∷ gap left) ++ behind_front after)) =
    subst (λ cs. Becomes old new cs) (ap (grown (place - 8) count start) layout
    ∙ grown-at (place - 8) count start before c after takes
    (let e : place - 8 ≡ start + total before = omega arith in e)) b in
    let is_layout = sym (merged-twice (chunks_of old))
    ∙ ap merged (layout ∙ ap (λ cs. before ++ c ∷ cs) p.parts) in
    let beside = named_beside old f.before c f.after name live h f.chunks first in
    let behind : live_under (start + total before + size_of c) (p.run ++ behind_front after) name
    ≡ None =
    ap (λ cs. live_under (start + total before + size_of c) cs name) (sym p.parts)
    ∙ live_under-merged (start + total before + size_of c) f.after name
    ∙ ap (λ (n : ℕ). live_under (start + n + size_of c) f.after name) sum ∙ beside.back in
    changes_as old new name _ _ _ (Some place) refl
    (ap some_place (let e : here + 8 ≡ place = omega arith in e))
    (resized_changes old new before c p.run d (gap left) (behind_front after) name live
    (live_sized count live) h is_layout becomes sizes p.all_free (gap_free left)
    (record { front = live_under-merged start f.before name ∙ beside.front; back = behind }) was
    (named_sized name here count live c was))

-- ---- what is free after a chunk

behind_other : (at : ℕ) (before cs : List Chunk) (name : ℕ) → live_under at before name ≡ None
    → free_behind_in (before ++ cs) name ≡ free_behind_in cs name
behind_other at [] cs name e = refl
behind_other at (free size ∷ before) cs name e = behind_other (at + size) before cs name e
behind_other at (movable bytes lock owner slot ∷ before) cs name e =
    passed (slot == name) _ _ e (behind_other (at + need (length bytes)) before cs name) where
      passed : (b : Bool) (x : LiveChunk) (rest : Option LiveChunk) → cond b (Some x) rest ≡ None
          → (rest ≡ None → free_behind_in (before ++ cs) name ≡ free_behind_in cs name) → cond b
          (free_front (before ++ cs)) (free_behind_in (before ++ cs) name) ≡ free_behind_in cs name
      passed true x rest e f = absurd (none_some (Some x) x e refl)
      passed false x rest e f = f e
behind_other at (fixed bytes owner ∷ before) cs name e = passed (is_fixed_name at owner name) _ _ e
    (behind_other (at + need (length bytes)) before cs name) where
      passed : (b : Bool) (x : LiveChunk) (rest : Option LiveChunk) → cond b (Some x) rest ≡ None
          → (rest ≡ None → free_behind_in (before ++ cs) name ≡ free_behind_in cs name)
          → free_behind_in (before ++ cs) name ≡ free_behind_in cs name
      passed true x rest e f = absurd (none_some (Some x) x e refl)
      passed false x rest e f = f e

-- after a movable chunk of a name it is what the chunks after it begin with
pub finds_behind : (image : List ℕ) (name at : ℕ) (live : LiveChunk) (bytes : List ℕ)
    (lock owner slot : ℕ) → HeapAccepted image
    → (f : Finds image name live (movable bytes lock owner slot) at)
    → free_behind image name ≡ free_front f.after
finds_behind image name at live bytes lock owner slot h f =
    let c : Chunk = movable bytes lock owner slot in
    let first = subst (λ n. NamedHere name live n c) f.there f.named in
    ap (λ (cs : List Chunk). free_behind_in cs name) f.chunks
    ∙ behind_other (area_start image) f.before (c ∷ f.after) name
    (named_beside image f.before c f.after name live h f.chunks first).front
    ∙ cond-true (slot == name) (free_front f.after) (free_behind_in f.after name)
    (eq-eqb slot name f.named.0)

-- the live ones of a stretch have the names of the stretch
lives_unnamed : (at : ℕ) (cs : List Chunk) (name : ℕ) → NoneStays cs → live_under at cs name ≡ None
    → live_under at (lives cs) name ≡ None
lives_unnamed at cs name n none =
    or_front _ _ (sym (live_under-append at (lives cs) (gap (room_of cs)) name)
    ∙ ap (λ ds. live_under at ds name) (sym (stretch_packed cs n))
    ∙ slid_live at cs (packed cs) name (packed_slid cs) ∙ none)

gap_front : (room : ℕ) (cs : List Chunk) → free_front (gap room ++ cs) ≡ room + free_front cs
gap_front zero cs = omega arith
gap_front (suc n) cs = refl

-- no free chunk follows the live ones of a stretch
lives_front : (cs after : List Chunk) → BeginsStaying after → free_front (lives cs ++ after) ≡ 0
lives_front [] [] s = refl
lives_front [] (free size ∷ after) s = absurd (no_true s)
lives_front [] (movable bytes lock owner slot ∷ after) s = refl
lives_front [] (fixed bytes owner ∷ after) s = refl
lives_front (free size ∷ cs) after s = lives_front cs after s
lives_front (movable bytes lock owner slot ∷ cs) after s = refl
lives_front (fixed bytes owner ∷ cs) after s = refl

gap_lives_front : (room : ℕ) (cs after : List Chunk) → BeginsStaying after
    → free_front (gap room ++ (lives cs ++ after)) ≡ room
gap_lives_front room cs after s =
    let first = gap_front room (lives cs ++ after) in
    let none = lives_front cs after s in
    omega arith

-- once room is opened after a chunk of a stretch, all of the stretch's room is free after it
pub opened_behind : (old new : List ℕ) (at : ℕ) (before front : List Chunk) (bytes : List ℕ)
    (owner slot : ℕ) (back after : List Chunk) → HeapAccepted old
    → WholeStretch old before (front ++ movable bytes 0 owner slot ∷ back) after
    → at ≡ area_start old + total before + total front → OpensBehind old new at
    → free_behind new slot ≡ room_of (front ++ back)
opened_behind old new at before front bytes owner slot back after h w there o =
    let start : ℕ = area_start old in
    let c : Chunk = movable bytes 0 owner slot in
    let room : ℕ = room_of (front ++ back) in
    let live : LiveChunk = record { bytes = bytes; lock = 0; owner = owner } in
    let parts = w.chunks ∙ ap (λ cs. before ++ cs) (append_assoc front (c ∷ back) after)
    ∙ sym (append_assoc before front (c ∷ (back ++ after))) in
    let none : live_under start (before ++ front) slot ≡ None =
    (named_beside old (before ++ front) c (back ++ after) slot live h parts (refl, refl)).front in
    let split = sym (live_under-append start before front slot) ∙ none in
    let loose = ((none_stays-append front (c ∷ back)).0 w.none_stays).0 in
    let all : before ++ (opened front c back ++ after)
    ≡ (before ++ lives front) ++ c ∷ (gap room ++ (lives back ++ after)) =
    ap (λ cs. before ++ cs) (append_assoc (lives front) (c ∷ (gap room ++ lives back)) after
    ∙ ap (λ cs. lives front ++ c ∷ cs) (append_assoc (gap room) (lives back) after))
    ∙ sym (append_assoc before (lives front) (c ∷ (gap room ++ (lives back ++ after)))) in
    let unnamed : live_under start (before ++ lives front) slot ≡ None =
    live_under-append start before (lives front) slot ∙ ap (λ r. or_else r
    (live_under (start + total before) (lives front) slot)) (or_front _ _ split)
    ∙ lives_unnamed (start + total before) front slot loose (or_back _ _ split) in
    becomes_behind old new _ slot (o before front bytes owner slot back after w there)
    ∙ ap (λ (cs : List Chunk). free_behind_in cs slot) all
    ∙ behind_other start (before ++ lives front) _ slot unnamed
    ∙ cond-true (slot == slot) (free_front (gap room ++ (lives back ++ after))) (free_behind_in
    (gap room ++ (lives back ++ after)) slot) (eq-eqb slot slot refl)
    ∙ gap_lives_front room back after w.behind
