-- Chunks that slide: what names stand for, which chunks stay, the free bytes and the rooms are as
-- they were. It is shown of packing, and so of any two lists that are packed alike.
use Rattle.laws_heap.proofs.Words.{◌≡◌, ℕ, zero, suc, ◌+◌, ◌<◌, Bool, true, false, cond, List, [], ◌∷◌, ◌++◌, length, Option, Some, None, refl, sym, ap, subst, ◌∙◌, arith, All, ◌↔◌, sum_by, ◌==◌, if◌then◌else◌, All-nil, All-cons, All-head, All-tail, sum_by-cons, Chunk, free, movable, fixed, need, total, free_size, EveryPlaced, LiveChunk, live_under, is_fixed_name, NoRun, NoneStays, rooms_of, room_of, stretches, runs_between, place_under, merged, AllBelow, gap, lives, staying, Slid, packed_behind, packed, opened}
use Rattle.laws_heap.proofs.Chunks.{total-append}
use Rattle.laws_heap.proofs.Placed.{TakesBytes}
use Rattle.laws_heap.proofs.Lives.{move_live, move_place}
use Rattle.laws_heap.proofs.FixedNames.{fixed_live}
use Rattle.laws_heap.proofs.Layouts.{onto_shifted, total-merged, no_run-below, below-no_run, marks, marked, mark_onto, marked_rooms, marks_onto, mark_twice}
use Rattle.laws_heap.proofs.Exchanges.{gap_total}
use Rattle.laws_heap.proofs.Packings.{merged-packed, slid_packed, lives_gap}

-- ---- what names stand for

gap_live : (at room : ℕ) (cs : List Chunk) (name : ℕ)
    → live_under at (gap room ++ cs) name ≡ live_under (at + room) cs name
gap_live at zero cs name = move_live at (at + 0) cs name (omega arith)
gap_live at (suc n) cs name = refl

live_under-packed : (at room : ℕ) (cs : List Chunk) (name : ℕ)
    → live_under at (packed_behind room cs) name ≡ live_under (at + room) cs name
live_under-packed at zero [] name = refl
live_under-packed at (suc n) [] name = refl
live_under-packed at room (free size ∷ cs) name = live_under-packed at (room + size) cs name
    ∙ move_live (at + (room + size)) (at + room + size) cs name (omega arith)
live_under-packed at room (movable bytes zero owner slot ∷ cs) name =
    ap (λ o. if slot == name then Some (record { bytes = bytes; lock = 0; owner = owner }) else o)
    (live_under-packed (at + need (length bytes)) room cs name ∙ move_live (at + need (length bytes)
    + room) (at + room + need (length bytes)) cs name (omega arith))
live_under-packed at room (movable bytes (suc count) owner slot ∷ cs) name =
    gap_live at room (movable bytes (suc count) owner slot ∷ packed_behind 0 cs) name
    ∙ ap (λ o.
    if slot == name then Some (record { bytes = bytes; lock = suc count; owner = owner }) else o)
    (live_under-packed (at + room + need (length bytes)) 0 cs name ∙ move_live (at + room
    + need (length bytes) + 0) (at + room + need (length bytes)) cs name (omega arith))
live_under-packed at room (fixed bytes owner ∷ cs) name =
    gap_live at room (fixed bytes owner ∷ packed_behind 0 cs) name
    ∙ ap (λ o. if is_fixed_name (at + room) owner name then Some (fixed_live bytes owner) else o)
    (live_under-packed (at + room + need (length bytes)) 0 cs name ∙ move_live (at + room
    + need (length bytes) + 0) (at + room + need (length bytes)) cs name (omega arith))

packed_live : (at : ℕ) (cs : List Chunk) (name : ℕ)
    → live_under at (packed cs) name ≡ live_under at cs name
packed_live at cs name = live_under-packed at 0 cs name ∙ move_live _ at cs name (omega arith)

pub slid_live : (at : ℕ) (cs ds : List Chunk) (name : ℕ) → Slid cs ds
    → live_under at ds name ≡ live_under at cs name
slid_live at cs ds name s = sym (packed_live at ds name)
    ∙ ap (λ xs. live_under at xs name) (slid_packed cs ds s) ∙ packed_live at cs name

-- ---- what stays

gap_place : (at room : ℕ) (cs : List Chunk) (name : ℕ)
    → place_under at (gap room ++ cs) name ≡ place_under (at + room) cs name
gap_place at zero cs name = move_place at (at + 0) cs name (omega arith)
gap_place at (suc n) cs name = refl

-- a chunk of another name is passed over, and one without a lock isn't looked for
passed : (b : Bool) (x live : LiveChunk) (p q : ℕ) (rest_live : Option LiveChunk)
    (rest_place other : Option ℕ) → (0 < x.lock → p ≡ q) → 0 < live.lock
    → (rest_live ≡ Some live → rest_place ≡ other) → cond b (Some x) rest_live ≡ Some live
    → cond b (Some p) rest_place ≡ cond b (Some q) other
passed true x live p q rest_live rest_place other same some rest e =
    let one : x ≡ live = cc in
    let lock : x.lock ≡ live.lock = ap (λ (l : LiveChunk). l.lock) one in
    let here : p ≡ q = same (omega arith) in
    cc
passed false x live p q rest_live rest_place other same some rest e = rest e

place_under-packed : (at room : ℕ) (cs : List Chunk) (name : ℕ) (live : LiveChunk)
    → live_under (at + room) cs name ≡ Some live → 0 < live.lock
    → place_under at (packed_behind room cs) name ≡ place_under (at + room) cs name
place_under-packed at zero [] name live e some = refl
place_under-packed at (suc n) [] name live e some = refl
place_under-packed at room (free size ∷ cs) name live e some =
    let there : at + (room + size) ≡ at + room + size = omega arith in
    place_under-packed at (room + size) cs name live (move_live _ _ cs name there ∙ e) some
    ∙ move_place _ _ cs name there
place_under-packed at room (movable bytes zero owner slot ∷ cs) name live e some =
    let there : at + need (length bytes) + room ≡ at + room + need (length bytes) = omega arith in
    passed (slot == name) _ live (at + 8) _ _ _ _ (λ locked. absurd (omega arith)) some
    (λ f. place_under-packed (at + need (length bytes)) room cs name live
    (move_live _ _ cs name there ∙ f) some ∙ move_place _ _ cs name there) e
place_under-packed at room (movable bytes (suc count) owner slot ∷ cs) name live e some =
    let there : at + room + need (length bytes) + 0 ≡ at + room + need (length bytes) =
    omega arith in
    gap_place at room (movable bytes (suc count) owner slot ∷ packed_behind 0 cs) name
    ∙ passed (slot == name) _ live (at + room + 8) (at + room + 8) _ _ _ (λ locked. refl) some
    (λ f. place_under-packed (at + room + need (length bytes)) 0 cs name live
    (move_live _ _ cs name there ∙ f) some ∙ move_place _ _ cs name there) e
place_under-packed at room (fixed bytes owner ∷ cs) name live e some =
    let there : at + room + need (length bytes) + 0 ≡ at + room + need (length bytes) =
    omega arith in
    gap_place at room (fixed bytes owner ∷ packed_behind 0 cs) name
    ∙ passed _ _ live (at + room + 8) (at + room + 8) _ _ _ (λ locked. refl) some
    (λ f. place_under-packed (at + room + need (length bytes)) 0 cs name live
    (move_live _ _ cs name there ∙ f) some ∙ move_place _ _ cs name there) e

packed_place : (at : ℕ) (cs : List Chunk) (name : ℕ) (live : LiveChunk)
    → live_under at cs name ≡ Some live → 0 < live.lock
    → place_under at (packed cs) name ≡ place_under at cs name
packed_place at cs name live e some =
    let there : at + 0 ≡ at = omega arith in
    place_under-packed at 0 cs name live (move_live (at + 0) at cs name there ∙ e) some
    ∙ move_place (at + 0) at cs name there

-- the place of a name that is locked or fixed
pub slid_place : (at : ℕ) (cs ds : List Chunk) (name : ℕ) (live : LiveChunk) → Slid cs ds
    → live_under at cs name ≡ Some live → 0 < live.lock
    → place_under at ds name ≡ place_under at cs name
slid_place at cs ds name live s e some =
    sym (packed_place at ds name live (slid_live at cs ds name s ∙ e) some)
    ∙ ap (λ xs. place_under at xs name) (slid_packed cs ds s) ∙ packed_place at cs name live e some

-- ---- how much is free

-- what is free is what the live ones leave
pub lives_total : (cs : List Chunk) → total cs ≡ sum_by free_size cs + total (lives cs)
lives_total [] = refl
lives_total (free size ∷ cs) =
    let e = sum_by-cons free_size (free size) cs in let ih = lives_total cs in
    omega arith
lives_total (movable bytes lock owner slot ∷ cs) =
    let e = sum_by-cons free_size (movable bytes lock owner slot) cs in let ih = lives_total cs in
    omega arith
lives_total (fixed bytes owner ∷ cs) =
    let e = sum_by-cons free_size (fixed bytes owner) cs in let ih = lives_total cs in
    omega arith

pub slid_free : (cs ds : List Chunk) → Slid cs ds → sum_by free_size ds ≡ sum_by free_size cs
slid_free cs ds s =
    let old = lives_total cs in
    let new = lives_total ds in
    let same = ap total s.same in
    let sizes = s.sizes in
    omega arith

-- ---- the rooms

abbrev mark_room : ℕ → List (Option ℕ) → List (Option ℕ)
mark_room zero others = others
mark_room (suc n) others = mark_onto (suc n) others

more_room : (room n : ℕ) (others : List (Option ℕ)) → 0 < n
    → mark_room (room + n) others ≡ mark_room room (mark_onto n others)
more_room zero zero others some = absurd (omega arith)
more_room zero (suc n) others some =
    ap (λ k. mark_room k others) (let e : 0 + suc n ≡ suc n = omega arith in e)
more_room (suc m) n others some =
    ap (λ k. mark_room k others) (let e : suc m + n ≡ suc (m + n) = omega arith in e)
    ∙ ap (λ k. mark_onto k others) (let e : suc (m + n) ≡ suc m + n = omega arith in e)
    ∙ mark_twice (suc m) n others

no_more_room : (room : ℕ) (others : List (Option ℕ))
    → mark_onto 0 (mark_room room others) ≡ mark_room room (mark_onto 0 others)
no_more_room zero others = refl
no_more_room (suc n) others =
    let e : 0 + suc n ≡ suc n + 0 = omega arith in
    sym (mark_twice 0 (suc n) others) ∙ ap (λ k. mark_onto k others) e ∙ mark_twice (suc n) 0 others

gap_marks : (room : ℕ) (runs : List (List Chunk)) (cs : List Chunk) → runs_between cs ≡ [] ∷ runs
    → marks (runs_between (gap room ++ cs)) ≡ mark_room room (None ∷ marks runs)
gap_marks zero runs cs e = ap marks e
gap_marks (suc n) runs cs e = marks_onto (free (suc n)) (runs_between cs)
    ∙ ap (λ (rs : List (List Chunk)). mark_onto (suc n) (marks rs)) e

marks-packed : (at room : ℕ) (cs : List Chunk) → EveryPlaced TakesBytes at cs
    → marks (runs_between (packed_behind room cs)) ≡ mark_room room (marks (runs_between cs))
marks-packed at zero [] takes = refl
marks-packed at (suc n) [] takes = marks_onto (free (suc n)) ([] ∷ [])
marks-packed at room (free n ∷ cs) takes =
    let least = takes.0 in
    marks-packed (at + n) (room + n) cs takes.1
    ∙ more_room room n (marks (runs_between cs)) (omega arith)
    ∙ ap (mark_room room) (sym (marks_onto (free n) (runs_between cs)))
marks-packed at room (movable bytes zero owner slot ∷ cs) takes =
    marks_onto (movable bytes 0 owner slot) (runs_between (packed_behind room cs))
    ∙ ap (mark_onto 0) (marks-packed (at + need (length bytes)) room cs takes.1)
    ∙ no_more_room room (marks (runs_between cs))
    ∙ ap (mark_room room) (sym (marks_onto (movable bytes 0 owner slot) (runs_between cs)))
marks-packed at room (movable bytes (suc count) owner slot ∷ cs) takes =
    gap_marks room (runs_between (packed_behind 0 cs)) (movable bytes (suc count) owner slot
    ∷ packed_behind 0 cs) refl ∙ ap (λ (ms : List (Option ℕ)). mark_room room
    (None ∷ ms)) (marks-packed (at + need (length bytes)) 0 cs takes.1)
marks-packed at room (fixed bytes owner ∷ cs) takes =
    gap_marks room (runs_between (packed_behind 0 cs)) (fixed bytes owner ∷ packed_behind 0 cs) refl
    ∙ ap (λ (ms : List (Option ℕ)). mark_room room (None ∷ ms)) (marks-packed
    (at + need (length bytes)) 0 cs takes.1)

packed_rooms : (at : ℕ) (cs : List Chunk) → EveryPlaced TakesBytes at cs
    → rooms_of (stretches (packed cs)) ≡ rooms_of (stretches cs)
packed_rooms at cs takes = marked_rooms (runs_between (packed cs))
    ∙ ap marked (marks-packed at 0 cs takes) ∙ sym (marked_rooms (runs_between cs))

pub slid_rooms : (at here : ℕ) (cs ds : List Chunk) → EveryPlaced TakesBytes at cs
    → EveryPlaced TakesBytes here ds → Slid cs ds
    → rooms_of (stretches ds) ≡ rooms_of (stretches cs)
slid_rooms at here cs ds takes others s = sym (packed_rooms here ds others)
    ∙ ap (λ xs. rooms_of (stretches xs)) (slid_packed cs ds s) ∙ packed_rooms at cs takes

-- ---- in packed chunks each room is one free chunk

abbrev ShortMarks : ℕ → List (Option ℕ) → Type 0
ShortMarks size others = All (λ room. room < size) (marked others)

live_marks : (size : ℕ) (others : List (Option ℕ)) → 0 < size
    → ShortMarks size others ↔ ShortMarks size (mark_onto 0 others)
live_marks size [] some =
    (λ s. All-cons (λ room. room < size) 0 [] some s, λ s. All-nil (λ room. room < size))
live_marks size (None ∷ others) some = (
  λ s. All-cons (λ room. room < size) 0 (marked others) some s,
  λ s. All-tail (λ room. room < size) 0 (marked others) s,
)
live_marks size (Some room ∷ others) some =
    let same : room ≡ 0 + room = omega arith in (
      λ s. subst (λ n. All (λ room. room < size) (n ∷ marked others)) same s,
      λ s. subst (λ n. All (λ room. room < size) (n ∷ marked others)) (sym same) s,
    )

gap_short : (size room : ℕ) (c : Chunk) (cs : List Chunk) → 0 < size → free_size c ≡ 0
    → runs_between (c ∷ cs) ≡ [] ∷ runs_between cs
    → AllBelow size cs ↔ ShortMarks size (marks (runs_between cs)) → AllBelow size
    (gap room ++ c ∷ cs) ↔ ShortMarks size (marks (runs_between (gap room ++ c ∷ cs)))
gap_short size zero c cs some none e ih = (
  λ b. subst (λ (rs : List (List Chunk)). ShortMarks size (marks rs)) (sym e)
      (ih.0 (All-tail (λ (d : Chunk). free_size d < size) c cs b)),
  λ s. All-cons (λ (d : Chunk). free_size d < size) c cs (omega arith) (ih.1 (rw e at s)),
)
gap_short size (suc n) c cs some none e ih =
    let m = marks_onto _ _ ∙ ap (λ (rs : List (List Chunk)). mark_onto (suc n) (marks rs)) e in (
      λ b. subst (λ (ms : List (Option ℕ)). ShortMarks size ms) (sym m)
          (All-cons (λ room. room < size) (suc n) (marked (marks (runs_between cs)))
          (All-head (λ d. free_size d < size) (free (suc n)) (c ∷ cs) b)
          (ih.0 (All-tail (λ d. free_size d < size) c cs
          (All-tail (λ d. free_size d < size) (free (suc n)) (c ∷ cs) b)))),
      λ s. let t : ShortMarks size (Some (suc n) ∷ marks (runs_between cs)) = rw m at s in
          All-cons (λ d. free_size d < size) (free (suc n)) (c ∷ cs)
          (All-head (λ room. room < size) (suc n) (marked (marks (runs_between cs))) t)
          (All-cons (λ d. free_size d < size) c cs (omega arith)
          (ih.1 (All-tail (λ room. room < size) (suc n) (marked (marks (runs_between cs))) t))),
    )

below_packed : (size room : ℕ) (cs : List Chunk) → 0 < size → AllBelow size (packed_behind room cs)
    ↔ ShortMarks size (marks (runs_between (packed_behind room cs)))
below_packed size zero [] some =
    (λ b. All-nil (λ room. room < size), λ s. All-nil (λ d. free_size d < size))
below_packed size (suc n) [] some =
    let m = marks_onto (free (suc n)) ([] ∷ []) in (
      λ b. subst (λ (ms : List (Option ℕ)). ShortMarks size ms) (sym m)
          (All-cons (λ room. room < size) (suc n) []
          (All-head (λ d. free_size d < size) (free (suc n)) [] b) (All-nil (λ room. room < size))),
      λ s. All-cons (λ d. free_size d < size) (free (suc n)) [] (All-head (λ room. room < size)
          (suc n) [] (subst (λ (ms : List (Option ℕ)). ShortMarks size ms) m s))
          (All-nil (λ d. free_size d < size)),
    )
below_packed size room (free n ∷ cs) some = below_packed size (room + n) cs some
below_packed size room (movable bytes zero owner slot ∷ cs) some =
    let c : Chunk = movable bytes 0 owner slot in
    let ih = below_packed size room cs some in
    let live = live_marks size (marks (runs_between (packed_behind room cs))) some in
    let m = marks_onto c (runs_between (packed_behind room cs)) in (
      λ b.
          rw (← m) at (live.0
          (ih.0 (All-tail (λ d. free_size d < size) c (packed_behind room cs) b))),
      λ s. All-cons (λ d. free_size d < size) c (packed_behind room cs) some
          (ih.1 (live.1 (rw m at s))),
    )
below_packed size room (movable bytes (suc count) owner slot ∷ cs) some =
    gap_short size room (movable bytes (suc count) owner slot) (packed_behind 0 cs) some refl refl
    (below_packed size 0 cs some)
below_packed size room (fixed bytes owner ∷ cs) some = gap_short size room (fixed bytes owner)
    (packed_behind 0 cs) some refl refl (below_packed size 0 cs some)

-- after packing no run has the size exactly if no stretch had
pub no_run-packed : (at : ℕ) (cs : List Chunk) (size : ℕ) → 0 < size → EveryPlaced TakesBytes at cs
    → NoRun (packed cs) size ↔ All (λ room. room < size) (rooms_of (stretches cs))
no_run-packed at cs size some takes =
    let same = sym (marked_rooms (runs_between (packed cs))) ∙ packed_rooms at cs takes in
    let b = below_packed size 0 cs some in (
      λ n. rw same at (b.0 (rw (merged-packed cs) at (no_run-below (packed cs) size n))),
      λ s. below-no_run _ size some (rw (← (merged-packed cs)) at (b.1 (rw (← same) at s))),
    )

-- ---- layouts

lives-merged : (cs : List Chunk) → lives (merged cs) ≡ lives cs
lives-merged [] = refl
lives-merged (free n ∷ cs) =
    onto_shifted (λ at cs. lives cs) (λ at n cs. refl) 0 n (merged cs) ∙ lives-merged cs
lives-merged (movable bytes lock owner slot ∷ cs) =
    ap (λ ds. movable bytes lock owner slot ∷ ds) (lives-merged cs)
lives-merged (fixed bytes owner ∷ cs) = ap (λ ds. fixed bytes owner ∷ ds) (lives-merged cs)

staying-merged : (at : ℕ) (cs : List Chunk) → staying at (merged cs) ≡ staying at cs
staying-merged at [] = refl
staying-merged at (free n ∷ cs) =
    onto_shifted staying (λ at n cs. refl) at n (merged cs) ∙ staying-merged (at + n) cs
staying-merged at (movable bytes zero owner slot ∷ cs) =
    staying-merged (at + need (length bytes)) cs
staying-merged at (movable bytes (suc count) owner slot ∷ cs) =
    ap (λ offsets. at ∷ offsets) (staying-merged (at + need (length bytes)) cs)
staying-merged at (fixed bytes owner ∷ cs) =
    ap (λ offsets. at ∷ offsets) (staying-merged (at + need (length bytes)) cs)

pub slid_merged : (cs ds : List Chunk) → Slid cs ds → Slid cs (merged ds)
slid_merged cs ds s = record {
  same = lives-merged ds ∙ s.same;
  stay = staying-merged 0 ds ∙ s.stay;
  sizes = total-merged ds ∙ s.sizes;
}

-- ---- among others

pub lives-append : (xs ys : List Chunk) → lives (xs ++ ys) ≡ lives xs ++ lives ys
lives-append [] ys = refl
lives-append (free size ∷ xs) ys = lives-append xs ys
lives-append (movable bytes lock owner slot ∷ xs) ys =
    ap (λ cs. movable bytes lock owner slot ∷ cs) (lives-append xs ys)
lives-append (fixed bytes owner ∷ xs) ys = ap (λ cs. fixed bytes owner ∷ cs) (lives-append xs ys)

staying-append : (at : ℕ) (xs ys : List Chunk)
    → staying at (xs ++ ys) ≡ staying at xs ++ staying (at + total xs) ys
staying-append at [] ys = ap (λ (k : ℕ). staying k ys) (let e : at ≡ at + 0 = omega arith in e)
staying-append at (free size ∷ xs) ys = staying-append (at + size) xs ys
    ∙ ap (λ k. staying (at + size) xs ++ staying k ys)
    (let e : at + size + total xs ≡ at + (size + total xs) = omega arith in e)
staying-append at (movable bytes zero owner slot ∷ xs) ys =
    staying-append (at + need (length bytes)) xs ys
    ∙ ap (λ k. staying (at + need (length bytes)) xs ++ staying k ys) (let e : at
    + need (length bytes) + total xs ≡ at + (need (length bytes) + total xs) = omega arith in e)
staying-append at (movable bytes (suc count) owner slot ∷ xs) ys =
    ap (λ (offsets : List ℕ). at ∷ offsets)
    (staying-append (at + need (length bytes)) xs ys
    ∙ ap (λ k. staying (at + need (length bytes)) xs ++ staying k ys) (let e : at
    + need (length bytes) + total xs ≡ at + (need (length bytes) + total xs) = omega arith in e))
staying-append at (fixed bytes owner ∷ xs) ys =
    ap (λ (offsets : List ℕ). at ∷ offsets)
    (staying-append (at + need (length bytes)) xs ys
    ∙ ap (λ k. staying (at + need (length bytes)) xs ++ staying k ys) (let e : at
    + need (length bytes) + total xs ≡ at + (need (length bytes) + total xs) = omega arith in e))

-- offsets from as much further on
abbrev raised : ℕ → List ℕ → List ℕ
raised by [] = []
raised by (offset ∷ offsets) = (by + offset) ∷ raised by offsets

staying-raised : (by at : ℕ) (cs : List Chunk) → staying (by + at) cs ≡ raised by (staying at cs)
staying-raised by at [] = refl
staying-raised by at (free size ∷ cs) =
    ap (λ k. staying k cs) (let e : by + at + size ≡ by + (at + size) = omega arith in e)
    ∙ staying-raised by (at + size) cs
staying-raised by at (movable bytes zero owner slot ∷ cs) = ap (λ k. staying k cs)
    (let e : by + at + need (length bytes) ≡ by + (at + need (length bytes)) = omega arith in e)
    ∙ staying-raised by (at + need (length bytes)) cs
staying-raised by at (movable bytes (suc count) owner slot ∷ cs) =
    ap (λ offsets. (by + at) ∷ offsets) (ap (λ k. staying k cs)
    (let e : by + at + need (length bytes) ≡ by + (at + need (length bytes)) = omega arith in e)
    ∙ staying-raised by (at + need (length bytes)) cs)
staying-raised by at (fixed bytes owner ∷ cs) = ap (λ offsets. (by + at) ∷ offsets)
    (ap (λ k. staying k cs) (let e : by + at + need (length bytes) ≡ by + (at
    + need (length bytes)) = omega arith in e) ∙ staying-raised by (at + need (length bytes)) cs)

slid_staying : (at : ℕ) (cs ds : List Chunk) → Slid cs ds → staying at ds ≡ staying at cs
slid_staying at cs ds s =
    let here : at ≡ at + 0 = omega arith in
    ap (λ k. staying k ds) here ∙ staying-raised at 0 ds ∙ ap (raised at) s.stay
    ∙ sym (staying-raised at 0 cs) ∙ ap (λ k. staying k cs) (sym here)

pub slid_middle : (before mid others after : List Chunk) → Slid mid others
    → Slid (before ++ (mid ++ after)) (before ++ (others ++ after))
slid_middle before mid others after s = record {
  same = lives-append before (others ++ after)
      ∙ ap (λ cs. lives before ++ cs) (lives-append others after
      ∙ ap (λ cs. cs ++ lives after) s.same ∙ sym (lives-append mid after))
      ∙ sym (lives-append before (mid ++ after));
  stay = staying-append 0 before (others ++ after)
      ∙ ap (λ (offsets : List ℕ). staying 0 before ++ offsets)
      (staying-append (0 + total before) others after
      ∙ ap (λ offsets. offsets ++ staying (0 + total before + total others) after) (slid_staying
      (0 + total before) mid others s)
      ∙ ap (λ n. staying (0 + total before) mid ++ staying (0 + total before + n) after) s.sizes
      ∙ sym (staying-append (0 + total before) mid after))
      ∙ sym (staying-append 0 before (mid ++ after));
  sizes = total-append before (others ++ after)
      ∙ ap (λ n. total before + n) (total-append others after ∙ ap (λ n. n + total after) s.sizes
      ∙ sym (total-append mid after)) ∙ sym (total-append before (mid ++ after));
}

-- ---- one stretch

pub none_stays-append : (xs ys : List Chunk) → NoneStays (xs ++ ys) ↔ (NoneStays xs × NoneStays ys)
none_stays-append [] ys = (λ n. (tt, n), λ n. n.1)
none_stays-append (free size ∷ xs) ys = none_stays-append xs ys
none_stays-append (movable bytes zero owner slot ∷ xs) ys = none_stays-append xs ys
none_stays-append (movable bytes (suc count) owner slot ∷ xs) ys = (λ n. absurd n, λ n. absurd n.0)
none_stays-append (fixed bytes owner ∷ xs) ys = (λ n. absurd n, λ n. absurd n.0)

-- no offset is that of one that stays
none_staying : (at : ℕ) (cs : List Chunk) → NoneStays cs → staying at cs ≡ []
none_staying at [] n = refl
none_staying at (free size ∷ cs) n = none_staying (at + size) cs n
none_staying at (movable bytes zero owner slot ∷ cs) n = none_staying _ cs n
none_staying at (movable bytes (suc count) owner slot ∷ cs) n = absurd n
none_staying at (fixed bytes owner ∷ cs) n = absurd n

-- whether one stays is seen by the live ones
none_stays_lives : (cs : List Chunk) → NoneStays (lives cs) ↔ NoneStays cs
none_stays_lives [] = (λ n. n, λ n. n)
none_stays_lives (free size ∷ cs) = none_stays_lives cs
none_stays_lives (movable bytes zero owner slot ∷ cs) = none_stays_lives cs
none_stays_lives (movable bytes (suc count) owner slot ∷ cs) = (λ n. n, λ n. n)
none_stays_lives (fixed bytes owner ∷ cs) = (λ n. n, λ n. n)

-- in a stretch chunks slide where the live ones and the sizes are the same
pub stretch_slid : (cs ds : List Chunk) → NoneStays cs → lives ds ≡ lives cs → total ds ≡ total cs
    → Slid cs ds
stretch_slid cs ds n same sizes = record {
  same = same;
  stay = none_staying 0 ds ((none_stays_lives ds).0
      (subst NoneStays (sym same) ((none_stays_lives cs).1 n))) ∙ sym (none_staying 0 cs n);
  sizes = sizes;
}

-- a stretch packed has its room after its live chunks
stretch_behind : (room : ℕ) (cs : List Chunk) → NoneStays cs
    → packed_behind room cs ≡ lives cs ++ gap (room + room_of cs)
stretch_behind room [] n = ap gap (let none : sum_by free_size [] ≡ 0 = refl in
    let e : room ≡ room + sum_by free_size [] = omega arith in e)
stretch_behind room (free size ∷ cs) n =
    let sum = sum_by-cons free_size (free size) cs in
    stretch_behind (room + size) cs n ∙ ap (λ k. lives cs ++ gap k)
    (let e : room + size + room_of cs ≡ room + room_of (free size ∷ cs) = omega arith in e)
stretch_behind room (movable bytes zero owner slot ∷ cs) n =
    let sum = sum_by-cons free_size (movable bytes 0 owner slot) cs in
    ap (λ ds. movable bytes 0 owner slot ∷ ds)
    (stretch_behind room cs n ∙ ap (λ k. lives cs ++ gap k) (let e : room + room_of cs
    ≡ room + room_of (movable bytes 0 owner slot ∷ cs) = omega arith in e))
stretch_behind room (movable bytes (suc count) owner slot ∷ cs) n = absurd n
stretch_behind room (fixed bytes owner ∷ cs) n = absurd n

pub stretch_packed : (cs : List Chunk) → NoneStays cs → packed cs ≡ lives cs ++ gap (room_of cs)
stretch_packed cs n =
    let e : 0 + room_of cs ≡ room_of cs = omega arith in
    stretch_behind 0 cs n ∙ ap (λ k. lives cs ++ gap k) e

pub lives_twice : (cs : List Chunk) → lives (lives cs) ≡ lives cs
lives_twice [] = refl
lives_twice (free size ∷ cs) = lives_twice cs
lives_twice (movable bytes lock owner slot ∷ cs) =
    ap (λ ds. movable bytes lock owner slot ∷ ds) (lives_twice cs)
lives_twice (fixed bytes owner ∷ cs) = ap (λ ds. fixed bytes owner ∷ ds) (lives_twice cs)

-- room that is opened after a chunk
pub opened_slid : (front : List Chunk) (bytes : List ℕ) (owner slot : ℕ) (back : List Chunk)
    → NoneStays (front ++ movable bytes 0 owner slot ∷ back) → Slid
    (front ++ movable bytes 0 owner slot ∷ back) (opened front (movable bytes 0 owner slot) back)
opened_slid front bytes owner slot back n = stretch_slid (front ++ c ∷ back) _ n same sizes where
  c : Chunk
  c = movable bytes 0 owner slot

  room : ℕ
  room = room_of (front ++ back)

  same : lives (opened front c back) ≡ lives (front ++ c ∷ back)
  same =
      lives-append (lives front) (c ∷ (gap room ++ lives back))
      ∙ ap (λ (ds : List Chunk). ds ++ c ∷ lives (gap room ++ lives back)) (lives_twice front)
      ∙ ap (λ ds. lives front ++ c ∷ ds) (lives_gap room (lives back) ∙ lives_twice back)
      ∙ sym (lives-append front (c ∷ back))

  sizes : total (opened front c back) ≡ total (front ++ c ∷ back)
  sizes =
      let one = total-append (lives front) (c ∷ (gap room ++ lives back)) in
      let two = total-append (gap room) (lives back) in
      let sum = gap_total room in
      let three = total-append front (c ∷ back) in
      let four = total-append front back in
      let old = lives_total (front ++ back) in
      let split = ap total (lives-append front back) ∙ total-append (lives front) (lives back) in
      omega (arith, one, two, sum, three, four, old, split)
