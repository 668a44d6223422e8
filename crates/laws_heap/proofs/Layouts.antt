-- Lists of chunks in which free neighbours are made one: what is the same of them.
use Rattle.laws_heap.proofs.Words.{Bool, false, cond, ◌≡◌, ℕ, zero, suc, ◌+◌, ◌<◌, ◌≤◌, List, [], ◌∷◌, ◌++◌, length, Option, Some, None, refl, sym, ap, subst, ◌∙◌, arith, inl, inr, All, count_by, sum_by, filter, ◌==◌, ◌↔◌, if◌then◌else◌, sum_by-cons, Chunk, free, movable, fixed, need, total, free_size, EveryPlaced, AnyPlaced, live_under, is_fixed_name, All-nil, All-cons, All-head, All-tail, AllFree, NoRun, onto_first, runs_between, has_chunk, stretches, rooms_of, free_front, free_behind_in, place_under, free_onto, merged, AllBelow}
use Rattle.std.proofs.Common.{append-nil}
use Rattle.laws_heap.proofs.Tests.{cond-false}
use Rattle.laws_heap.proofs.FixedNames.{fixed_live}
use Rattle.laws_heap.proofs.Placed.{TakesBytes}

-- ---- lists that are put together

pub onto_twice : (m n : ℕ) (cs : List Chunk) → free_onto (m + n) cs ≡ free_onto m (free_onto n cs)
onto_twice m n [] = refl
onto_twice m n (free k ∷ cs) =
    let e : m + n + k ≡ m + (n + k) = omega arith in
    ap (λ x. free x ∷ cs) e
onto_twice m n (movable bytes lock owner slot ∷ cs) = refl
onto_twice m n (fixed bytes owner ∷ cs) = refl

-- what sees of a free chunk only how much further on the others begin sees two in a row as one
pub onto_shifted : {A : Type 0} (f : ℕ → List Chunk → A)
    → ((at n : ℕ) (cs : List Chunk) → f at (free n ∷ cs) ≡ f (at + n) cs)
    → (at n : ℕ) (cs : List Chunk) → f at (free_onto n cs) ≡ f (at + n) cs
onto_shifted f shifts at n [] = shifts at n []
onto_shifted f shifts at n (free m ∷ cs) =
    let e : at + (n + m) ≡ at + n + m = omega arith in
    shifts at (n + m) cs ∙ ap (λ k. f k cs) e ∙ sym (shifts (at + n) m cs)
onto_shifted f shifts at n (movable bytes lock owner slot ∷ cs) =
    shifts at n (movable bytes lock owner slot ∷ cs)
onto_shifted f shifts at n (fixed bytes owner ∷ cs) = shifts at n (fixed bytes owner ∷ cs)

-- and so does what adds its size
onto_sum : (sum : List Chunk → ℕ) → ((n : ℕ) (cs : List Chunk) → sum (free n ∷ cs) ≡ n + sum cs)
    → (n : ℕ) (cs : List Chunk) → sum (free_onto n cs) ≡ n + sum cs
onto_sum sum each n cs =
    let e =
    onto_shifted (λ at cs. at + sum cs) (λ at n cs. let e = each n cs in omega arith) 0 n cs in
    omega arith

onto_append : (n : ℕ) (ds ys : List Chunk)
    → merged (free_onto n ds ++ ys) ≡ free_onto n (merged (ds ++ ys))
onto_append n [] ys = refl
onto_append n (free m ∷ ds) ys = onto_twice n m (merged (ds ++ ys))
onto_append n (movable bytes lock owner slot ∷ ds) ys = refl
onto_append n (fixed bytes owner ∷ ds) ys = refl

-- the first of two lists may be merged before
pub merged-front : (xs ys : List Chunk) → merged (merged xs ++ ys) ≡ merged (xs ++ ys)
merged-front [] ys = refl
merged-front (free n ∷ xs) ys = onto_append n (merged xs) ys ∙ ap (free_onto n) (merged-front xs ys)
merged-front (movable bytes lock owner slot ∷ xs) ys =
    ap (λ cs. movable bytes lock owner slot ∷ cs) (merged-front xs ys)
merged-front (fixed bytes owner ∷ xs) ys = ap (λ cs. fixed bytes owner ∷ cs) (merged-front xs ys)

-- lists are replaced by others of the same layout
pub merged-left : (xs ys zs : List Chunk) → merged xs ≡ merged ys
    → merged (xs ++ zs) ≡ merged (ys ++ zs)
merged-left xs ys zs e =
    sym (merged-front xs zs) ∙ ap (λ cs. merged (cs ++ zs)) e ∙ merged-front ys zs

pub merged-right : (xs ys zs : List Chunk) → merged ys ≡ merged zs
    → merged (xs ++ ys) ≡ merged (xs ++ zs)
merged-right [] ys zs e = e
merged-right (free n ∷ xs) ys zs e = ap (free_onto n) (merged-right xs ys zs e)
merged-right (movable bytes lock owner slot ∷ xs) ys zs e =
    ap (λ cs. movable bytes lock owner slot ∷ cs) (merged-right xs ys zs e)
merged-right (fixed bytes owner ∷ xs) ys zs e =
    ap (λ cs. fixed bytes owner ∷ cs) (merged-right xs ys zs e)

pub merged-middle : (before mid others after : List Chunk) → merged mid ≡ merged others
    → merged (before ++ (mid ++ after)) ≡ merged (before ++ (others ++ after))
merged-middle before mid others after e = merged-right before _ _ (merged-left mid others after e)

-- a run of free chunks is as good as another of its size
run_merged : (n : ℕ) (run : List Chunk) → AllFree run
    → merged (free n ∷ run) ≡ free (n + total run) ∷ []
run_merged n [] f = ap (λ (k : ℕ). free k ∷ []) (let e : n ≡ n + 0 = omega arith in e)
run_merged n (free m ∷ run) f = ap (free_onto n) (run_merged m run f)
run_merged n (movable bytes lock owner slot ∷ run) f = absurd f
run_merged n (fixed bytes owner ∷ run) f = absurd f

pub runs-merged : (xs ys : List Chunk) → AllFree xs → AllFree ys → 0 < total xs
    → total xs ≡ total ys → merged xs ≡ merged ys
runs-merged [] ys f g some e = absurd (omega arith)
runs-merged (movable bytes lock owner slot ∷ xs) ys f g some e = absurd f
runs-merged (fixed bytes owner ∷ xs) ys f g some e = absurd f
runs-merged (free n ∷ xs) [] f g some e = absurd (omega arith)
runs-merged (free n ∷ xs) (movable bytes lock owner slot ∷ ys) f g some e = absurd g
runs-merged (free n ∷ xs) (fixed bytes owner ∷ ys) f g some e = absurd g
runs-merged (free n ∷ xs) (free m ∷ ys) f g some e =
    run_merged n xs f ∙ ap (λ k. free k ∷ []) e ∙ sym (run_merged m ys g)

-- ---- a live chunk, and a run of free ones, in a layout

abbrev pub IsNotFree : Chunk → Type 0
IsNotFree (free size) = ⊥
IsNotFree (movable bytes lock owner slot) = Unit {0}
IsNotFree (fixed bytes owner) = Unit {0}

onto_live_behind : (n : ℕ) (xs : List Chunk) (c : Chunk) (ys : List Chunk) → IsNotFree c
    → free_onto n (xs ++ c ∷ ys) ≡ free_onto n xs ++ c ∷ ys
onto_live_behind n [] (free size) ys live = absurd live
onto_live_behind n [] (movable bytes lock owner slot) ys live = refl
onto_live_behind n [] (fixed bytes owner) ys live = refl
onto_live_behind n (free m ∷ xs) c ys live = refl
onto_live_behind n (movable bytes lock owner slot ∷ xs) c ys live = refl
onto_live_behind n (fixed bytes owner ∷ xs) c ys live = refl

-- a live chunk keeps what is before it and what is after it apart
pub merged-live : (xs : List Chunk) (c : Chunk) (ys : List Chunk) → IsNotFree c
    → merged (xs ++ c ∷ ys) ≡ merged xs ++ c ∷ merged ys
merged-live [] (free size) ys live = absurd live
merged-live [] (movable bytes lock owner slot) ys live = refl
merged-live [] (fixed bytes owner) ys live = refl
merged-live (free n ∷ xs) c ys live =
    ap (free_onto n) (merged-live xs c ys live) ∙ onto_live_behind n (merged xs) c (merged ys) live
merged-live (movable bytes lock owner slot ∷ xs) c ys live =
    ap (λ cs. movable bytes lock owner slot ∷ cs) (merged-live xs c ys live)
merged-live (fixed bytes owner ∷ xs) c ys live =
    ap (λ cs. fixed bytes owner ∷ cs) (merged-live xs c ys live)

-- merged once is merged
pub merged-twice : (xs : List Chunk) → merged (merged xs) ≡ merged xs
merged-twice xs =
    ap merged (sym (append-nil (merged xs))) ∙ merged-front xs [] ∙ ap merged (append-nil xs)

pub merged-back : (xs ys : List Chunk) → merged (xs ++ merged ys) ≡ merged (xs ++ ys)
merged-back xs ys = merged-right xs (merged ys) ys (merged-twice ys)

takes_onto : (at n : ℕ) (cs : List Chunk) → 8 ≤ n → EveryPlaced TakesBytes (at + n) cs
    → EveryPlaced TakesBytes at (free_onto n cs)
takes_onto at n [] least h = (least, tt)
takes_onto at n (free m ∷ cs) least h =
    let e : at + n + m ≡ at + (n + m) = omega arith in
    let more : 8 ≤ n + m = omega arith in
    (more, subst (λ (k : ℕ). EveryPlaced TakesBytes k cs) e h.1)
takes_onto at n (movable bytes lock owner slot ∷ cs) least h = (least, h)
takes_onto at n (fixed bytes owner ∷ cs) least h = (least, h)

pub takes-merged : (at : ℕ) (cs : List Chunk) → EveryPlaced TakesBytes at cs
    → EveryPlaced TakesBytes at (merged cs)
takes-merged at [] h = tt
takes-merged at (free n ∷ cs) h = takes_onto at n (merged cs) h.0 (takes-merged (at + n) cs h.1)
takes-merged at (movable bytes lock owner slot ∷ cs) h = (h.0, takes-merged _ cs h.1)
takes-merged at (fixed bytes owner ∷ cs) h = (h.0, takes-merged (at + need (length bytes)) cs h.1)

-- ---- what is a function of the layout

pub live_under-merged : (at : ℕ) (cs : List Chunk) (name : ℕ)
    → live_under at (merged cs) name ≡ live_under at cs name
live_under-merged at [] name = refl
live_under-merged at (free n ∷ cs) name =
    onto_shifted (λ at cs. live_under at cs name) (λ at n cs. refl) at n (merged cs)
    ∙ live_under-merged (at + n) cs name
live_under-merged at (movable bytes lock owner slot ∷ cs) name = ap
    (λ o. if slot == name then Some (record { bytes = bytes; lock = lock; owner = owner }) else o)
    (live_under-merged (at + need (length bytes)) cs name)
live_under-merged at (fixed bytes owner ∷ cs) name =
    ap (λ o. if is_fixed_name at owner name then Some (fixed_live bytes owner) else o)
    (live_under-merged (at + need (length bytes)) cs name)

pub place_under-merged : (at : ℕ) (cs : List Chunk) (name : ℕ)
    → place_under at (merged cs) name ≡ place_under at cs name
place_under-merged at [] name = refl
place_under-merged at (free n ∷ cs) name =
    onto_shifted (λ at cs. place_under at cs name) (λ at n cs. refl) at n (merged cs)
    ∙ place_under-merged (at + n) cs name
place_under-merged at (movable bytes lock owner slot ∷ cs) name = ap (λ o. if slot
    == name then Some (at + 8) else o) (place_under-merged (at + need (length bytes)) cs name)
place_under-merged at (fixed bytes owner ∷ cs) name =
    ap (λ o. if is_fixed_name at owner name then Some (at + 8) else o)
    (place_under-merged (at + need (length bytes)) cs name)

pub total-merged : (cs : List Chunk) → total (merged cs) ≡ total cs
total-merged [] = refl
total-merged (free n ∷ cs) = onto_sum total (λ n cs. refl) n _ ∙ ap (λ k. n + k) (total-merged cs)
total-merged (movable bytes lock owner slot ∷ cs) =
    ap (λ k. need (length bytes) + k) (total-merged cs)
total-merged (fixed bytes owner ∷ cs) = ap (λ (k : ℕ). need (length bytes) + k) (total-merged cs)

pub free_total-merged : (cs : List Chunk) → sum_by free_size (merged cs) ≡ sum_by free_size cs
free_total-merged [] = refl
free_total-merged (free n ∷ cs) =
    onto_sum (sum_by free_size) (λ n cs. sum_by-cons free_size (free n) cs) n (merged cs)
    ∙ ap (λ k. n + k) (free_total-merged cs) ∙ sym (sum_by-cons free_size (free n) cs)
free_total-merged (movable bytes lock owner slot ∷ cs) =
    let a = sum_by-cons free_size (movable bytes lock owner slot) (merged cs) in
    let b = sum_by-cons free_size (movable bytes lock owner slot) cs in
    let ih = free_total-merged cs in
    omega arith
free_total-merged (fixed bytes owner ∷ cs) =
    let a = sum_by-cons free_size (fixed bytes owner) (merged cs) in
    let b = sum_by-cons free_size (fixed bytes owner) cs in let ih = free_total-merged cs in
    omega arith

-- how many pass a test that no free chunk passes
free_fails : (test : Chunk → Bool) → ((n : ℕ) → test (free n) ≡ false) → (n : ℕ) (cs : List Chunk)
    → count_by test (free n ∷ cs) ≡ count_by test cs
free_fails test none n cs =
    let a = sum_by-cons (λ (c : Chunk). cond (test c) 1 0) (free n) cs in
    let zero_there : cond {A = ℕ} (test (free n)) 1 0 ≡ 0 = cond-false _ 1 0 (none n) in
    omega arith

count_front : (test : Chunk → Bool) (c : Chunk) (xs ys : List Chunk)
    → count_by test xs ≡ count_by test ys → count_by test (c ∷ xs) ≡ count_by test (c ∷ ys)
count_front test c xs ys e =
    let a = sum_by-cons (λ d. cond (test d) 1 0) c xs in
    let b = sum_by-cons (λ d. cond (test d) 1 0) c ys in
    omega arith

pub count-merged : (test : Chunk → Bool) → ((n : ℕ) → test (free n) ≡ false) → (cs : List Chunk)
    → count_by test (merged cs) ≡ count_by test cs
count-merged test none [] = refl
count-merged test none (free n ∷ cs) =
    onto_shifted (λ at cs. count_by test cs) (λ at n cs. free_fails test none n cs) 0 n (merged cs)
    ∙ count-merged test none cs ∙ sym (free_fails test none n cs)
count-merged test none (movable bytes lock owner slot ∷ cs) =
    count_front test (movable bytes lock owner slot) (merged cs) cs (count-merged test none cs)
count-merged test none (fixed bytes owner ∷ cs) =
    count_front test (fixed bytes owner) (merged cs) cs (count-merged test none cs)

-- what holds of some chunk, but of no free one, wherever it stands
onto_any : (P : ℕ → Chunk → Type 0) → ((at size : ℕ) → P at (free size) → ⊥)
    → (at n : ℕ) (cs : List Chunk) → AnyPlaced P at (free_onto n cs) ↔ AnyPlaced P (at + n) cs
onto_any P none at n [] =
    (λ h. elim h [ inl here ↦ none at n here | inr later ↦ later ], λ h. absurd h)
onto_any P none at n (free m ∷ cs) =
    let e : at + (n + m) ≡ at + n + m = omega arith in (
      λ h. elim h [ inl here ↦ absurd (none at (n + m) here) | inr later ↦ inr (rw e at later) ],
      λ h.
          elim h [ inl here ↦ absurd (none (at + n) m here) | inr later ↦ inr (rw (← e) at later) ],
    )
onto_any P none at n (movable bytes lock owner slot ∷ cs) =
    (λ h. elim h [ inl here ↦ absurd (none at n here) | inr later ↦ later ], λ h. inr h)
onto_any P none at n (fixed bytes owner ∷ cs) =
    (λ h. elim h [ inl here ↦ absurd (none at n here) | inr later ↦ later ], λ h. inr h)

pub any-merged : (P : ℕ → Chunk → Type 0) → ((at size : ℕ) → P at (free size) → ⊥)
    → (at : ℕ) (cs : List Chunk) → AnyPlaced P at (merged cs) ↔ AnyPlaced P at cs
any-merged P none at [] = (λ h. h, λ h. h)
any-merged P none at (free n ∷ cs) =
    let one = onto_any P none at n (merged cs) in
    let ih = any-merged P none (at + n) cs in (
      λ h. inr (ih.0 (one.0 h)),
      λ h. one.1 (ih.1 (elim h [ inl here ↦ absurd (none at n here) | inr later ↦ later ])),
    )
any-merged P none at (movable bytes lock owner slot ∷ cs) =
    let ih = any-merged P none (at + need (length bytes)) cs in (
      λ h. elim h [ inl here ↦ inl here | inr later ↦ inr (ih.0 later) ],
      λ h. elim h [ inl here ↦ inl here | inr later ↦ inr (ih.1 later) ],
    )
any-merged P none at (fixed bytes owner ∷ cs) =
    let ih = any-merged P none (at + need (length bytes)) cs in (
      λ h. elim h [ inl here ↦ inl here | inr later ↦ inr (ih.0 later) ],
      λ h. elim h [ inl here ↦ inl here | inr later ↦ inr (ih.1 later) ],
    )

-- and so it is the same of two lists of one layout
pub any-layout : (P : ℕ → Chunk → Type 0) → ((at size : ℕ) → P at (free size) → ⊥)
    → (at : ℕ) (cs ds : List Chunk) → merged cs ≡ merged ds → AnyPlaced P at cs → AnyPlaced P at ds
any-layout P none at cs ds e h =
    (any-merged P none at ds).0 (rw e at ((any-merged P none at cs).1 h))

-- ---- rooms

-- of runs of chunks, which may be empty, the rooms
abbrev pub marks : List (List Chunk) → List (Option ℕ)
marks [] = []
marks ([] ∷ runs) = None ∷ marks runs
marks ((c ∷ run) ∷ runs) = Some (sum_by free_size (c ∷ run)) ∷ marks runs

abbrev pub marked : List (Option ℕ) → List ℕ
marked [] = []
marked (None ∷ others) = marked others
marked (Some room ∷ others) = room ∷ marked others

abbrev pub mark_onto : ℕ → List (Option ℕ) → List (Option ℕ)
mark_onto n [] = Some n ∷ []
mark_onto n (None ∷ others) = Some n ∷ others
mark_onto n (Some room ∷ others) = Some (n + room) ∷ others

pub some_front : (others : List (Option ℕ)) (m n : ℕ) → m ≡ n → Some m ∷ others ≡ Some n ∷ others
some_front others m n e = cc

pub marked_rooms : (runs : List (List Chunk))
    → rooms_of (filter has_chunk runs) ≡ marked (marks runs)
marked_rooms [] = refl
marked_rooms ([] ∷ runs) = marked_rooms runs
marked_rooms ((c ∷ run) ∷ runs) = ap (λ rs. sum_by free_size (c ∷ run) ∷ rs) (marked_rooms runs)

pub marks_onto : (c : Chunk) (runs : List (List Chunk))
    → marks (onto_first c runs) ≡ mark_onto (free_size c) (marks runs)
marks_onto c [] = some_front [] _ _
    (let e = sum_by-cons free_size c [] in let none : sum_by free_size [] ≡ 0 = refl in omega arith)
marks_onto c ([] ∷ runs) = some_front (marks runs) _ _
    (let e = sum_by-cons free_size c [] in let none : sum_by free_size [] ≡ 0 = refl in omega arith)
marks_onto c ((d ∷ run) ∷ runs) = some_front (marks runs) _ _ (sum_by-cons free_size c (d ∷ run))

pub mark_twice : (m n : ℕ) (others : List (Option ℕ))
    → mark_onto (m + n) others ≡ mark_onto m (mark_onto n others)
mark_twice m n [] = refl
mark_twice m n (None ∷ others) = refl
mark_twice m n (Some room ∷ others) =
    let e : m + n + room ≡ m + (n + room) = omega arith in
    some_front others _ _ e

onto_marks : (n : ℕ) (cs : List Chunk)
    → marks (runs_between (free_onto n cs)) ≡ mark_onto n (marks (runs_between cs))
onto_marks n [] = marks_onto (free n) ([] ∷ [])
onto_marks n (free m ∷ cs) = marks_onto (free (n + m)) (runs_between cs)
    ∙ mark_twice n m (marks (runs_between cs))
    ∙ ap (mark_onto n) (sym (marks_onto (free m) (runs_between cs)))
onto_marks n (movable bytes lock owner slot ∷ cs) = marks_onto (free n) _
onto_marks n (fixed bytes owner ∷ cs) = marks_onto (free n) (runs_between (fixed bytes owner ∷ cs))

marks-merged : (cs : List Chunk) → marks (runs_between (merged cs)) ≡ marks (runs_between cs)
marks-merged [] = refl
marks-merged (free n ∷ cs) = onto_marks n (merged cs) ∙ ap (mark_onto n) (marks-merged cs)
    ∙ sym (marks_onto (free n) (runs_between cs))
marks-merged (movable bytes zero owner slot ∷ cs) =
    marks_onto (movable bytes 0 owner slot) (runs_between (merged cs))
    ∙ ap (mark_onto 0) (marks-merged cs)
    ∙ sym (marks_onto (movable bytes 0 owner slot) (runs_between cs))
marks-merged (movable bytes (suc count) owner slot ∷ cs) =
    ap (λ (ms : List (Option ℕ)). None ∷ ms) (marks-merged cs)
marks-merged (fixed bytes owner ∷ cs) = ap (λ (ms : List (Option ℕ)). None ∷ ms) (marks-merged cs)

pub rooms-merged : (cs : List Chunk) → rooms_of (stretches (merged cs)) ≡ rooms_of (stretches cs)
rooms-merged cs = marked_rooms (runs_between (merged cs)) ∙ ap marked (marks-merged cs)
    ∙ sym (marked_rooms (runs_between cs))

-- ---- what is free after a chunk

pub free_front-merged : (cs : List Chunk) → free_front (merged cs) ≡ free_front cs
free_front-merged [] = refl
free_front-merged (free n ∷ cs) =
    onto_sum free_front (λ n cs. refl) n (merged cs) ∙ ap (λ k. n + k) (free_front-merged cs)
free_front-merged (movable bytes lock owner slot ∷ cs) = refl
free_front-merged (fixed bytes owner ∷ cs) = refl

pub free_behind-merged : (cs : List Chunk) (name : ℕ)
    → free_behind_in (merged cs) name ≡ free_behind_in cs name
free_behind-merged [] name = refl
free_behind-merged (free n ∷ cs) name =
    onto_shifted (λ at cs. free_behind_in cs name) (λ at n cs. refl) 0 n (merged cs)
    ∙ free_behind-merged cs name
free_behind-merged (movable bytes lock owner slot ∷ cs) name =
    ap (λ k. if slot == name then k else free_behind_in (merged cs) name) (free_front-merged cs)
    ∙ ap (λ k. if slot == name then free_front cs else k) (free_behind-merged cs name)
free_behind-merged (fixed bytes owner ∷ cs) name = free_behind-merged cs name

-- ---- the longest run

-- the size of the chunk with which a list begins, if it is free
abbrev first_free : List Chunk → ℕ
first_free [] = 0
first_free (free size ∷ chunks) = size
first_free (movable bytes lock owner slot ∷ chunks) = 0
first_free (fixed bytes owner ∷ chunks) = 0

onto_first_free : (n : ℕ) (cs : List Chunk) → first_free (free_onto n cs) ≡ n + first_free cs
onto_first_free n [] = omega arith
onto_first_free n (free m ∷ cs) = refl
onto_first_free n (movable bytes lock owner slot ∷ cs) = omega arith
onto_first_free n (fixed bytes owner ∷ cs) = omega arith

-- in a layout a run of free chunks is one
front_is_first : (cs : List Chunk) → first_free (merged cs) ≡ free_front cs
front_is_first [] = refl
front_is_first (free n ∷ cs) = onto_first_free n (merged cs) ∙ ap (λ k. n + k) (front_is_first cs)
front_is_first (movable bytes lock owner slot ∷ cs) = refl
front_is_first (fixed bytes owner ∷ cs) = refl

first_below : (size : ℕ) (cs : List Chunk) → 0 < size → AllBelow size cs → first_free cs < size
first_below size [] some b = some
first_below size (free n ∷ cs) some b = All-head (λ (c : Chunk). free_size c < size) (free n) cs b
first_below size (movable bytes lock owner slot ∷ cs) some b = some
first_below size (fixed bytes owner ∷ cs) some b = some

pub below_onto : (size n : ℕ) (cs : List Chunk) → n + first_free cs < size → AllBelow size cs
    → AllBelow size (free_onto n cs)
below_onto size n [] low b =
    All-cons (λ c. free_size c < size) (free n) [] (let e : n < size = omega arith in e) b
below_onto size n (free m ∷ cs) low b = All-cons (λ c. free_size c < size) (free (n + m)) cs low
    (All-tail (λ c. free_size c < size) (free m) cs b)
below_onto size n (movable bytes lock owner slot ∷ cs) low b = All-cons (λ c. free_size c < size)
    (free n) (movable bytes lock owner slot ∷ cs) (let e : n < size = omega arith in e) b
below_onto size n (fixed bytes owner ∷ cs) low b = All-cons (λ c. free_size c < size) (free n)
    (fixed bytes owner ∷ cs) (let e : n < size = omega arith in e) b

pub onto_below : (size n : ℕ) (cs : List Chunk) → AllBelow size (free_onto n cs) → AllBelow size cs
onto_below size n [] b = All-nil (λ (c : Chunk). free_size c < size)
onto_below size n (free m ∷ cs) b =
    let low : n + m < size = All-head (λ (c : Chunk). free_size c < size) (free (n + m)) cs b in
    let e : m < size = omega arith in
    All-cons (λ c. free_size c < size) (free m) cs e
    (All-tail (λ c. free_size c < size) (free (n + m)) cs b)
onto_below size n (movable bytes lock owner slot ∷ cs) b =
    All-tail (λ c. free_size c < size) (free n) (movable bytes lock owner slot ∷ cs) b
onto_below size n (fixed bytes owner ∷ cs) b =
    All-tail (λ c. free_size c < size) (free n) (fixed bytes owner ∷ cs) b

-- the free chunks with which a list begins
record FrontRun (cs : List Chunk) : Type 0 where
  run : List Chunk
  after : List Chunk
  parts : cs ≡ run ++ after
  all_free : AllFree run
  sums : sum_by free_size run ≡ free_front cs

front_run : (cs : List Chunk) → FrontRun cs
front_run [] = record { run = []; after = []; parts = refl; all_free = tt; sums = refl }
front_run (free n ∷ cs) =
    let r = front_run cs in
    record {
      run = free n ∷ r.run;
      after = r.after;
      parts = ap (λ ds. free n ∷ ds) r.parts;
      all_free = r.all_free;
      sums = sum_by-cons free_size (free n) r.run ∙ ap (λ k. n + k) r.sums;
    }
front_run (movable bytes lock owner slot ∷ cs) = record {
  run = [];
  after = movable bytes lock owner slot ∷ cs;
  parts = refl;
  all_free = tt;
  sums = refl;
}
front_run (fixed bytes owner ∷ cs) =
    record { run = []; after = fixed bytes owner ∷ cs; parts = refl; all_free = tt; sums = refl }

run_front : (run after : List Chunk) → AllFree run
    → sum_by free_size run ≤ free_front (run ++ after)
run_front [] after f = let none : sum_by free_size [] ≡ 0 = refl in omega arith
run_front (free n ∷ run) after f =
    let s = sum_by-cons free_size (free n) run in
    let ih = run_front run after f in
    omega arith
run_front (movable bytes lock owner slot ∷ run) after f = absurd f
run_front (fixed bytes owner ∷ run) after f = absurd f

pub no_run_tail : (c : Chunk) (cs : List Chunk) (size : ℕ) → NoRun (c ∷ cs) size → NoRun cs size
no_run_tail c cs size h before run after e f = h (c ∷ before) run after (ap (λ ds. c ∷ ds) e) f

-- no run has the size if no free chunk of the layout has
pub no_run-below : (cs : List Chunk) (size : ℕ) → NoRun cs size → AllBelow size (merged cs)
no_run-below [] size h = All-nil (λ (c : Chunk). free_size c < size)
no_run-below (free n ∷ cs) size h =
    let r = front_run (free n ∷ cs) in
    let low = h [] r.run r.after r.parts r.all_free in
    let sums = r.sums in
    let first = front_is_first cs in
    below_onto size n _ (omega arith) (no_run-below cs size (no_run_tail (free n) cs size h))
no_run-below (movable bytes lock owner slot ∷ cs) size h =
    let some : sum_by free_size [] < size = h [] [] (movable bytes lock owner slot ∷ cs) refl tt in
    All-cons (λ c. free_size c < size) (movable bytes lock owner slot) (merged cs) some
    (no_run-below cs size (no_run_tail (movable bytes lock owner slot) cs size h))
no_run-below (fixed bytes owner ∷ cs) size h =
    let some : sum_by free_size [] < size = h [] [] (fixed bytes owner ∷ cs) refl tt in
    All-cons (λ c. free_size c < size) (fixed bytes owner) (merged cs) some
    (no_run-below cs size (no_run_tail (fixed bytes owner) cs size h))

below_behind : (size : ℕ) (before cs : List Chunk) → AllBelow size (merged (before ++ cs))
    → AllBelow size (merged cs)
below_behind size [] cs b = b
below_behind size (free n ∷ before) cs b = below_behind size before cs (onto_below size n _ b)
below_behind size (movable bytes lock owner slot ∷ before) cs b = below_behind size before cs
    (All-tail (λ c. free_size c < size) (movable bytes lock owner slot) (merged (before ++ cs)) b)
below_behind size (fixed bytes owner ∷ before) cs b = below_behind size before cs
    (All-tail (λ c. free_size c < size) (fixed bytes owner) (merged (before ++ cs)) b)

pub below-no_run : (cs : List Chunk) (size : ℕ) → 0 < size → AllBelow size (merged cs)
    → NoRun cs size
below-no_run cs size some b before run after e f =
    let here = below_behind size before (run ++ after) (rw e at b) in
    let low = first_below size (merged (run ++ after)) some here in
    let first = front_is_first (run ++ after) in
    let within = run_front run after f in
    omega arith

-- so it is the same of two lists of one layout
pub no_run-layout : (cs ds : List Chunk) (size : ℕ) → merged cs ≡ merged ds → NoRun cs size
    → NoRun ds size
no_run-layout cs ds size e h =
    let some : sum_by free_size [] < size = h [] [] cs refl tt in
    below-no_run ds size some (rw e at (no_run-below cs size h))

-- if each stretch has less room than the size, no run has the size
onto_short : (n size : ℕ) (ms : List (Option ℕ)) → All (λ k. k < size) (marked (mark_onto n ms))
    → (n < size) × All (λ k. k < size) (marked ms)
onto_short n size [] h = (All-head (λ (k : ℕ). k < size) n [] h, All-nil (λ (k : ℕ). k < size))
onto_short n size (None ∷ ms) h =
    (All-head (λ k. k < size) n (marked ms) h, All-tail (λ k. k < size) n (marked ms) h)
onto_short n size (Some room ∷ ms) h =
    let all : n + room < size = All-head (λ (k : ℕ). k < size) (n + room) (marked ms) h in (
      omega arith,
      All-cons (λ k. k < size) room (marked ms) (omega arith)
          (All-tail (λ k. k < size) (n + room) (marked ms) h),
    )

short_below : (cs : List Chunk) (size : ℕ) → 0 < size
    → All (λ k. k < size) (marked (marks (runs_between cs))) → AllBelow size cs
short_below [] size some h = All-nil (λ (c : Chunk). free_size c < size)
short_below (free n ∷ cs) size some h =
    let t = onto_short n size _ (rw (marks_onto (free n) (runs_between cs)) at h) in
    All-cons (λ (c : Chunk). free_size c < size) (free n) cs t.0 (short_below cs size some t.1)
short_below (movable bytes zero owner slot ∷ cs) size some h =
    let t = onto_short 0 size _ (rw (marks_onto _ (runs_between cs)) at h) in
    All-cons (λ c. free_size c < size) (movable bytes 0 owner slot) cs some
    (short_below cs size some t.1)
short_below (movable bytes (suc count) owner slot ∷ cs) size some h = All-cons (λ c. free_size c
    < size) (movable bytes (suc count) owner slot) cs some (short_below cs size some h)
short_below (fixed bytes owner ∷ cs) size some h =
    All-cons (λ c. free_size c < size) (fixed bytes owner) cs some (short_below cs size some h)

pub short_no_run : (cs : List Chunk) (size : ℕ) → 0 < size
    → All (λ room. room < size) (rooms_of (stretches cs)) → NoRun cs size
short_no_run cs size some h = below-no_run cs size some (short_below (merged cs) size some
    (rw (sym (rooms-merged cs) ∙ marked_rooms (runs_between (merged cs))) at h))
