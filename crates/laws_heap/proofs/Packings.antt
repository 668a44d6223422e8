-- Packing: what it leaves is packed, the chunks have slid, and lists whose chunks have slid are
-- packed alike.
use Rattle.laws_heap.proofs.Words.{false, ◌≡◌, ℕ, zero, suc, ◌+◌, ◌-◌, ◌≤◌, List, [], ◌∷◌, ◌++◌, length, refl, sym, ap, subst, ◌∙◌, arith, All, ◌↔◌, IsTrue, filter, All-nil, All-cons, All-head, All-tail, Chunk, free, movable, fixed, need, total, EveryPlaced, onto_first, runs_between, has_chunk, merged, gap, FreeIsLast, Packed, lives, staying, Slid, packed_behind, packed, BeginsStaying}
use Rattle.laws_heap.proofs.Chunks.{total-append}
use Rattle.laws_heap.proofs.Placed.{TakesBytes}
use Rattle.laws_heap.proofs.Exchanges.{gap_total}

-- ---- what packing leaves is its own layout

merged-packed_behind : (room : ℕ) (cs : List Chunk)
    → merged (packed_behind room cs) ≡ packed_behind room cs
merged-packed_behind zero [] = refl
merged-packed_behind (suc n) [] = refl
merged-packed_behind room (free n ∷ cs) = merged-packed_behind (room + n) cs
merged-packed_behind room (movable bytes zero owner slot ∷ cs) =
    ap (λ ds. movable bytes 0 owner slot ∷ ds) (merged-packed_behind room cs)
merged-packed_behind zero (movable bytes (suc count) owner slot ∷ cs) =
    ap (λ ds. movable bytes (suc count) owner slot ∷ ds) (merged-packed_behind 0 cs)
merged-packed_behind (suc n) (movable bytes (suc count) owner slot ∷ cs) =
    ap (λ ds. free (suc n) ∷ movable bytes (suc count) owner slot ∷ ds) (merged-packed_behind 0 cs)
merged-packed_behind zero (fixed bytes owner ∷ cs) =
    ap (λ ds. fixed bytes owner ∷ ds) (merged-packed_behind 0 cs)
merged-packed_behind (suc n) (fixed bytes owner ∷ cs) =
    ap (λ ds. free (suc n) ∷ fixed bytes owner ∷ ds) (merged-packed_behind 0 cs)

pub merged-packed : (cs : List Chunk) → merged (packed cs) ≡ packed cs
merged-packed cs = merged-packed_behind 0 cs

-- ---- packed, chunk by chunk

-- after each free chunk one that stays is next, or none
abbrev StayNext : List Chunk → Type 0
StayNext [] = Unit {0}
StayNext (free size ∷ chunks) = BeginsStaying chunks × StayNext chunks
StayNext (movable bytes lock owner slot ∷ chunks) = StayNext chunks
StayNext (fixed bytes owner ∷ chunks) = StayNext chunks

abbrev EveryRun : List (List Chunk) → Type 0
EveryRun [] = Unit {0}
EveryRun (run ∷ runs) = FreeIsLast run × EveryRun runs

packed_runs : (runs : List (List Chunk)) → All FreeIsLast (filter has_chunk runs) ↔ EveryRun runs
packed_runs [] = (λ h. tt, λ h. All-nil FreeIsLast)
packed_runs ([] ∷ runs) = let ih = packed_runs runs in (λ h. (tt, ih.0 h), λ h. ih.1 h.1)
packed_runs ((c ∷ run) ∷ runs) =
    let ih = packed_runs runs in (
      λ h. (
        All-head FreeIsLast (c ∷ run) (filter has_chunk runs) h,
        ih.0 (All-tail FreeIsLast (c ∷ run) (filter has_chunk runs) h),
      ),
      λ h. All-cons FreeIsLast (c ∷ run) (filter has_chunk runs) h.0 (ih.1 h.1),
    )

abbrev first_run : List (List Chunk) → List Chunk
first_run [] = []
first_run (run ∷ runs) = run

first_onto : (c : Chunk) (runs : List (List Chunk))
    → first_run (onto_first c runs) ≡ c ∷ first_run runs
first_onto c [] = refl
first_onto c (run ∷ runs) = refl

pub no_true : IsTrue false → ⊥
no_true h = cc

-- the first run is empty where the first chunk stays
no_first_run : (cs : List Chunk) → BeginsStaying cs ↔ (first_run (runs_between cs) ≡ [])
no_first_run [] = (λ h. refl, λ h. tt)
no_first_run (free size ∷ cs) = (
  λ h. absurd (no_true h),
  λ h. let e = sym (first_onto (free size) (runs_between cs)) ∙ h in absurd (cc),
)
no_first_run (movable bytes zero owner slot ∷ cs) =
    (λ h. absurd (no_true h), λ h. let e = sym (first_onto _ (runs_between cs)) ∙ h in absurd (cc))
no_first_run (movable bytes (suc count) owner slot ∷ cs) = (λ h. refl, λ h. refl)
no_first_run (fixed bytes owner ∷ cs) = (λ h. refl, λ h. refl)

live_onto : (bytes : List ℕ) (owner slot : ℕ) (runs : List (List Chunk))
    → EveryRun (onto_first (movable bytes 0 owner slot) runs) ↔ EveryRun runs
live_onto bytes owner slot [] = (λ h. tt, λ h. (tt, tt))
live_onto bytes owner slot (run ∷ runs) = (λ h. h, λ h. h)

free_onto_run : (size : ℕ) (runs : List (List Chunk))
    → EveryRun (onto_first (free size) runs) ↔ ((first_run runs ≡ []) × EveryRun runs)
free_onto_run size [] = (λ h. (refl, tt), λ h. (refl, tt))
free_onto_run size (run ∷ runs) =
    (λ h. (h.0, (subst FreeIsLast (sym h.0) tt, h.1)), λ h. (h.0, h.1.1))

runs_stay_next : (cs : List Chunk) → EveryRun (runs_between cs) ↔ StayNext cs
runs_stay_next [] = (λ h. tt, λ h. (tt, tt))
runs_stay_next (free size ∷ cs) =
    let ih = runs_stay_next cs in
    let onto = free_onto_run size (runs_between cs) in
    let first = no_first_run cs in
    (λ h. (first.1 (onto.0 h).0, ih.0 (onto.0 h).1), λ h. onto.1 (first.0 h.0, ih.1 h.1))
runs_stay_next (movable bytes zero owner slot ∷ cs) =
    let ih = runs_stay_next cs in
    let onto = live_onto bytes owner slot (runs_between cs) in
    (λ h. ih.0 (onto.0 h), λ h. onto.1 (ih.1 h))
runs_stay_next (movable bytes (suc count) owner slot ∷ cs) =
    let ih = runs_stay_next cs in
    (λ h. ih.0 h.1, λ h. (tt, ih.1 h))
runs_stay_next (fixed bytes owner ∷ cs) =
    let ih = runs_stay_next cs in
    (λ h. ih.0 h.1, λ h. (tt, ih.1 h))

packed_stay_next : (room : ℕ) (cs : List Chunk) → StayNext (packed_behind room cs)
packed_stay_next zero [] = tt
packed_stay_next (suc n) [] = (tt, tt)
packed_stay_next room (free size ∷ cs) = packed_stay_next (room + size) cs
packed_stay_next room (movable bytes zero owner slot ∷ cs) = packed_stay_next room cs
packed_stay_next zero (movable bytes (suc count) owner slot ∷ cs) = packed_stay_next 0 cs
packed_stay_next (suc n) (movable bytes (suc count) owner slot ∷ cs) = (refl, packed_stay_next 0 cs)
packed_stay_next zero (fixed bytes owner ∷ cs) = packed_stay_next 0 cs
packed_stay_next (suc n) (fixed bytes owner ∷ cs) = (refl, packed_stay_next 0 cs)

-- what packing leaves is packed
pub packed_is_packed : (cs : List Chunk) → Packed (packed cs)
packed_is_packed cs = (packed_runs _).1 ((runs_stay_next (packed cs)).1 (packed_stay_next 0 cs))

-- ---- packed chunks are left as they are

gap_of_some : (n : ℕ) (cs : List Chunk) → 8 ≤ n → gap (0 + n) ++ cs ≡ free n ∷ cs
gap_of_some zero cs some = absurd (omega arith)
gap_of_some (suc n) cs some = ap (λ k. gap k ++ cs) (let e : 0 + suc n ≡ suc n = omega arith in e)

kept : (at : ℕ) (cs : List Chunk) → EveryPlaced TakesBytes at cs → StayNext cs → packed cs ≡ cs
kept at [] takes s = refl
kept at (free size ∷ []) takes s = let least = takes.0 in gap_end size least where
  gap_end : (n : ℕ) → 8 ≤ n → gap (0 + n) ≡ free n ∷ []
  gap_end zero some = absurd (omega arith)
  gap_end (suc n) some = ap gap (let e : 0 + suc n ≡ suc n = omega arith in e)
kept at (free size ∷ free more ∷ cs) takes s = absurd (no_true s.0)
kept at (free size ∷ movable bytes zero owner slot ∷ cs) takes s = absurd (no_true s.0)
kept at (free size ∷ movable bytes (suc count) owner slot ∷ cs) takes s =
    ap (λ ds. gap (0 + size) ++ movable bytes (suc count) owner slot ∷ ds) (kept
    (at + size + need (length bytes)) cs takes.1.1 s.1)
    ∙ gap_of_some size (movable bytes (suc count) owner slot ∷ cs) takes.0
kept at (free size ∷ fixed bytes owner ∷ cs) takes s = ap (λ ds. gap (0 + size) ++ fixed bytes owner
    ∷ ds) (kept (at + size + need (length bytes)) cs takes.1.1 s.1)
    ∙ gap_of_some size (fixed bytes owner ∷ cs) takes.0
kept at (movable bytes zero owner slot ∷ cs) takes s =
    ap (λ ds. movable bytes 0 owner slot ∷ ds) (kept (at + need (length bytes)) cs takes.1 s)
kept at (movable bytes (suc count) owner slot ∷ cs) takes s = ap
    (λ ds. movable bytes (suc count) owner slot ∷ ds) (kept (at + need (length bytes)) cs takes.1 s)
kept at (fixed bytes owner ∷ cs) takes s = ap (λ ds. fixed bytes owner ∷ ds) (kept _ cs takes.1 s)

pub packed_kept : (at : ℕ) (cs : List Chunk) → EveryPlaced TakesBytes at cs → Packed cs
    → packed cs ≡ cs
packed_kept at cs takes p =
    kept at cs takes ((runs_stay_next cs).0 ((packed_runs (runs_between cs)).0 p))

-- ---- packing slides chunks

pub lives_gap : (room : ℕ) (cs : List Chunk) → lives (gap room ++ cs) ≡ lives cs
lives_gap zero cs = refl
lives_gap (suc n) cs = refl

lives-packed : (room : ℕ) (cs : List Chunk) → lives (packed_behind room cs) ≡ lives cs
lives-packed zero [] = refl
lives-packed (suc n) [] = refl
lives-packed room (free size ∷ cs) = lives-packed (room + size) cs
lives-packed room (movable bytes zero owner slot ∷ cs) =
    ap (λ ds. movable bytes 0 owner slot ∷ ds) (lives-packed room cs)
lives-packed room (movable bytes (suc count) owner slot ∷ cs) =
    lives_gap room (movable bytes (suc count) owner slot ∷ packed_behind 0 cs)
    ∙ ap (λ ds. movable bytes (suc count) owner slot ∷ ds) (lives-packed 0 cs)
lives-packed room (fixed bytes owner ∷ cs) = lives_gap room (fixed bytes owner ∷ packed_behind 0 cs)
    ∙ ap (λ ds. fixed bytes owner ∷ ds) (lives-packed 0 cs)

move_staying : (m n : ℕ) (cs : List Chunk) → m ≡ n → staying m cs ≡ staying n cs
move_staying m n cs e = ap (λ (k : ℕ). staying k cs) e

staying_gap : (at room : ℕ) (cs : List Chunk) → staying at (gap room ++ cs) ≡ staying (at + room) cs
staying_gap at zero cs = move_staying at (at + 0) cs (omega arith)
staying_gap at (suc n) cs = refl

staying-packed : (at room : ℕ) (cs : List Chunk)
    → staying at (packed_behind room cs) ≡ staying (at + room) cs
staying-packed at zero [] = refl
staying-packed at (suc n) [] = refl
staying-packed at room (free size ∷ cs) = staying-packed at _ cs ∙ move_staying _ _ cs (omega arith)
staying-packed at room (movable bytes zero owner slot ∷ cs) =
    staying-packed (at + need (length bytes)) room cs ∙ move_staying
    (at + need (length bytes) + room) (at + room + need (length bytes)) cs (omega arith)
staying-packed at room (movable bytes (suc count) owner slot ∷ cs) =
    staying_gap at room (movable bytes (suc count) owner slot ∷ packed_behind 0 cs)
    ∙ ap (λ offsets. (at + room) ∷ offsets) (staying-packed (at + room + need (length bytes)) 0 cs
    ∙ move_staying (at + room + need (length bytes) + 0) (at + room + need (length bytes)) cs
    (omega arith))
staying-packed at room (fixed bytes owner ∷ cs) =
    staying_gap at room (fixed bytes owner ∷ packed_behind 0 cs)
    ∙ ap (λ offsets. (at + room) ∷ offsets) (staying-packed (at + room + need (length bytes)) 0 cs
    ∙ move_staying (at + room + need (length bytes) + 0) (at + room + need (length bytes)) cs
    (omega arith))

gap_then : (room : ℕ) (cs : List Chunk) → total (gap room ++ cs) ≡ room + total cs
gap_then room cs = total-append (gap room) cs ∙ ap (λ (n : ℕ). n + total cs) (gap_total room)

total-packed : (room : ℕ) (cs : List Chunk) → total (packed_behind room cs) ≡ room + total cs
total-packed room [] = gap_total room ∙ (let e : room ≡ room + 0 = omega arith in e)
total-packed room (free size ∷ cs) = let ih = total-packed (room + size) cs in omega arith
total-packed room (movable bytes zero owner slot ∷ cs) =
    let ih = total-packed room cs in
    omega arith
total-packed room (movable bytes (suc count) owner slot ∷ cs) =
    let sum = gap_then room (movable bytes (suc count) owner slot ∷ packed_behind 0 cs) in
    let ih = total-packed 0 cs in
    omega arith
total-packed room (fixed bytes owner ∷ cs) =
    let sum = gap_then room (fixed bytes owner ∷ packed_behind 0 cs) in
    let ih = total-packed 0 cs in
    omega arith

pub packed_slid : (cs : List Chunk) → Slid cs (packed cs)
packed_slid cs = record {
  same = lives-packed 0 cs;
  stay = staying-packed 0 0 cs ∙ move_staying (0 + 0) 0 cs (omega arith);
  sizes = let e : 0 + total cs ≡ total cs = omega arith in total-packed 0 cs ∙ e;
}

-- ---- lists whose chunks have slid are packed alike

abbrev first_offset : List ℕ → ℕ
first_offset [] = 0
first_offset (offset ∷ offsets) = offset

abbrev later_offsets : List ℕ → List ℕ
later_offsets [] = []
later_offsets (offset ∷ offsets) = offsets

-- packed chunks from an offset up to another, by their live ones and the offsets of those that stay
abbrev packed_from : ℕ → List Chunk → List ℕ → ℕ → List Chunk
packed_from at [] offsets end = gap (end - at)
packed_from at (free size ∷ chunks) offsets end = packed_from at chunks offsets end
packed_from at (movable bytes zero owner slot ∷ chunks) offsets end =
    movable bytes 0 owner slot ∷ packed_from (at + need (length bytes)) chunks offsets end
packed_from at (movable bytes (suc count) owner slot ∷ chunks) offsets end =
    gap (first_offset offsets - at) ++ movable bytes (suc count) owner slot
    ∷ packed_from (first_offset offsets + need (length bytes)) chunks (later_offsets offsets) end
packed_from at (fixed bytes owner ∷ chunks) offsets end =
    gap (first_offset offsets - at) ++ fixed bytes owner
    ∷ packed_from (first_offset offsets + need (length bytes)) chunks (later_offsets offsets) end

rebuilt : (low room at : ℕ) (cs : List Chunk) (end : ℕ) → low + room ≡ at → end ≡ at + total cs
    → packed_behind room cs ≡ packed_from low (lives cs) (staying at cs) end
rebuilt low room at [] end there ends = ap gap (let e : room ≡ end - low = omega arith in e)
rebuilt low room at (free size ∷ cs) end there ends =
    rebuilt low (room + size) (at + size) cs end (omega arith) (omega arith)
rebuilt low room at (movable bytes zero owner slot ∷ cs) end there ends =
    ap (λ ds. movable bytes 0 owner slot ∷ ds) (rebuilt _ room _ cs end (omega arith) (omega arith))
rebuilt low room at (movable bytes (suc count) owner slot ∷ cs) end there ends =
    ap (λ ds. gap room ++ movable bytes (suc count) owner slot ∷ ds) (rebuilt
    (at + need (length bytes)) 0 (at + need (length bytes)) cs end (omega arith) (omega arith))
    ∙ ap (λ n. gap n ++ movable bytes (suc count) owner slot
    ∷ packed_from (at + need (length bytes)) (lives cs) (staying (at + need (length bytes)) cs) end)
    (let e : room ≡ at - low = omega arith in e)
rebuilt low room at (fixed bytes owner ∷ cs) end there ends =
    ap (λ ds. gap room ++ fixed bytes owner ∷ ds) (rebuilt _ 0 _ cs end (omega arith) (omega arith))
    ∙ ap (λ n. gap n ++ fixed bytes owner ∷ packed_from (at + need (length bytes)) (lives cs)
    (staying (at + need (length bytes)) cs) end) (let e : room ≡ at - low = omega arith in e)

pub slid_packed : (cs ds : List Chunk) → Slid cs ds → packed ds ≡ packed cs
slid_packed cs ds s =
    rebuilt 0 0 0 ds (total ds) (omega arith) (omega arith)
    ∙ ap (λ (xs : List Chunk). packed_from 0 xs (staying 0 ds) (total ds)) s.same
    ∙ ap (λ (offsets : List ℕ). packed_from 0 (lives cs) offsets (total ds)) s.stay
    ∙ sym (rebuilt 0 0 0 cs (total ds) (omega arith) (let sizes = s.sizes in omega arith))

-- so there is one list of packed chunks to which others can slide
pub packed_once : (at : ℕ) (cs ds : List Chunk) → EveryPlaced TakesBytes at ds → Packed ds
    → Slid cs ds → ds ≡ packed cs
packed_once at cs ds takes p s = sym (packed_kept at ds takes p) ∙ slid_packed cs ds s
