-- One walk finds the greatest room of an image.
use Rattle.heap_compact.proofs.Words.{◌≡◌, ℕ, zero, suc, ◌+◌, ◌≤◌, List, [], ◌∷◌, ◌++◌, length, refl, sym, ap, subst, ◌∙◌, append_assoc, arith, max, filter, sum_by, sum_by-cons, Chunk, free, movable, fixed, size_of, total, free_size, area_start, HeapAccepted, chunks_of, onto_first, runs_between, has_chunk, stretches, room_of, rooms_of, rooms, greatest, Header, header_of, size_by, HasHeader, Passed, free_by, HeaderStays, greatest_behind, HaveRooms, total-append, passed_start, passed_at, passed_more, passed_all}
use Rattle.std.proofs.Common.{append-nil}

-- ---- the greatest of the rooms

-- some rooms, of which the first has `more` bytes more
abbrev raised : ℕ → List ℕ → List ℕ
raised more [] = more ∷ []
raised more (room ∷ others) = (more + room) ∷ others

raised_onto : (more : ℕ) (c : Chunk) (runs : List (List Chunk))
    → raised more (rooms_of (onto_first c runs)) ≡ raised (more + free_size c) (rooms_of runs)
raised_onto more c [] = let s = sum_by-cons free_size c [] in let none : sum_by free_size [] ≡ 0 = refl in ap (λ n. n ∷ []) (let e : more + room_of (c ∷ []) ≡ more + free_size c = omega arith in e)
raised_onto more c (run ∷ runs) = let s = sum_by-cons free_size c run in ap (λ n. n ∷ rooms_of runs) (let e : more + room_of (c ∷ run) ≡ more + free_size c + room_of run = omega arith in e)

raised_none : (some : List ℕ) → greatest (raised 0 some) ≡ greatest some
raised_none [] = refl
raised_none (room ∷ others) = ap (λ n. max n (greatest _)) (let e : 0 + room ≡ room = omega arith in e)

stays_behind : (more : ℕ) (cs : List Chunk) → greatest_behind 0 cs ≡ greatest (raised 0 (rooms_of (runs_between cs))) → max more (greatest_behind 0 cs) ≡ greatest (raised more (rooms_of ([] ∷ runs_between cs)))
stays_behind more cs e =
    let rest = e ∙ raised_none (rooms_of (runs_between cs)) in
    ap (λ n. max more n) rest ∙ ap (λ n. max n (greatest _)) (let e : more ≡ more + room_of [] = omega arith in e)

runs_greatest : (more : ℕ) (cs : List Chunk)
    → greatest_behind more cs ≡ greatest (raised more (rooms_of (runs_between cs)))
runs_greatest more [] = let none : room_of [] ≡ 0 = refl in let e : more ≡ max (more + room_of []) 0 = omega arith in e
runs_greatest more (free size ∷ cs) = runs_greatest (more + size) cs ∙ sym (ap greatest (raised_onto more (free size) (runs_between cs)))
runs_greatest more (movable bytes zero owner slot ∷ cs) =
    runs_greatest more cs ∙ ap (λ n. greatest (raised n (rooms_of (runs_between cs)))) (let e : more ≡ more + 0 = omega arith in e) ∙ sym (ap greatest (raised_onto more (movable bytes 0 owner slot) (runs_between cs)))
runs_greatest more (movable bytes (suc count) owner slot ∷ cs) = stays_behind more cs (runs_greatest 0 cs)
runs_greatest more (fixed bytes owner ∷ cs) = stays_behind more cs (runs_greatest 0 cs)

-- a run without chunks has no room
some_greatest : (runs : List (List Chunk))
    → greatest (rooms_of (filter has_chunk runs)) ≡ greatest (rooms_of runs)
some_greatest [] = refl
some_greatest ([] ∷ runs) = let ih = some_greatest runs in let none : room_of [] ≡ 0 = refl in omega (arith, ih)
some_greatest ((c ∷ run) ∷ runs) = ap (λ (n : ℕ). max (room_of (c ∷ run)) n) (some_greatest runs)

chunks_greatest : (cs : List Chunk) → greatest_behind 0 cs ≡ greatest (rooms_of (stretches cs))
chunks_greatest cs = runs_greatest 0 cs ∙ raised_none _ ∙ sym (some_greatest _)

-- ---- the walk

no_rooms : HaveRooms 0 0 []
no_rooms = record { on = λ others. omega arith; fits = omega arith }

more_total : (cs : List Chunk) (c : Chunk) → total (cs ++ c ∷ []) ≡ total cs + size_of c
more_total cs c = let both = total-append cs (c ∷ []) in let none : total [] ≡ 0 = refl in omega arith

-- one more chunk
rooms_stay : {largest room : ℕ} {cs : List Chunk} (c : Chunk) → HeaderStays (header_of c)
    → HaveRooms largest room cs → HaveRooms (max largest room) 0 (cs ++ c ∷ [])
rooms_stay (free size) stay h = absurd stay
rooms_stay (movable bytes zero owner slot) stay h = absurd (omega (arith, stay))
rooms_stay {cs} (movable bytes (suc count) owner slot) stay h = record {
  on = λ others. ap (greatest_behind 0) (append_assoc cs (movable bytes (suc count) owner slot ∷ []) others) ∙ h.on (movable bytes (suc count) owner slot ∷ others) ∙ omega arith;
  fits = omega arith;
}
rooms_stay {cs} (fixed bytes owner) stay h = record {
  on = λ others. ap (greatest_behind 0) (append_assoc cs (fixed bytes owner ∷ []) others) ∙ h.on (fixed bytes owner ∷ others) ∙ omega arith;
  fits = omega arith;
}

rooms_go_on : {largest room : ℕ} {cs : List Chunk} (c : Chunk) → (HeaderStays (header_of c) → ⊥)
    → HaveRooms largest room cs → HaveRooms largest (room + free_by (header_of c)) (cs ++ c ∷ [])
rooms_go_on {cs} (free size) loose h = record {
  on = λ others. ap (greatest_behind 0) (append_assoc cs (free size ∷ []) others) ∙ h.on (free size ∷ others);
  fits = let low = h.fits in let more = more_total cs (free size) in omega arith;
}
rooms_go_on {largest} {room} {cs} (movable bytes zero owner slot) loose h = record {
  on = λ others.
      ap (greatest_behind 0) (append_assoc cs (movable bytes 0 owner slot ∷ []) others)
      ∙ h.on (movable bytes 0 owner slot ∷ others) ∙ ap (λ n. max largest (greatest_behind n others)) (let e : room ≡ room + 0 = omega arith in e);
  fits = let low = h.fits in let more = more_total cs (movable bytes 0 owner slot) in omega arith;
}
rooms_go_on (movable bytes (suc count) owner slot) loose h = absurd (loose (omega arith))
rooms_go_on (fixed bytes owner) loose h = absurd (loose tt)

pub rooms_start : {image : List ℕ} → HeapAccepted image
    → Passed image (HaveRooms 0 0) (area_start image)
rooms_start h = passed_start _ (HaveRooms 0 0) h no_rooms

pub rooms_fit : {image : List ℕ} (largest room : ℕ) {at : ℕ}
    → Passed image (HaveRooms largest room) at → room ≤ at
rooms_fit largest room p = omega (arith, passed_at _ _ _ p, p.holds.fits)

pub rooms_closed : {image : List ℕ} (largest room : ℕ) {at : ℕ} {header : Header} → Passed image (HaveRooms largest room) at → HasHeader image at header → HeaderStays header → Passed image (HaveRooms (max largest room) 0) (at + size_by header)
rooms_closed largest room p has stay =
    passed_more _ _ _ _ _ p has (rooms_stay _ (subst HeaderStays has.header_is stay) p.holds)

pub rooms_more : {image : List ℕ} (largest room : ℕ) {at : ℕ} {header : Header} → Passed image (HaveRooms largest room) at → HasHeader image at header → (HeaderStays header → ⊥) → Passed image (HaveRooms largest (room + free_by header)) (at + size_by header)
rooms_more largest room {header} p has loose =
    passed_more _ _ (HaveRooms largest (room + free_by header)) _ _ p has
    (rw (← has.header_is) at (rooms_go_on has.chunk (λ stay. loose (subst HeaderStays (sym has.header_is) stay)) p.holds))

pub rooms_all : {image : List ℕ} (largest room : ℕ) {at : ℕ} → HeapAccepted image → Passed image (HaveRooms largest room) at → length image ≤ at → max largest room ≡ greatest (rooms image)
rooms_all {image} largest room h p beyond =
    sym ((passed_all _ _ _ h p beyond).on []) ∙ ap (greatest_behind 0) (append-nil (chunks_of image)) ∙ chunks_greatest (chunks_of image)
