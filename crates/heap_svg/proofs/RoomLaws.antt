-- Rooms, as a walk meets them.
use Rattle.heap_svg.proofs.Words.{◌≡◌, ℕ, zero, suc, ◌+◌, ◌≤◌, ◌<◌, List, [], ◌∷◌, ◌++◌, length, get_or, drop, refl, sym, ap, subst, ◌∙◌, append_assoc, arith, inl, inr, add-one, drop-cons, max, nat_tests, append-nil, Chunk, free, movable, fixed, size_of, total, need, gap, chunks_of, greatest, area_start, HeapAccepted, total-append, SpelledAll-end, read_heap, Header, header_of, size_by, HasHeader, size_by-header_of, HasPassed, passed_none, passed_more, Room, free_sizes, compact_pieces, kept, rooms_from, rooms_drawn, sizes, AddsToRooms}
use Rattle.std.specs.Prelude.{true, false}
use Rattle.heap_model.specs.Packing.{packed, packed_behind}
use Rattle.heap_svg.specs.declared.rooms.MetRooms.{MetRooms}

-- ---- rooms are the pieces that a compact leaves

sizes_append : (rs ss : List Room) → sizes (rs ++ ss) ≡ sizes rs ++ sizes ss
sizes_append [] ss = refl
sizes_append (r ∷ rs) ss = ap (λ (ns : List ℕ). r.size ∷ ns) (sizes_append rs ss)

-- a room that has bytes
abbrev some_room : ℕ → ℕ → Room
some_room start more = record { start = start; size = suc more }

kept_some : (start more : ℕ) → kept (some_room start more) ≡ some_room start more ∷ []
kept_some start more = grind (arith, nat_tests)

kept_gap : (start size : ℕ) (chunks : List Chunk) (rooms : List Room)
    → sizes rooms ≡ free_sizes chunks → sizes (kept (record { start = start; size = size })
    ++ rooms) ≡ free_sizes (gap size ++ chunks)
kept_gap start zero chunks rooms same = same
kept_gap start (suc more) chunks rooms same =
    ap (λ ks. sizes (ks ++ rooms)) (kept_some start more) ∙ ap (λ ns. suc more ∷ ns) same

kept_last : (start size : ℕ)
    → sizes (kept (record { start = start; size = size })) ≡ free_sizes (gap size)
kept_last start zero = refl
kept_last start (suc more) = ap sizes (kept_some start more)

rooms_packed : (start size at : ℕ) (cs : List Chunk)
    → sizes (rooms_from (record { start = start; size = size }) at cs)
    ≡ free_sizes (packed_behind size cs)
rooms_packed start size at [] = kept_last start size
rooms_packed start size at (free more ∷ cs) = rooms_packed start (size + more) (at + more) cs
rooms_packed start size at (movable bytes zero owner slot ∷ cs) =
    rooms_packed start size (at + need (length bytes)) cs
rooms_packed start size at (movable bytes (suc count) owner slot ∷ cs) =
    kept_gap start size (movable bytes (suc count) owner slot ∷ packed_behind 0 cs) _
    (rooms_packed (at + need (length bytes)) 0 (at + need (length bytes)) cs)
rooms_packed start size at (fixed bytes owner ∷ cs) =
    kept_gap start size (fixed bytes owner ∷ packed_behind 0 cs) _
    (rooms_packed (at + need (length bytes)) 0 (at + need (length bytes)) cs)

pub sizes_packed : (image : List ℕ)
    → sizes (rooms_drawn image) ≡ free_sizes (packed (chunks_of image))
unfolding rooms_drawn
sizes_packed image = rooms_packed (area_start image) 0 (area_start image) (chunks_of image)

pub length-sizes : (rs : List Room) → length (sizes rs) ≡ length rs
length-sizes [] = refl
length-sizes (r ∷ rs) = let ih = length-sizes rs in omega arith

-- the largest of those from an index on
pub largest_here : (rs : List Room) (i : ℕ) (d : Room) → i < length rs
    → greatest (sizes (drop i rs)) ≡ max (get_or rs i d).size (greatest (sizes (drop (i + 1) rs)))
largest_here rs i d within = rw (add-one, drop-cons rs i d) refl

-- ---- the walk

-- the rooms from the first chunk on
abbrev pub from_start : List ℕ → List Chunk → List Room
from_start image cs =
    rooms_from (record { start = area_start image; size = 0 }) (area_start image) cs

-- what a walk has met, of which others follow
pub record HaveRooms (image : List ℕ) (rooms : MetRooms) (cs : List Chunk) : Type 0 where
  pub same : (others : List Chunk) → from_start image (cs ++ others)
      ≡ rooms.met.items ++ rooms_from rooms.last (area_start image + total cs) others
  pub fits : rooms.last.size ≤ total cs

more_total : (cs : List Chunk) (c : Chunk) → total (cs ++ c ∷ []) ≡ total cs + size_of c
more_total cs c = let both = total-append cs (c ∷ []) in let none : total [] ≡ 0 = refl in
    omega arith

-- the rooms behind a chunk more
rooms_more : (room : Room) (image : List ℕ) (cs others : List Chunk) (c : Chunk)
    → rooms_from room (area_start image + total cs + size_of c) others
    ≡ rooms_from room (area_start image + total (cs ++ c ∷ [])) others
rooms_more room image cs others c =
    let more = more_total cs c in
    ap (λ (n : ℕ). rooms_from room n others) (let e : area_start image + total cs + size_of c
    ≡ area_start image + total (cs ++ c ∷ []) = omega arith in e)

start_more : (image : List ℕ) (cs others : List Chunk) (c : Chunk)
    → from_start image ((cs ++ c ∷ []) ++ others) ≡ from_start image (cs ++ c ∷ others)
start_more image cs others c = ap (from_start image) (append_assoc cs (c ∷ []) others)

pub rooms_none : (image : List ℕ) (rooms : MetRooms) → rooms.met.items ≡ []
    → rooms.last ≡ record { start = area_start image; size = 0 } → HaveRooms image rooms []
rooms_none image rooms none last = record {
  same = λ others.
      let e : area_start image ≡ area_start image + total [] = omega arith in
      ap (λ (n : ℕ). rooms_from (record { start = area_start image; size = 0 }) n others) e
      ∙ ap (λ (r : Room). rooms_from r (area_start image + total []) others) (sym last)
      ∙ ap (λ rs. rs ++ rooms_from rooms.last (area_start image + total []) others) (sym none);
  fits = let size : rooms.last.size ≡ 0 = ap (λ (r : Room). r.size) last in omega arith;
}

-- a chunk that goes on with the stretch
goes_on : (image : List ℕ) (old new : MetRooms) (cs : List Chunk) (c : Chunk) (size : ℕ)
    → size ≤ size_of c → ((room : Room) (at : ℕ) (others : List Chunk) → rooms_from room at (c
    ∷ others) ≡ rooms_from (record room { size = room.size + size }) (at + size_of c) others)
    → new.met.items ≡ old.met.items → new.last ≡ record old.last { size = old.last.size + size }
    → HaveRooms image old cs → HaveRooms image new (cs ++ c ∷ [])
goes_on image old new cs c size fits step met last h = record {
  same = λ others. start_more image cs others c ∙ h.same (c ∷ others)
      ∙ ap (λ rs. old.met.items ++ rs) (step old.last (area_start image + total cs) others
      ∙ rooms_more (record old.last { size = old.last.size + size }) image cs others c
      ∙ ap (λ r. rooms_from r (area_start image + total (cs ++ c ∷ [])) others) (sym last))
      ∙ ap (λ rs. rs ++ rooms_from new.last (area_start image + total (cs ++ c ∷ [])) others)
      (sym met);
  fits =
      let is : new.last.size ≡ old.last.size + size = ap (λ (r : Room). r.size) last in
      let was = h.fits in
      let more = more_total cs c in
      omega arith;
}

-- a chunk that ends it
ends : (image : List ℕ) (old new : MetRooms) (cs : List Chunk) (c : Chunk) (end : ℕ)
    → end ≡ area_start image + total cs + size_of c
    → ((room : Room) (at : ℕ) (others : List Chunk) → rooms_from room at (c ∷ others)
    ≡ kept room ++ rooms_from (record { start = at + size_of c; size = 0 }) (at + size_of c) others)
    → new.met.items ≡ old.met.items ++ kept old.last → new.last ≡ record { start = end; size = 0 }
    → HaveRooms image old cs → HaveRooms image new (cs ++ c ∷ [])
ends image old new cs c end there step met empty h =
    let at : ℕ = area_start image + total cs in
    let next : Room = record { start = at + size_of c; size = 0 } in
    let last =
    ap (λ n. let r : Room = record { start = n; size = 0 } in r) (sym there) ∙ sym empty in
    record {
      same = λ others. start_more image cs others c ∙ h.same (c ∷ others)
          ∙ ap (λ (rs : List Room). old.met.items ++ rs) (step old.last at others) ∙ sym
          (append_assoc old.met.items (kept old.last) (rooms_from next (at + size_of c) others))
          ∙ ap (λ (rs : List Room). rs ++ rooms_from next (at + size_of c) others) (sym met)
          ∙ ap (λ (rs : List Room). new.met.items ++ rs) (rooms_more next image cs others c
          ∙ ap (λ (r : Room). rooms_from r (area_start image + total (cs ++ c ∷ [])) others) last);
      fits = let is : new.last.size ≡ 0 = ap (λ (r : Room). r.size) empty in omega arith;
    }

same_size : (room : Room) → room ≡ record room { size = room.size + 0 }
same_size room = let e : room.size ≡ room.size + 0 = omega arith in
    ap (λ n. let r : Room = record { start = room.start; size = n } in r) e

rooms_add : (image : List ℕ) (old new : MetRooms) (cs : List Chunk) (c : Chunk) (end : ℕ)
    → end ≡ area_start image + total cs + size_of c → AddsToRooms old new (header_of c) end
    → HaveRooms image old cs → HaveRooms image new (cs ++ c ∷ [])
rooms_add image old new cs (free size) end there a h = elim a [
  | inl e ↦ absurd (let stays : false ≡ true = e.stays in cc)
  | inr g ↦ goes_on _ _ _ cs (free size) size (omega arith) (λ room at others. refl) g.met g.last h
]
rooms_add image old new cs (movable bytes zero owner slot) end there a h = elim a [
  | inl e ↦ absurd (let stays = e.stays in grind (arith, nat_tests))
  | inr g ↦ goes_on _ _ _ cs (movable bytes zero owner slot) 0 (omega arith) (λ room at others.
      ap (λ r. rooms_from r (at + need (length bytes)) others) (same_size _)) g.met g.last h
]
rooms_add image old new cs (movable bytes (suc count) owner slot) end there a h = elim a [
  | inl e ↦ ends _ _ _ cs (movable bytes (suc count) owner slot) end there
      (λ room at others. refl) e.met e.last h
  | inr g ↦ absurd (let moves = g.moves in grind (arith, nat_tests))
]
rooms_add image old new cs (fixed bytes owner) end there a h = elim a [
  | inl e ↦ ends _ _ _ cs (fixed bytes owner) end there (λ room at others. refl) e.met e.last h
  | inr g ↦ absurd (let moves : true ≡ false = g.moves in cc)
]

pub rooms_start : (image : List ℕ) (rooms : MetRooms) (at : ℕ) → HeapAccepted image
    → at ≡ area_start image → rooms.met.items ≡ [] → rooms.last ≡ record { start = at; size = 0 }
    → HasPassed image (HaveRooms image rooms) at
rooms_start image rooms at h start none last =
    let fits = (read_heap image h).tiles.head.a_chunk_fits in
    passed_none image (HaveRooms image rooms) at start (omega arith) (rooms_none image rooms none
    (last ∙ ap (λ (n : ℕ). let r : Room = record { start = n; size = 0 } in r) start))

pub rooms_step : (image : List ℕ) (old new : MetRooms) (at taken : ℕ) (header : Header)
    → HasPassed image (HaveRooms image old) at → HasHeader image at header → taken ≡ size_by header
    → AddsToRooms old new header (at + taken) → HasPassed image (HaveRooms image new) (at + taken)
rooms_step image old new at taken header p f takes a =
    let size = ap size_by f.header_is ∙ size_by-header_of f.chunk in
    subst (λ (n : ℕ). HasPassed image (HaveRooms image new) (at + n)) (sym takes) (passed_more _ _
    _ at _ p f (λ cs there h. rooms_add _ _ _ cs f.chunk _ (omega arith) (rw f.header_is at a) h))

pub rooms_small : (image : List ℕ) (rooms : MetRooms) (at : ℕ)
    → HasPassed image (HaveRooms image rooms) at → rooms.last.size ≤ at
rooms_small image rooms at p =
    let there = SpelledAll-end image (area_start image) p.chunks at p.spelled in
    let fits = p.holds.fits in
    omega arith

pub rooms_end : (image : List ℕ) (rooms : MetRooms) (met : List Room)
    → met ≡ rooms.met.items ++ kept rooms.last → HaveRooms image rooms (chunks_of image)
    → met ≡ rooms_drawn image
unfolding rooms_drawn
rooms_end image rooms met is h =
    is ∙ sym (h.same []) ∙ ap (from_start image) (append-nil (chunks_of image))

-- ---- how many rooms there are, and how large they may be

kept_few : (start size : ℕ) (rooms : List Room) (n : ℕ) → length rooms ≤ n
    → length (kept (record { start = start; size = size }) ++ rooms) ≤ size + n
kept_few start zero rooms n few = omega arith
kept_few start (suc more) rooms n few =
    let e : length (kept (some_room start more) ++ rooms) ≡ length rooms + 1 =
    ap (λ (ks : List Room). length (ks ++ rooms)) (kept_some start more) ∙ omega arith in
    omega arith

kept_most : (start size : ℕ) (rooms : List Room) (n : ℕ) → greatest (sizes rooms) ≤ n
    → greatest (sizes (kept (record { start = start; size = size }) ++ rooms)) ≤ size + n
kept_most start zero rooms n most = omega arith
kept_most start (suc more) rooms n most =
    let e = ap (λ ks. greatest (sizes (ks ++ rooms))) (kept_some start more) in
    omega arith

-- what grows with each room by at most its size is at most the size of all chunks
rooms_bound : (measure : List Room → ℕ) → measure [] ≤ 0
    → ((start size : ℕ) (rooms : List Room) (n : ℕ) → measure rooms ≤ n
    → measure (kept (record { start = start; size = size }) ++ rooms) ≤ size + n)
    → (start size at : ℕ) (cs : List Chunk)
    → measure (rooms_from (record { start = start; size = size }) at cs) ≤ size + total cs
rooms_bound measure none more start size at [] =
    let one = more start size [] 0 none in
    let same = ap measure (append-nil (kept (record { start = start; size = size }))) in
    omega arith
rooms_bound measure none more start size at (free room ∷ cs) = let ih =
    rooms_bound measure none more start (size + room) (at + room) cs in omega arith
rooms_bound measure none more start size at (movable bytes zero owner slot ∷ cs) = let ih =
    rooms_bound measure none more start size (at + need (length bytes)) cs in omega arith
rooms_bound measure none more start size at (movable bytes (suc count) owner slot ∷ cs) =
    let ih = more start size _ (0 + total cs) (rooms_bound measure none more
    (at + need (length bytes)) 0 (at + need (length bytes)) cs) in omega arith
rooms_bound measure none more start size at (fixed bytes owner ∷ cs) =
    let ih = more start size _ (0 + total cs) (rooms_bound measure none more
    (at + need (length bytes)) 0 (at + need (length bytes)) cs) in omega arith

rooms_few : (start size at : ℕ) (cs : List Chunk)
    → length (rooms_from (record { start = start; size = size }) at cs) ≤ size + total cs
rooms_few = rooms_bound (λ rooms. length rooms) (omega arith) kept_few

rooms_most : (start size at : ℕ) (cs : List Chunk)
    → greatest (sizes (rooms_from (record { start = start; size = size }) at cs)) ≤ size + total cs
rooms_most = rooms_bound (λ rooms. greatest (sizes rooms)) (omega arith) kept_most

all_inside : (image : List ℕ) → HeapAccepted image
    → area_start image + total (chunks_of image) ≡ length image
all_inside image h = sym (SpelledAll-end _ _ _ _ (read_heap _ h).tiles.area)

pub few_rooms : (image : List ℕ) → HeapAccepted image → length (rooms_drawn image) ≤ length image
unfolding rooms_drawn
few_rooms image h =
    let inside = all_inside image h in
    let few = rooms_few (area_start image) 0 (area_start image) (chunks_of image) in
    omega arith

pub small_rooms : (image : List ℕ) → HeapAccepted image
    → greatest (sizes (rooms_drawn image)) ≤ length image
unfolding rooms_drawn
small_rooms image h =
    let inside = all_inside image h in
    let most = rooms_most (area_start image) 0 (area_start image) (chunks_of image) in
    omega arith

-- ---- what a compact leaves

pub count_packed : (image : List ℕ) (rooms : List Room) → rooms ≡ rooms_drawn image
    → length rooms ≡ length (compact_pieces image)
count_packed image rooms are =
    ap length are ∙ sym (length-sizes (rooms_drawn image)) ∙ ap length (sizes_packed image)

pub largest_packed : (image : List ℕ) (rooms : List Room) → rooms ≡ rooms_drawn image
    → greatest (sizes rooms) ≡ greatest (compact_pieces image)
largest_packed image rooms are =
    ap (λ rs. greatest (sizes rs)) are ∙ ap greatest (sizes_packed image)
