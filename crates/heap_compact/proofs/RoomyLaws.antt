-- The search finds the first stretch whose room has a size, or there is none.
use Rattle.heap_compact.proofs.Words.{◌≡◌, ℕ, zero, suc, ◌+◌, ◌<◌, ◌≤◌, List, [], ◌∷◌, ◌++◌, length, refl, sym, ap, subst, ◌∙◌, append_assoc, arith, All, IsTrue, filter, sum_by-cons, sum_by-append, Chunk, free, movable, fixed, total, free_size, SpelledAll, area_start, HeapAccepted, chunks_of, stays_put, NoneStays, runs_between, has_chunk, stretches, room_of, rooms_of, Short, EndsStaying, BeginsStaying, size_by, HasHeader, Header, HeaderStays, free_by, Stretch, IsStretch, HasRoom, SeenRooms, SpelledAll-split, SpelledAll-end, chunks_after, stretches_behind, run_then, rooms_of-append, free_of, free_within}
use Rattle.std.proofs.lemmas.List.Elements.{All-nil, All-cons, All-append}
use Rattle.laws_heap.proofs.Packings.{no_true}
use Rattle.heap_compact.proofs.SeenLaws.{header_stay, seen_more, seen_closed, begins_there, none_there, nothing_after}

-- ---- rooms of lists

-- one run, where it has a chunk
short_run : (size : ℕ) (run : List Chunk) → room_of run < size
    → All (λ room. room < size) (rooms_of (filter has_chunk (run ∷ [])))
short_run size [] low = All-nil (λ room. room < size)
short_run size (c ∷ run) low = All-cons (λ room. room < size) (room_of (c ∷ run)) [] low (All-nil (λ room. room < size))

-- after chunks that end with one that stays
short_behind : (size : ℕ) (closed run after : List Chunk) (runs : List (List Chunk)) → EndsStaying closed → NoneStays run → runs_between after ≡ [] ∷ runs → filter has_chunk runs ≡ [] → All (λ room. room < size) (rooms_of (stretches closed)) → room_of run < size
    → All (λ room. room < size) (rooms_of (stretches (closed ++ (run ++ after))))
short_behind size closed run after runs ends none begins empty short low =
    let one = ap (filter has_chunk) (run_then run after runs none begins) ∙ with_none run in
    let all : rooms_of (stretches (closed ++ (run ++ after))) ≡ rooms_of (stretches closed) ++ rooms_of (filter has_chunk (run ∷ [])) =
    ap rooms_of (stretches_behind closed (run ++ after) ends) ∙ rooms_of-append (stretches closed) (stretches (run ++ after)) ∙ ap (λ (others : List (List Chunk)). rooms_of (stretches closed) ++ rooms_of others) one in
    subst (λ rooms. All (λ room. room < size) rooms) (sym all) (All-append (λ room. room < size) (rooms_of (stretches closed)) (rooms_of (filter has_chunk (run ∷ []))) short (short_run size run low)) where
      with_none : (first : List Chunk)
          → filter has_chunk (first ∷ runs) ≡ filter has_chunk (first ∷ [])
      with_none [] = empty
      with_none (c ∷ first) = ap (λ (others : List (List Chunk)). (c ∷ first) ∷ others) empty

stay_alone : (c : Chunk) → IsTrue (stays_put c) → runs_between (c ∷ []) ≡ [] ∷ [] ∷ []
stay_alone (free size) s = absurd (no_true s)
stay_alone (movable bytes zero owner slot) s = absurd (no_true s)
stay_alone (movable bytes (suc count) owner slot) s = refl
stay_alone (fixed bytes owner) s = refl

-- ---- the search

pub rooms_start : {image : List ℕ} (size : ℕ) {start : ℕ} → HeapAccepted image
    → start ≡ area_start image → SeenRooms image size start start 0
rooms_start size h e =
    let fits = h.1.tiles.head.a_chunk_fits in record {
      seen = record { closed = []; run = []; spelled = sym e; none_stays = tt; ends = tt; from = omega (arith, e); low = omega arith; inside = omega (arith, fits, e) };
      room_is = refl;
      short = All-nil (λ other. other < size);
    }

module _ {image : List ℕ} {size start here room : ℕ} (r : SeenRooms image size start here room) where
  open r.seen use {closed, run}

  pub rooms_more : {taken more : ℕ} {header : Header} → HasHeader image here header → taken ≡ size_by header → (HeaderStays header → ⊥) → more ≡ free_by header → SeenRooms image size start (here + taken) (room + more)
  unfolding seen_more
  rooms_more {taken} {more} {header} f e goes more_is =
      let sum = sum_by-append free_size run (f.chunk ∷ []) in
      let one = sum_by-cons free_size f.chunk [] in
      let is : more ≡ free_size f.chunk = more_is ∙ ap free_by f.header_is ∙ free_of f.chunk in
      record { seen = seen_more _ _ _ here _ _ r.seen f e goes; room_is = omega (arith, r.room_is, sum, one, is); short = r.short }

  pub rooms_closed : {taken : ℕ} {header : Header} → HasHeader image here header → taken ≡ size_by header → HeaderStays header → room < size → SeenRooms image size (here + taken) (here + taken) 0
  unfolding seen_closed
  rooms_closed {taken} {header} f e stay low =
      let stay_c = header_stay f.chunk (subst HeaderStays f.header_is stay) in
      let short = short_behind size closed run (f.chunk ∷ []) ([] ∷ []) r.seen.ends r.seen.none_stays (stay_alone f.chunk stay_c) refl r.short (omega (arith, r.room_is, low)) in
      record {
        seen = seen_closed image start _ start here taken header r.seen f e stay (omega arith);
        room_is = refl;
        short = rw (← (append_assoc closed run (f.chunk ∷ []))) at short;
      }

  run_ends : here ≡ area_start image + total closed + total run
  run_ends = SpelledAll-end _ _ run here (SpelledAll-split _ _ _ run here r.seen.spelled).1

  -- how much room there is so far
  pub rooms_low : room ≤ here
  rooms_low = omega (arith, run_ends, free_within run, r.room_is)

  module _ (h : HeapAccepted image) where
    others : (after : List Chunk) × (chunks_of image ≡ (closed ++ run) ++ after) × SpelledAll image here after (length image)
    others = chunks_after _ _ (closed ++ run) here h.1.tiles r.seen.spelled r.seen.inside

    -- ---- a stretch is found

    roomy : size ≤ room → BeginsStaying others.0
        → HasRoom image size (record { start = start; end = here })
    roomy enough begins = record {
      before = closed;
      mid = run;
      after = others.0;
      is = record {
        whole = record { chunks = others.1 ∙ append_assoc closed run _; none_stays = r.seen.none_stays; in_front = r.seen.ends; behind = begins };
        from = r.seen.from;
        to = omega (arith, run_ends, r.seen.from);
      };
      enough = omega (arith, enough, r.room_is);
    }

    pub room_found : {header : Header} → HasHeader image here header → HeaderStays header
        → size ≤ room → HasRoom image size (record { start = start; end = here })
    room_found f stay enough =
        roomy enough (begins_there image here f.chunk others.0 others.2 f.spelled (header_stay f.chunk (subst HeaderStays f.header_is stay)))

    pub room_last : length image ≤ here → size ≤ room
        → HasRoom image size (record { start = start; end = here })
    room_last past enough = roomy enough (none_there image here others.0 others.2 past)

    -- or none is
    pub room_none : length image ≤ here → room < size → Short image size
    room_none past low =
        let all : chunks_of image ≡ closed ++ (run ++ []) = others.1 ∙ ap (λ (cs : List Chunk). (closed ++ run) ++ cs) (nothing_after image here others.0 others.2 past) ∙ append_assoc closed run [] in
        subst (λ (cs : List Chunk). All (λ other. other < size) (rooms_of (stretches cs))) (sym all)
        (short_behind size closed run [] [] r.seen.ends r.seen.none_stays refl refl r.short (omega (arith, r.room_is, low)))

pub room_stretch : {image : List ℕ} {size : ℕ} {stretch : Stretch} → HasRoom image size stretch
    → IsStretch image stretch
room_stretch r = record { before = r.before; mid = r.mid; after = r.after; is = r.is }
