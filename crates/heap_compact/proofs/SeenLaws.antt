-- The search finds the stretch of an unlocked chunk.
use Rattle.heap_compact.proofs.Words.{◌≡◌, ℕ, zero, suc, ◌+◌, ◌-◌, ◌<◌, ◌≤◌, List, [], ◌∷◌, ◌++◌, length, refl, sym, ap, subst, ◌∙◌, append_assoc, arith, IsTrue, append-nil, Chunk, free, movable, fixed, size_of, total, Spelled, SpelledAll, area_start, HeapAccepted, chunks_of, stays_put, NoneStays, EndsStaying, BeginsStaying, LiveChunk, NamedHere, header_of, size_by, HasHeader, Header, Found, IsOne, HeaderStays, IsUnlocked, IsAmongAt, SeenUpTo, none_stays-append, Spelled-size, Spelled-unique, SpelledAll-split, SpelledAll-end, SpelledAll-push, SpelledAll-rest, chunk_there, chunks_after, size_by-header_of, heap_in_parts}
use Rattle.laws_heap.proofs.FixedNames.{fixed_live_is}

-- ---- the chunk that was found

pub unlocked : (image : List ℕ) (found : Found) → IsOne image found → found.lock ≡ 0
    → IsUnlocked image (found.place.0 - 8) found.name.0 found.length
unlocked image found f none = of_chunk f.chunk f.finds.named f.finds.chunks where
  of_chunk : (c : Chunk) → NamedHere found.name.0 f.live (found.place.0 - 8) c → chunks_of image ≡ f.finds.before ++ c ∷ f.finds.after → IsUnlocked image (found.place.0 - 8) found.name.0 found.length
  of_chunk (free size) named chunks = absurd named
  of_chunk (movable bytes lock owner slot) named chunks =
      let lock_is : lock ≡ 0 = ap (λ (x : LiveChunk). x.lock) named.1 ∙ sym f.lock_is ∙ none in
      record {
        before = f.finds.before;
        bytes = bytes;
        owner = owner;
        after = f.finds.after;
        chunks = chunks ∙ ap (λ n. f.finds.before ++ movable bytes n owner slot ∷ f.finds.after) lock_is ∙ ap (λ n. f.finds.before ++ movable bytes 0 owner n ∷ f.finds.after) named.0;
        there = f.finds.there;
        many = f.count ∙ sym (ap (λ (x : LiveChunk). length x.bytes) named.1);
      }
  of_chunk _ named chunks = let lock_is = ap (λ x. x.lock) (fixed_live_is _ _ _ named) ∙ sym f.lock_is ∙ none in absurd (omega (arith, lock_is))

-- ---- chunks that stay

pub header_stay : (c : Chunk) → HeaderStays (header_of c) → IsTrue (stays_put c)
header_stay (free size) s = absurd s
header_stay (movable bytes zero owner slot) s = absurd (omega (arith, s))
header_stay (movable bytes (suc count) owner slot) s = refl
header_stay (fixed bytes owner) s = refl

pub header_goes : (c : Chunk) → (HeaderStays (header_of c) → ⊥) → NoneStays (c ∷ [])
header_goes (free size) s = tt
header_goes (movable bytes zero owner slot) s = tt
header_goes (movable bytes (suc count) owner slot) s = absurd (s (let some : 0 < suc count = omega arith in some))
header_goes (fixed bytes owner) s = absurd (s tt)

pub ends_push : (xs : List Chunk) (c : Chunk) → IsTrue (stays_put c) → EndsStaying (xs ++ c ∷ [])
ends_push [] c s = s
ends_push (d ∷ []) c s = s
ends_push (d ∷ e ∷ xs) c s = ends_push (e ∷ xs) c s

-- the chunk at the offset, and those in front of it
pub unlocked_there : {image : List ℕ} {at name count : ℕ} → HeapAccepted image → (u : IsUnlocked image at name count) → SpelledAll image (area_start image) u.before at × Spelled image at (movable u.bytes 0 u.owner name)
unlocked_there {image} {name} h u =
    let heap = heap_in_parts _ _ h u.chunks in
    let parts = SpelledAll-split image _ u.before _ (length image) heap.tiles.area in
    (rw (← u.there) at parts.0, rw (← u.there) at parts.1.0)

pub seen_start : {image : List ℕ} {at name count start : ℕ} → HeapAccepted image
    → IsUnlocked image at name count → start ≡ area_start image → SeenUpTo image at start start
seen_start h u e =
    let fits = h.1.tiles.head.a_chunk_fits in
    record { closed = []; run = []; spelled = sym e; none_stays = tt; ends = tt; from = omega (arith, e); low = omega (arith, u.there, e); inside = omega (arith, fits, e) }

pub seen_chunk : {image : List ℕ} {at start here : ℕ} → HeapAccepted image
    → SeenUpTo image at start here → here < length image → (c : Chunk) × Spelled image here c
seen_chunk {here} h s more = chunk_there _ _ (s.closed ++ s.run) here h.1.tiles s.spelled more

pub seen_size : {image : List ℕ} {here size : ℕ} {header : Header} → HasHeader image here header
    → size ≡ size_by header → (8 ≤ size) × (here + size ≤ length image)
seen_size {image} {here} f e =
    let s = Spelled-size image here f.chunk f.spelled in
    let same = e ∙ ap size_by f.header_is ∙ size_by-header_of f.chunk in
    (omega (arith, s.0, same), omega (arith, s.1, same))

unfoldable pub seen_more : (image : List ℕ) (at start here size : ℕ) (header : Header) → SeenUpTo image at start here → HasHeader image here header → size ≡ size_by header → (HeaderStays header → ⊥) → SeenUpTo image at start (here + size)
seen_more image at start here size header s f e goes =
    let same : size ≡ size_of f.chunk = e ∙ ap size_by f.header_is ∙ size_by-header_of f.chunk in
    let next : here + size ≡ here + size_of f.chunk = ap (λ (n : ℕ). here + n) same in record {
      closed = s.closed;
      run = s.run ++ f.chunk ∷ [];
      spelled = rw (append_assoc s.closed s.run (f.chunk ∷ [])) at (SpelledAll-push image (area_start image) (s.closed ++ s.run) here f.chunk _ s.spelled f.spelled next);
      none_stays = (none_stays-append s.run (f.chunk ∷ [])).1
          (s.none_stays, header_goes f.chunk (λ k. goes (subst HeaderStays (sym f.header_is) k)));
      ends = s.ends;
      from = s.from;
      low = s.low;
      inside = (seen_size f e).1;
    }

-- what stays at an offset in front of the chunk ends in front of it
ends_before : (image : List ℕ) (here at : ℕ) (c v : Chunk) (rest : List Chunk) → SpelledAll image here rest at → Spelled image here c → Spelled image at v → IsTrue (stays_put c) → (IsTrue (stays_put v) → ⊥) → here + size_of c ≤ at
ends_before image here at c v [] s p q stay goes =
    let one : c ≡ v = Spelled-unique image at c v (subst (λ (n : ℕ). Spelled image n c) s p) q in
    absurd (goes (subst (λ (x : Chunk). IsTrue (stays_put x)) one stay))
ends_before image here at c v (d ∷ rest) s p q stay goes =
    let last = SpelledAll-end image (here + size_of d) rest at s.1 in
    omega (arith, ap size_of (Spelled-unique image here d c s.0 p), last)

-- after one that stays
unfoldable pub seen_closed : (image : List ℕ) (at later start here size : ℕ) (header : Header) → SeenUpTo image at start here → HasHeader image here header → size ≡ size_by header → HeaderStays header → here + size ≤ later → SeenUpTo image later (here + size) (here + size)
seen_closed image at later start here size header s f e stay low =
    let same : size ≡ size_of f.chunk = e ∙ ap size_by f.header_is ∙ size_by-header_of f.chunk in
    let next : here + size ≡ here + size_of f.chunk = ap (λ (n : ℕ). here + n) same in
    let all = SpelledAll-push image (area_start image) (s.closed ++ s.run) here f.chunk _ s.spelled f.spelled next in
    let last = SpelledAll-end image (area_start image) ((s.closed ++ s.run) ++ f.chunk ∷ []) (here + size) all in
    record {
      closed = (s.closed ++ s.run) ++ f.chunk ∷ [];
      run = [];
      spelled = rw (← (append-nil ((s.closed ++ s.run) ++ f.chunk ∷ []))) at all;
      none_stays = tt;
      ends = ends_push (s.closed ++ s.run) f.chunk (header_stay f.chunk (subst HeaderStays f.header_is stay));
      from = last;
      low = low;
      inside = (seen_size f e).1;
    }

-- ---- the stretch is found

found_back : (image : List ℕ) (at here : ℕ) (v : Chunk) {run : List Chunk} (front rest : List Chunk) → run ≡ front ++ rest → SpelledAll image at rest here → Spelled image at v → at < here → (back : List Chunk) × (run ≡ front ++ v ∷ back)
found_back image at here v front [] e s p low = absurd (omega (arith, s, low))
found_back image at here v front (d ∷ rest) e s p low = (rest, e ∙ ap (λ x. front ++ x ∷ rest) (Spelled-unique _ at d v s.0 p))

pub begins_there : (image : List ℕ) (here : ℕ) (c : Chunk) (after : List Chunk) → SpelledAll image here after (length image) → Spelled image here c → IsTrue (stays_put c) → BeginsStaying after
begins_there image here c [] s p stay = tt
begins_there image here c (d ∷ after) s p stay = rw (Spelled-unique image here c d p s.0) at stay

pub nothing_after : (image : List ℕ) (here : ℕ) (after : List Chunk)
    → SpelledAll image here after (length image) → length image ≤ here → after ≡ []
nothing_after image here [] s past = refl
nothing_after image here (d ∷ after) s past = let size = Spelled-size _ here d s.0 in absurd (omega (arith, size.0, size.1, past))

pub none_there : (image : List ℕ) (here : ℕ) (after : List Chunk)
    → SpelledAll image here after (length image) → length image ≤ here → BeginsStaying after
none_there image here after s past = subst BeginsStaying (sym (nothing_after _ here _ s past)) tt

module _ {image : List ℕ} {at name count start here : ℕ} (h : HeapAccepted image) (u : IsUnlocked image at name count) (s : SeenUpTo image at start here) where
  open s use {closed, run}

  abbrev v : Chunk
  v = movable u.bytes 0 u.owner name

  pub seen_stay : {size : ℕ} {header : Header} → HasHeader image here header → size ≡ size_by header
      → HeaderStays header → here ≤ at → SeenUpTo image at (here + size) (here + size)
  seen_stay {size} {header} f e stay low =
      let same : size ≡ size_of f.chunk = e ∙ ap size_by f.header_is ∙ size_by-header_of f.chunk in
      let stay_c = header_stay f.chunk (subst HeaderStays f.header_is stay) in
      let t = unlocked_there h u in let rest = SpelledAll-rest _ _ _ _ here at s.spelled t.0 low in
      let fits = ends_before image here at f.chunk v rest.0 rest.2 f.spelled t.1 stay_c (λ k. cc) in
      seen_closed image at at start here size header s f e stay (omega (arith, fits, same))

  -- the run has the chunk, with some in front of it and some after it
  around : (after : List Chunk) → at < here → chunks_of image ≡ (closed ++ run) ++ after
      → BeginsStaying after → IsAmongAt image at name count (record { start = start; end = here })
  around after low chunks begins =
      let begin : ℕ = area_start image + total closed in let t = unlocked_there h u in
      let parts = SpelledAll-split image (area_start image) closed run here s.spelled in
      let front = SpelledAll-rest image _ _ _ begin at parts.0 t.0 (omega (arith, s.from, s.low)) in
      let rest = SpelledAll-rest image begin front.0 run at here front.2 parts.1 (omega (arith, low)) in
      let back = found_back image at here v front.0 rest.0 rest.1 rest.2 t.1 low in record {
        before = closed;
        front = front.0;
        bytes = u.bytes;
        owner = u.owner;
        back = back.0;
        after = after;
        is = record {
          whole = record { chunks = chunks ∙ append_assoc closed run after ∙ ap (λ (cs : List Chunk). closed ++ (cs ++ after)) back.1; none_stays = subst NoneStays back.1 s.none_stays; in_front = s.ends; behind = begins };
          from = s.from;
          to = omega (arith, SpelledAll-end image begin run here parts.1, s.from, ap total back.1);
        };
        there = SpelledAll-end image begin front.0 at front.2;
        many = u.many;
      }

  others : (after : List Chunk) × (chunks_of image ≡ (closed ++ run) ++ after) × SpelledAll image here after (length image)
  others = chunks_after _ _ (closed ++ run) here h.1.tiles s.spelled s.inside

  pub seen_found : {header : Header} → HasHeader image here header → HeaderStays header → at < here
      → IsAmongAt image at name count (record { start = start; end = here })
  seen_found f stay low =
      around _ low others.1 (begins_there _ here _ _ others.2 f.spelled (header_stay _ (subst HeaderStays f.header_is stay)))

  pub seen_all : length image ≤ here
      → IsAmongAt image at name count (record { start = start; end = here })
  seen_all past =
      let size = Spelled-size image at v (unlocked_there h u).1 in
      around _ (omega (arith, size.0, size.1, past)) others.1 (none_there _ here _ others.2 past)
