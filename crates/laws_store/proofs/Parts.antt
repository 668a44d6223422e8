-- Room for one part: it runs out where the image is short, and for a chunk that grows where the
-- image is short for that one.
use Rattle.laws_store.proofs.Words.{◌≡◌, ℕ, ◌+◌, ◌-◌, ◌<◌, Bool, true, false, cond, List, [], ◌∷◌, ◌++◌, length, get_or, set, Option, Some, None, refl, sym, ap, subst, ◌∙◌, append_assoc, arith, length-append, inl, inr, set-append_seam, eq-eqb, get_or_append_left, get_or-append_right, All-nil, All-cons, All-head, All-tail, All-get_or, All-filter, position_or_len_is, ◌↔◌, ◌==◌, ◌||◌, All, list_any, position_or_len, Chunk, free, movable, fixed, need, area_start, HeapAccepted, LiveChunk, NamedHere, chunks_of, live_under, held, is_fixed_name, stays_put, NoneStays, onto_first, runs_between, has_chunk, stretches, room_of, rooms_of, rooms, with_freed, Short, ShortFor, bytes_of, bytes_under, is_movable_as, stretch_of, KeepsStretches, Lowers, Part, makes, grows, growth_part, rooms_for, Stuck, none_some, fixed_live_is, held_finds}
use Rattle.std.proofs.lemmas.List.Folds.{list_any-append}
use Rattle.std.specs.Option.{is_some}
use Rattle.laws_heap.proofs.Exchanges.{named_beside}
use Rattle.laws_heap.proofs.Slides.{none_stays-append}
use Rattle.laws_heap.proofs.Stretches.{loose_behind, loose_front, stretch_mid, rooms_of-append, room_of-middle, freed_middle}

-- ---- the number of a stretch

abbrev Without : ℕ → List Chunk → Type 0
Without name run = list_any (is_movable_as name) run ≡ false

or_false : (a b : Bool) → (a || b) ≡ false → (a ≡ false) × (b ≡ false)
or_false false b e = (refl, e)
or_false true b e = absurd cc

runs_without : (name : ℕ) (cs : List Chunk) → Without name cs → All (Without name) (runs_between cs)
runs_without name [] e = All-cons (Without name) [] [] refl (All-nil (Without name))
runs_without name (c ∷ cs) e = by (stays_put c) (runs_without name cs (or_false _ _ e).1) where
  parts : (is_movable_as name c ≡ false) × Without name cs
  parts = or_false (is_movable_as name c) (list_any (is_movable_as name) cs) e

  onto : (runs : List (List Chunk)) → All (Without name) runs
      → All (Without name) (onto_first c runs)
  onto [] all =
      All-cons (Without name) (c ∷ []) [] (ap (λ b. b || false) parts.0) (All-nil (Without name))
  onto (run ∷ runs) all = All-cons (Without name) (c ∷ run) runs
      (ap (λ b. b || list_any (is_movable_as name) run) parts.0
      ∙ All-head (Without name) run runs all) (All-tail (Without name) run runs all)

  by : (b : Bool) → All (Without name) (runs_between cs)
      → All (Without name) (cond b ([] ∷ runs_between cs) (onto_first c (runs_between cs)))
  by true ih = All-cons (Without name) [] (runs_between cs) refl ih
  by false ih = onto (runs_between cs) ih

stretches_without : (name : ℕ) (cs : List Chunk) → Without name cs
    → All (Without name) (stretches cs)
stretches_without name cs e =
    All-filter has_chunk (Without name) (runs_between cs) (runs_without name cs e)

unnamed_without : (at : ℕ) (cs : List Chunk) (name : ℕ) → live_under at cs name ≡ None
    → Without name cs
unnamed_without at [] name e = refl
unnamed_without at (free size ∷ cs) name e = unnamed_without (at + size) cs name e
unnamed_without at (movable bytes lock owner slot ∷ cs) name e =
    passed (slot == name) _ _ e (unnamed_without (at + need (length bytes)) cs name) where
      passed : (b : Bool) (x : LiveChunk) (rest : Option LiveChunk) → cond b (Some x) rest ≡ None
          → (rest ≡ None → Without name cs) → (b || list_any (is_movable_as name) cs) ≡ false
      passed true x rest e f = absurd (none_some (Some x) x e refl)
      passed false x rest e f = f e
unnamed_without at (fixed bytes owner ∷ cs) name e = passed (is_fixed_name at owner name) _ _ e
    (unnamed_without (at + need (length bytes)) cs name) where
      passed : (b : Bool) (x : LiveChunk) (rest : Option LiveChunk) → cond b (Some x) rest ≡ None
          → (rest ≡ None → Without name cs) → list_any (is_movable_as name) cs ≡ false
      passed true x rest e f = absurd (none_some (Some x) x e refl)
      passed false x rest e f = f e

or_true : (a : Bool) → (a || true) ≡ true
or_true true = refl
or_true false = refl

-- the first run that has the name's chunk stands after those without
first_with : (name : ℕ) (pre : List (List Chunk)) (run : List Chunk) (post : List (List Chunk))
    → All (Without name) pre → list_any (is_movable_as name) run ≡ true
    → position_or_len (list_any (is_movable_as name)) (pre ++ run ∷ post) ≡ length pre
first_with name pre run post without has =
    let len = length-append pre (run ∷ post) in
    position_or_len_is (list_any (is_movable_as name)) (pre ++ run ∷ post) (length pre) []
    (omega arith)
    (λ k below. ap (list_any (is_movable_as name)) (get_or_append_left pre (run ∷ post) [] k below)
    ∙ All-get_or (Without name) pre k [] below without)
    (λ some. ap (list_any (is_movable_as name)) (get_or-append_right pre (run ∷ post) (length pre)
    (length pre) [] refl (omega arith) ∙ (let z : length pre - length pre ≡ 0 = omega arith in
    ap (λ k. get_or (run ∷ post) k []) z)) ∙ has)

length-rooms : (runs : List (List Chunk)) → length (rooms_of runs) ≡ length runs
length-rooms [] = refl
length-rooms (run ∷ runs) = let ih = length-rooms runs in omega arith

-- ---- a chunk that grows

-- the rooms around a movable chunk without locks, where it stands, and where it is free
record Around (image : List ℕ) (name : ℕ) (live : LiveChunk) : Type 0 where
  earlier : List (List Chunk)
  room : ℕ
  later : List (List Chunk)
  number : stretch_of image name ≡ length earlier
  was : rooms image ≡ rooms_of earlier ++ room ∷ rooms_of later
  freed : rooms_of (stretches (with_freed (chunks_of image) name))
      ≡ rooms_of earlier ++ (room + need (length live.bytes)) ∷ rooms_of later

around_middle : (image : List ℕ) (before : List Chunk) (name : ℕ) (bytes : List ℕ) (owner : ℕ)
    (after : List Chunk) (lock : ℕ) → HeapAccepted image
    → chunks_of image ≡ before ++ movable bytes 0 owner name ∷ after
    → Around image name (record { bytes = bytes; lock = lock; owner = owner })
around_middle image before name bytes owner after lock h e =
    let c : Chunk = movable bytes 0 owner name in
    let taken : ℕ = need (length bytes) in
    let fore = loose_front before in
    let rear = loose_behind after in
    let pre : List (List Chunk) = stretches fore.earlier in
    let post : List (List Chunk) = stretches rear.later in
    let loose : NoneStays (fore.front ++ c ∷ rear.back) =
    (none_stays-append fore.front (c ∷ rear.back)).1 (fore.loose, rear.loose) in
    let free_loose : NoneStays (fore.front ++ free taken ∷ rear.back) =
    (none_stays-append fore.front (free taken ∷ rear.back)).1 (fore.loose, rear.loose) in
    let regroup : (x : Chunk)
    → before ++ x ∷ after ≡ fore.earlier ++ ((fore.front ++ x ∷ rear.back) ++ rear.later) =
    λ x. ap (λ cs. cs ++ x ∷ after) fore.parts
    ∙ ap (λ cs. (fore.earlier ++ fore.front) ++ x ∷ cs) rear.parts
    ∙ append_assoc fore.earlier fore.front (x ∷ (rear.back ++ rear.later))
    ∙ ap (λ cs. fore.earlier ++ cs) (sym (append_assoc fore.front (x ∷ rear.back) rear.later)) in
    let runs = ap stretches (e ∙ regroup c)
    ∙ stretch_mid fore.earlier fore.front c rear.back rear.later loose fore.ends rear.begins in
    let free_runs : stretches (with_freed (chunks_of image) name)
    ≡ pre ++ (fore.front ++ free taken ∷ rear.back) ∷ post =
    ap stretches (freed_middle image before bytes 0 owner name after h e ∙ regroup (free taken))
    ∙ stretch_mid fore.earlier fore.front
    (free taken) rear.back rear.later free_loose fore.ends rear.begins in
    let beside = named_beside image before c after name
    (record { bytes = bytes; lock = 0; owner = owner }) h e (refl, refl) in
    let none : Without name fore.earlier = (or_false (list_any (is_movable_as name) fore.earlier)
    (list_any (is_movable_as name) fore.front)
    (sym (list_any-append (is_movable_as name) fore.earlier fore.front)
    ∙ ap (list_any (is_movable_as name)) (sym fore.parts)
    ∙ unnamed_without (area_start image) before name beside.front)).0 in
    let here : list_any (is_movable_as name) (fore.front ++ c ∷ rear.back) ≡ true =
    list_any-append (is_movable_as name) fore.front (c ∷ rear.back)
    ∙ ap (λ b. list_any (is_movable_as name) fore.front
    || (b || list_any (is_movable_as name) rear.back)) (eq-eqb name name refl)
    ∙ or_true (list_any (is_movable_as name) fore.front) in
    let stay = room_of-middle fore.front c rear.back in
    let go = room_of-middle fore.front (free taken) rear.back in
    let grown : room_of (fore.front ++ free taken ∷ rear.back)
    ≡ room_of (fore.front ++ c ∷ rear.back) + taken = omega arith in
    record {
      earlier = pre;
      room = room_of (fore.front ++ c ∷ rear.back);
      later = post;
      number = ap (position_or_len (list_any (is_movable_as name))) runs ∙ first_with name pre
          (fore.front ++ c ∷ rear.back) post (stretches_without name fore.earlier none) here;
      was = ap rooms_of runs ∙ rooms_of-append pre ((fore.front ++ c ∷ rear.back) ∷ post);
      freed = ap rooms_of free_runs
          ∙ rooms_of-append pre ((fore.front ++ free taken ∷ rear.back) ∷ post)
          ∙ ap (λ room. rooms_of pre ++ room ∷ rooms_of post) grown;
    }

unlocked_chunk : (name : ℕ) (live : LiveChunk) (at : ℕ) (c : Chunk) → NamedHere name live at c
    → live.lock ≡ 0 → c ≡ movable live.bytes 0 live.owner name
unlocked_chunk name live at (free size) n unlocked = absurd n
unlocked_chunk name live at (movable bytes lock owner slot) n unlocked =
    let a : bytes ≡ live.bytes = ap (λ (l : LiveChunk). l.bytes) n.1 in
    let b : lock ≡ 0 = ap (λ (l : LiveChunk). l.lock) n.1 ∙ unlocked in
    let c : owner ≡ live.owner = ap (λ (l : LiveChunk). l.owner) n.1 in
    same bytes live.bytes lock 0 owner live.owner slot name a b c n.0 where
      same : (a b : List ℕ) (c d e f g h : ℕ) → a ≡ b → c ≡ d → e ≡ f → g ≡ h
          → movable a c e g ≡ movable b d f h
      same a b c d e f g h p q r s = cc
unlocked_chunk name live at (fixed bytes owner) n unlocked =
    let e = ap (λ l. l.lock) (fixed_live_is at bytes owner n) ∙ unlocked in
    absurd (omega arith)

around : (image : List ℕ) (name : ℕ) (live : LiveChunk) → HeapAccepted image
    → held image name ≡ Some live → live.lock ≡ 0 → Around image name live
around image name live h e unlocked =
    let found = held_finds image name live h e in
    let is = unlocked_chunk name live found.at found.chunk found.finds.named unlocked in
    around_middle image found.finds.before name live.bytes live.owner found.finds.after live.lock h
    (found.finds.chunks ∙ ap (λ c. found.finds.before ++ c ∷ found.finds.after) is)

-- the rooms for a chunk that grows are those where the chunk is free
pub growth_rooms : (image : List ℕ) (name count : ℕ) (live : LiveChunk) → HeapAccepted image
    → held image name ≡ Some live → live.lock ≡ 0 → rooms_for (rooms image)
    (growth_part image name count) ≡ rooms_of (stretches (with_freed (chunks_of image) name))
unfolding bytes_under
growth_rooms image name count live h e unlocked =
    let a = around image name live h e unlocked in
    let taken : ℕ = need (length (bytes_under image name)) in
    let same : taken ≡ need (length live.bytes) = ap (λ o. need (length (bytes_of o))) e in
    let len = length-rooms a.earlier in
    let list : List ℕ = rooms_of a.earlier ++ a.room ∷ rooms_of a.later in
    let number : stretch_of image name ≡ length (rooms_of a.earlier) = a.number ∙ sym len in
    let there : get_or list (length (rooms_of a.earlier)) 0 ≡ a.room =
    get_or-append_right (rooms_of a.earlier) (a.room ∷ rooms_of a.later)
    (length (rooms_of a.earlier)) (length (rooms_of a.earlier)) 0 refl (omega arith)
    ∙ (let z : length (rooms_of a.earlier) - length (rooms_of a.earlier) ≡ 0 = omega arith in
    ap (λ k. get_or (a.room ∷ rooms_of a.later) k 0) z) in
    ap (λ left. set left (stretch_of image name) (get_or left (stretch_of image name) 0 + taken))
    a.was
    ∙ ap (λ (k : ℕ). set list k (get_or list k 0 + taken)) number
    ∙ ap (λ (room : ℕ). set list (length (rooms_of a.earlier)) (room + taken)) there
    ∙ ap (λ (size : ℕ). set list (length (rooms_of a.earlier)) (a.room + size)) same
    ∙ set-append_seam (rooms_of a.earlier) a.room (rooms_of a.later)
    (a.room + need (length live.bytes)) ∙ sym a.freed

-- ---- one part

pub one_made : (image : List ℕ) (size : ℕ)
    → (Stuck (rooms image) (makes size ∷ []) ↔ Short image size)
one_made image size = (λ s. elim s [ inl all ↦ all | inr more ↦ absurd more.2 ], λ all. inl all)

pub one_grown : (image : List ℕ) (name count : ℕ) (live : LiveChunk) → HeapAccepted image
    → held image name ≡ Some live → live.lock ≡ 0
    → (Stuck (rooms image) (growth_part image name count ∷ []) ↔ ShortFor image name (need count))
one_grown image name count live h e unlocked =
    let same = growth_rooms image name count live h e unlocked in
    let P : List ℕ → Type 0 = λ left. All (λ room. room < need count) left in (
      λ s. elim s [ inl all ↦ subst P same all | inr more ↦ absurd more.2 ],
      λ all. inl (subst P (sym same) all),
    )

-- ---- one part after another

bytes_same : (old new : List ℕ) (name : ℕ) (live : LiveChunk) → held old name ≡ Some live
    → held new name ≡ Some live → bytes_under new name ≡ bytes_under old name
unfolding bytes_under
bytes_same old new name live e f = ap bytes_of (f ∙ sym e)

-- a chunk that grows is in its old stretch, after another was made
growth_kept : (old mid : List ℕ) (name count : ℕ) (live : LiveChunk) → KeepsStretches old mid
    → held old name ≡ Some live → held mid name ≡ Some live
    → growth_part mid name count ≡ growth_part old name count
growth_kept old mid name count live kept e f =
    let stretch = kept name (ap is_some e) (ap is_some f) in
    let bytes = bytes_same old mid name live e f in
    ap (λ (number : ℕ). grows number (need (length (bytes_under mid name))) (need count)) stretch
    ∙ ap (λ (body : List ℕ). grows (stretch_of old name) (need (length body)) (need count)) bytes

-- where a chunk was made, and then there is no room for another to grow, the two parts run out of
-- room
pub made_then_short : (old mid : List ℕ) (size name count : ℕ) (live : LiveChunk) → HeapAccepted mid
    → Lowers old mid size → held old name ≡ Some live → held mid name ≡ Some live → live.lock ≡ 0
    → ShortFor mid name (need count)
    → Stuck (rooms old) (makes size ∷ growth_part old name count ∷ [])
made_then_short old mid size name count live heap lowers e f unlocked short =
    let grown = (one_grown mid name count live heap f unlocked).1 short in
    inr (
      rooms mid,
      lowers.room,
      subst (λ (part : Part). Stuck (rooms mid) (part ∷ []))
          (growth_kept old mid name count live lowers.kept e f) grown,
    )
