-- A chunk that is made lowers one room, and no other chunk changes its stretch.
use Rattle.laws_heap.proofs.Words.{◌≡◌, ◌≢◌, ℕ, zero, suc, ◌+◌, ◌-◌, ◌≤◌, Bool, false, cond, List, [], ◌∷◌, ◌++◌, length, get_or, Option, None, refl, sym, ap, subst, ◌∙◌, arith, length-append, ◌||◌, ◌==◌, not, IsSome, list_any, position_or_len, set-append_seam, nat_tests, get_or-append_right, sum_by-append, Chunk, free, movable, need, free_size, HeapAccepted, LiveChunk, held, NoneStays, stretches, room_of, rooms_of, rooms, Becomes, gap, IsSpot, Claims, SlidesOneStretch, is_movable_as, stretch_of, LowersOne, Lowers}
use Rattle.std.proofs.lemmas.List.Folds.{list_any-append}
use Rattle.laws_heap.proofs.FreeChunks.{free_sum}
use Rattle.laws_heap.proofs.Layouts.{rooms-merged}
use Rattle.laws_heap.proofs.SameLayouts.{rooms-layout, same_frame}
use Rattle.laws_heap.proofs.Exchanges.{gap_free, gap_total}
use Rattle.laws_heap.proofs.Spots.{spot_layout}
use Rattle.laws_heap.proofs.StretchNumbers.{LiveAlone, stretch_with, becomes_stretch}
use Rattle.laws_heap.proofs.SlidImages.{slides_alike}
use Rattle.laws_heap.proofs.Stretches.{stretch_between, rooms_of-append, room_of-middle}

-- ---- one of some numbers is lowered

pub lowers_one : (earlier : List ℕ) (room lower : ℕ) (later : List ℕ) (size : ℕ)
    → room ≡ lower + size → LowersOne (earlier ++ room ∷ later) (earlier ++ lower ∷ later) size
lowers_one earlier room lower later size e = record {
  stretch = length earlier;
  inside = let all = length-append earlier (room ∷ later) in omega arith;
  reaches = let is = there in omega (arith, is, e);
  lower = sym (set-append_seam earlier room later (get_or list (length earlier) 0 - size)
      ∙ ap (λ n. earlier ++ n ∷ later) (let is = there in
      let less : get_or list (length earlier) 0 - size ≡ lower = omega (arith, is, e) in less));
} where
  list : List ℕ
  list = earlier ++ room ∷ later

  there : get_or list (length earlier) 0 ≡ room
  there = get_or-append_right earlier (room ∷ later) (length earlier) (length earlier) 0 refl
      (omega arith)
      ∙ (let z : length earlier - length earlier ≡ 0 = omega arith in
      ap (λ k. get_or (room ∷ later) k 0) z)

-- ---- a free chunk among others, and a movable one without locks at its front

gap_stays : (n : ℕ) → NoneStays (gap n)
gap_stays zero = tt
gap_stays (suc n) = tt

gap_room : (n : ℕ) → room_of (gap n) ≡ n
gap_room n = free_sum (gap n) (gap_free n) ∙ gap_total n

-- the room of their stretch is lower by what the chunk takes
pub claimed_rooms : (before : List Chunk) (bytes : List ℕ) (owner slot more : ℕ)
    (after : List Chunk) → need (length bytes) ≤ more
    → LowersOne (rooms_of (stretches (before ++ free more ∷ after))) (rooms_of (stretches
    (before ++ (movable bytes 0 owner slot ∷ (gap (more - need (length bytes)) ++ after)))))
    (need (length bytes))
claimed_rooms before bytes owner slot more after fits =
    let left : ℕ = more - need (length bytes) in
    let c : Chunk = movable bytes 0 owner slot in
    let s = stretch_between before after in
    let was = ap rooms_of (s.among (free more) [] tt) ∙ rooms_of-append s.earlier _ in
    let is = ap rooms_of (s.among c (gap left) (gap_stays left)) ∙ rooms_of-append s.earlier _ in
    let one = room_of-middle s.front (free more) s.back in
    let two = room_of-middle s.front c (gap left ++ s.back) in
    let whole = sum_by-append free_size s.front s.back in
    let parts = sum_by-append free_size s.front (gap left ++ s.back) in
    let rear = sum_by-append free_size (gap left) s.back in
    let rest = gap_room left in
    let low = lowers_one (rooms_of s.earlier) (room_of (s.front ++ free more ∷ s.back))
    (room_of (s.front ++ c ∷ (gap left ++ s.back))) (rooms_of s.later) (need (length bytes))
    (omega (arith, one, two, whole, parts, rear, rest, fits)) in
    subst (λ old. LowersOne old (rooms_of (stretches (before ++ (c ∷ (gap left ++ after)))))
    (need (length bytes))) (sym was)
    (rw (← is) at low)

same_first : {A : Type 0} (test : A → Bool) (xs : List A) (x y : A) (ys : List A) → test x ≡ test y
    → position_or_len test (xs ++ x ∷ ys) ≡ position_or_len test (xs ++ y ∷ ys)
same_first test [] x y ys e = ap (λ passes. cond (not passes) (1 + position_or_len test ys) 0) e
same_first test (z ∷ xs) x y ys e =
    ap (λ n. cond (not (test z)) (1 + n) 0) (same_first test xs x y ys e)

gap_fails : (test : Chunk → Bool) (n : ℕ) (cs : List Chunk) → LiveAlone test
    → list_any test (gap n ++ cs) ≡ list_any test cs
gap_fails test zero cs live = refl
gap_fails test (suc n) cs live = ap (λ (passes : Bool). passes || list_any test cs) (live (suc n))

-- a chunk that passes a test which the new one fails is in the stretch in which it was
pub claimed_stretch : (test : Chunk → Bool) (before : List Chunk) (bytes : List ℕ)
    (owner slot more left : ℕ) (after : List Chunk) → LiveAlone test
    → test (movable bytes 0 owner slot) ≡ false
    → stretch_with test (before ++ (movable bytes 0 owner slot ∷ (gap left ++ after)))
    ≡ stretch_with test (before ++ free more ∷ after)
claimed_stretch test before bytes owner slot more left after live fails =
    let c : Chunk = movable bytes 0 owner slot in
    let s = stretch_between before after in
    let mine : list_any test (s.front ++ c ∷ (gap left ++ s.back))
    ≡ list_any test s.front || list_any test s.back =
    list_any-append test s.front (c ∷ (gap left ++ s.back))
    ∙ ap (λ passes. list_any test s.front || (passes || list_any test (gap left ++ s.back))) fails
    ∙ ap (λ passes. list_any test s.front || passes) (gap_fails test left s.back live) in
    let other : list_any test (s.front ++ free more ∷ s.back)
    ≡ list_any test s.front || list_any test s.back =
    list_any-append test s.front (free more ∷ s.back)
    ∙ ap (λ passes. list_any test s.front || (passes || list_any test s.back)) (live more) in
    ap (position_or_len (list_any test)) (s.among c (gap left) (gap_stays left))
    ∙ same_first (list_any test) s.earlier _ _ s.later (mine ∙ sym other)
    ∙ ap (position_or_len (list_any test)) (sym (s.among (free more) [] tt))

-- ---- of an image

-- a movable chunk was made at the front of room
pub claims_lower : (old new : List ℕ) (at size : ℕ) (bytes : List ℕ) (owner slot : ℕ)
    → HeapAccepted old → IsSpot old at size → need (length bytes) ≤ size
    → Claims old new at size (movable bytes 0 owner slot) → LowersOne (rooms old) (rooms new)
    (need (length bytes)) × ((name : ℕ) → name ≢ slot → stretch_of new name ≡ stretch_of old name)
claims_lower old new at size bytes owner slot h r fits claims =
    let c : Chunk = movable bytes 0 owner slot in
    let left : ℕ = size - need (length bytes) in
    let parts = spot_layout old at size (omega arith) r in
    let b : Becomes old new (r.before ++ (c ∷ (gap left ++ r.after))) = claims r in
    let was = rooms-layout old ∙ ap (λ cs. rooms_of (stretches cs)) parts
    ∙ rooms-merged (r.before ++ free size ∷ r.after) in
    let is = rooms-layout new ∙ ap (λ cs. rooms_of (stretches cs)) b.layout
    ∙ rooms-merged (r.before ++ (c ∷ (gap left ++ r.after))) in
    let same : Becomes old old (r.before ++ free size ∷ r.after) =
    record { frame = same_frame old h; layout = parts } in (
      subst (λ (rs : List ℕ). LowersOne rs (rooms new) (need (length bytes))) (sym was)
          (rw (← is) at (claimed_rooms r.before bytes owner slot size r.after (omega arith))),
      λ name apart. becomes_stretch old new (r.before ++ (c ∷ (gap left ++ r.after))) name b
          ∙ claimed_stretch (is_movable_as name) r.before bytes owner slot size left r.after (λ n.
          refl) (let other : slot ≢ name = λ e. apart (sym e) in
          let fails : (slot == name) ≡ false = grind (arith, nat_tests) in fails)
          ∙ sym (becomes_stretch old old (r.before ++ free size ∷ r.after) name same),
    )

-- one stretch has slid, and then a movable chunk was made under a name that stood for nothing
pub claimed_lowers : (old mid new : List ℕ) (at size : ℕ) (bytes : List ℕ) (owner slot : ℕ)
    → HeapAccepted old → SlidesOneStretch old mid → held old slot ≡ None → IsSpot mid at size
    → need (length bytes) ≤ size → Claims mid new at size (movable bytes 0 owner slot)
    → Lowers old new (need (length bytes))
claimed_lowers old mid new at size bytes owner slot h s none r fits claims =
    let alike = slides_alike old mid h s in
    let low = claims_lower mid new at size _ owner slot s.becomes.frame.accepted r fits claims in
    record {
      room = rw alike.room at low.0;
      kept = λ name was is. low.1 name (λ same. none_there (rw same at was)) ∙ alike.stretch name;
    } where
      nothing_some : (x : Option LiveChunk) → x ≡ None → IsSome x → ⊥
      nothing_some x e some = let no : IsSome {T = LiveChunk} None = rw e at some in absurd cc

      none_there : IsSome (held old slot) → ⊥
      none_there some = nothing_some (held old slot) none some
