-- One stretch of an image: it is one of those that the chunks have, it is one alone around a chunk,
-- and its room is told apart from the others.
use Rattle.laws_heap.proofs.Words.{◌≡◌, ℕ, zero, suc, ◌+◌, ◌<◌, Bool, true, false, cond, List, [], ◌∷◌, ◌++◌, length, Option, Some, None, refl, sym, ap, subst, ◌∙◌, append_assoc, arith, All, ◌↔◌, ◌==◌, IsTrue, filter, eq-eqb, All-nil, All-cons, All-head, All-tail, All-append, filter-append, sum_by-cons, sum_by-append, Chunk, free, movable, fixed, need, total, free_size, SpelledAll, area_start, HeapAccepted, LiveChunk, chunks_of, live_under, stays_put, NoneStays, onto_first, runs_between, has_chunk, stretches, room_of, rooms_of, rooms, with_freed, Short, ShortFor, EndsStaying, BeginsStaying, WholeStretch}
use Rattle.std.proofs.Common.{append-nil}
use Rattle.laws_heap.proofs.Tests.{cond-true, none_some}
use Rattle.laws_heap.proofs.Chunks.{total-append, SpelledAll-split, SpelledAll-unique}
use Rattle.laws_heap.proofs.FoundChunks.{read_heap}
use Rattle.laws_heap.proofs.Exchanges.{named_beside}
use Rattle.laws_heap.proofs.Packings.{no_true}
use Rattle.laws_heap.proofs.Slides.{none_stays-append}

-- ---- a whole stretch is one of the stretches

-- the runs of chunks that end with one that stays, before any others
record Closed (cs : List Chunk) : Type 0 where
  first : List Chunk
  others : List (List Chunk)
  before : (ds : List Chunk) → runs_between (cs ++ ds) ≡ (first ∷ others) ++ runs_between ds

one_closed : (c : Chunk) → IsTrue (stays_put c) → Closed (c ∷ [])
one_closed (free size) s = absurd (no_true s)
one_closed (movable bytes zero owner slot) s = absurd (no_true s)
one_closed (movable bytes (suc count) owner slot) s =
    record { first = []; others = []; before = λ ds. refl }
one_closed (fixed bytes owner) s = record { first = []; others = []; before = λ ds. refl }

more_closed : (c d : Chunk) (cs : List Chunk) → Closed (d ∷ cs) → Closed (c ∷ d ∷ cs)
more_closed (free size) d cs k = record {
  first = free size ∷ k.first;
  others = k.others;
  before = λ ds. ap (onto_first (free size)) (k.before ds);
}
more_closed (movable bytes zero owner slot) d cs k = record {
  first = movable bytes 0 owner slot ∷ k.first;
  others = k.others;
  before = λ ds. ap (onto_first (movable bytes 0 owner slot)) (k.before ds);
}
more_closed (movable bytes (suc count) owner slot) d cs k = record {
  first = [];
  others = k.first ∷ k.others;
  before = λ ds. ap (λ (runs : List (List Chunk)). [] ∷ runs) (k.before ds);
}
more_closed (fixed bytes owner) d cs k = record {
  first = [];
  others = k.first ∷ k.others;
  before = λ ds. ap (λ (runs : List (List Chunk)). [] ∷ runs) (k.before ds);
}

closed : (c : Chunk) (cs : List Chunk) → EndsStaying (c ∷ cs) → Closed (c ∷ cs)
closed c [] e = one_closed c e
closed c (d ∷ cs) e = more_closed c d cs (closed d cs e)

-- the stretches of chunks after one that stays are told apart
pub stretches_behind : (before cs : List Chunk) → EndsStaying before
    → stretches (before ++ cs) ≡ stretches before ++ stretches cs
stretches_behind [] cs e = refl
stretches_behind (c ∷ before) cs e =
    let k = closed c before e in
    let none : filter has_chunk (k.first ∷ k.others) ≡ stretches (c ∷ before) =
    sym (ap (filter has_chunk) (sym (ap runs_between (append-nil (c ∷ before))) ∙ k.before [])
    ∙ filter-append has_chunk (k.first ∷ k.others) ([] ∷ [])
    ∙ append-nil (filter has_chunk (k.first ∷ k.others))) in
    ap (filter has_chunk) (k.before cs)
    ∙ filter-append has_chunk (k.first ∷ k.others) (runs_between cs)
    ∙ ap (λ (runs : List (List Chunk)). runs ++ stretches cs) none

onto_run : (c : Chunk) (cs : List Chunk) (runs : List (List Chunk)) (ds : List Chunk)
    → NoneStays (c ∷ cs) → runs_between ds ≡ cs ∷ runs → runs_between (c ∷ ds) ≡ (c ∷ cs) ∷ runs
onto_run (free size) cs runs ds n e = ap (onto_first (free size)) e
onto_run (movable bytes zero owner slot) cs runs ds n e =
    ap (onto_first (movable bytes 0 owner slot)) e
onto_run (movable bytes (suc count) owner slot) cs runs ds n e = absurd n
onto_run (fixed bytes owner) cs runs ds n e = absurd n

none_stays-tail : (c : Chunk) (cs : List Chunk) → NoneStays (c ∷ cs) → NoneStays cs
none_stays-tail (free size) cs n = n
none_stays-tail (movable bytes zero owner slot) cs n = n
none_stays-tail (movable bytes (suc count) owner slot) cs n = absurd n
none_stays-tail (fixed bytes owner) cs n = absurd n

-- before chunks that begin with one that stays a run ends
record Opened (cs : List Chunk) : Type 0 where
  runs : List (List Chunk)
  is : runs_between cs ≡ [] ∷ runs

begun : (cs : List Chunk) → BeginsStaying cs → Opened cs
begun [] s = record { runs = []; is = refl }
begun (free size ∷ cs) s = absurd (no_true s)
begun (movable bytes zero owner slot ∷ cs) s = absurd (no_true s)
begun (movable bytes (suc count) owner slot ∷ cs) s = record { runs = runs_between cs; is = refl }
begun (fixed bytes owner ∷ cs) s = record { runs = runs_between cs; is = refl }

pub run_then : (cs after : List Chunk) (runs : List (List Chunk)) → NoneStays cs
    → runs_between after ≡ [] ∷ runs → runs_between (cs ++ after) ≡ cs ∷ runs
run_then [] after runs n e = e
run_then (c ∷ cs) after runs n e =
    onto_run c cs runs (cs ++ after) n (run_then cs after runs (none_stays-tail c cs n) e)

-- chunks that are a whole stretch, among those of the list
pub stretch_among : (before : List Chunk) (c : Chunk) (cs after : List Chunk) → NoneStays (c ∷ cs)
    → EndsStaying before → BeginsStaying after
    → stretches (before ++ ((c ∷ cs) ++ after)) ≡ stretches before ++ (c ∷ cs) ∷ stretches after
stretch_among before c cs after n in_front behind =
    let o = begun after behind in
    stretches_behind before ((c ∷ cs) ++ after) in_front
    ∙ ap (λ (runs : List (List Chunk)). stretches before ++ filter has_chunk runs) (run_then
    (c ∷ cs) after o.runs n o.is)
    ∙ ap (λ (runs : List (List Chunk)). stretches before ++ (c ∷ cs) ∷ filter has_chunk runs)
    (sym o.is)

-- ---- the stretch around any chunks of which none stays

none_stays-cons : (c : Chunk) (cs : List Chunk) → stays_put c ≡ false → NoneStays cs
    → NoneStays (c ∷ cs)
none_stays-cons (free size) cs e n = n
none_stays-cons (movable bytes zero owner slot) cs e n = n
none_stays-cons (movable bytes (suc count) owner slot) cs e n = absurd cc
none_stays-cons (fixed bytes owner) cs e n = absurd cc

-- the chunks up to the first that stays, and those from it on
pub record LooseBehind (cs : List Chunk) : Type 0 where
  pub back : List Chunk
  pub later : List Chunk
  pub parts : cs ≡ back ++ later
  pub loose : NoneStays back
  pub begins : BeginsStaying later

pub loose_behind : (cs : List Chunk) → LooseBehind cs
loose_behind [] = record { back = []; later = []; parts = refl; loose = tt; begins = tt }
loose_behind (c ∷ cs) = by (stays_put c) refl (loose_behind cs) where
  by : (b : Bool) → stays_put c ≡ b → LooseBehind cs → LooseBehind (c ∷ cs)
  by true e rest = record { back = []; later = c ∷ cs; parts = refl; loose = tt; begins = e }
  by false e rest = record {
    back = c ∷ rest.back;
    later = rest.later;
    parts = ap (λ ds. c ∷ ds) rest.parts;
    loose = none_stays-cons c rest.back e rest.loose;
    begins = rest.begins;
  }

-- the chunks after the last that stays, and those up to it
pub record LooseFront (cs : List Chunk) : Type 0 where
  pub earlier : List Chunk
  pub front : List Chunk
  pub parts : cs ≡ earlier ++ front
  pub loose : NoneStays front
  pub ends : EndsStaying earlier

pub loose_front : (cs : List Chunk) → LooseFront cs
loose_front [] = record { earlier = []; front = []; parts = refl; loose = tt; ends = tt }
loose_front (c ∷ cs) = by (loose_front cs) where
  first : (b : Bool) → stays_put c ≡ b → (front : List Chunk) → cs ≡ front → NoneStays front
      → LooseFront (c ∷ cs)
  first true e front parts loose = record {
    earlier = c ∷ [];
    front = front;
    parts = ap (λ ds. c ∷ ds) parts;
    loose = loose;
    ends = e;
  }
  first false e front parts loose = record {
    earlier = [];
    front = c ∷ front;
    parts = ap (λ ds. c ∷ ds) parts;
    loose = none_stays-cons c front e loose;
    ends = tt;
  }

  more : (earlier front : List Chunk) → cs ≡ earlier ++ front → NoneStays front
      → EndsStaying earlier → LooseFront (c ∷ cs)
  more [] front parts loose ends = first (stays_put c) refl front parts loose
  more (d ∷ earlier) front parts loose ends = record {
    earlier = c ∷ d ∷ earlier;
    front = front;
    parts = ap (λ ds. c ∷ ds) parts;
    loose = loose;
    ends = ends;
  }

  by : LooseFront cs → LooseFront (c ∷ cs)
  by rest = more rest.earlier rest.front rest.parts rest.loose rest.ends

-- chunks that are a whole stretch, one of which is given
pub stretch_mid : (before front : List Chunk) (c : Chunk) (back after : List Chunk)
    → NoneStays (front ++ c ∷ back) → EndsStaying before → BeginsStaying after → stretches (before
    ++ ((front ++ c ∷ back) ++ after)) ≡ stretches before ++ (front ++ c ∷ back) ∷ stretches after
stretch_mid before [] c back after n ends begins = stretch_among before c back after n ends begins
stretch_mid before (d ∷ front) c back after n ends begins =
    stretch_among before d (front ++ c ∷ back) after n ends begins

-- Whatever stands between these chunks, if it is some chunks of which none stays, is in one
-- stretch; the other stretches are the same.
pub record StretchBetween (before after : List Chunk) : Type 0 where
  pub earlier : List (List Chunk)
  pub front : List Chunk
  pub back : List Chunk
  pub later : List (List Chunk)
  pub among : (c : Chunk) (cs : List Chunk) → NoneStays (c ∷ cs)
      → stretches (before ++ ((c ∷ cs) ++ after)) ≡ earlier ++ (front ++ ((c ∷ cs) ++ back)) ∷ later

pub stretch_between : (before after : List Chunk) → StretchBetween before after
stretch_between before after =
    let fore = loose_front before in
    let rear = loose_behind after in
    record {
      earlier = stretches fore.earlier;
      front = fore.front;
      back = rear.back;
      later = stretches rear.later;
      among = λ c cs n.
          let mid : List Chunk = (c ∷ cs) ++ rear.back in
          let loose : NoneStays (fore.front ++ mid) = (none_stays-append fore.front mid).1
          (fore.loose, (none_stays-append (c ∷ cs) rear.back).1 (n, rear.loose)) in
          ap (λ (ds : List Chunk). stretches (ds ++ ((c ∷ cs) ++ after))) fore.parts
          ∙ ap (λ ds. stretches ((fore.earlier ++ fore.front) ++ ((c ∷ cs) ++ ds))) rear.parts
          ∙ ap (λ ds. stretches ((fore.earlier ++ fore.front) ++ ds)) (sym
          (append_assoc (c ∷ cs) rear.back rear.later))
          ∙ ap stretches (append_assoc fore.earlier fore.front (mid ++ rear.later))
          ∙ ap (λ ds. stretches (fore.earlier ++ ds)) (sym (append_assoc fore.front mid rear.later))
          ∙ stretch_mid fore.earlier fore.front c
          (cs ++ rear.back) rear.later loose fore.ends rear.begins;
    }

-- ---- the stretch around a chunk is one alone

no_stay : (c : Chunk) (cs : List Chunk) → NoneStays (c ∷ cs) → IsTrue (stays_put c) → ⊥
no_stay (free size) cs n s = no_true s
no_stay (movable bytes zero owner slot) cs n s = no_true s
no_stay (movable bytes (suc count) owner slot) cs n s = n
no_stay (fixed bytes owner) cs n s = n

-- chunks of which none stays don't begin with some that end with one that does
no_end : (c : Chunk) (cs after : List Chunk) → NoneStays ((c ∷ cs) ++ after) → EndsStaying (c ∷ cs)
    → ⊥
no_end c [] after n e = no_stay c after n e
no_end c (d ∷ cs) after n e = no_end d cs after (none_stays-tail c ((d ∷ cs) ++ after) n) e

ends_rest : (c : Chunk) (cs : List Chunk) → EndsStaying (c ∷ cs) → EndsStaying cs
ends_rest c [] e = tt
ends_rest c (d ∷ cs) e = e

pub heads : {c d : Chunk} {xs ys : List Chunk} → c ∷ xs ≡ d ∷ ys → (c ≡ d) × (xs ≡ ys)
heads e = (cc, cc)

fronts_same : (xs ys fs gs : List Chunk) → xs ++ fs ≡ ys ++ gs → NoneStays fs → NoneStays gs
    → EndsStaying xs → EndsStaying ys → (xs ≡ ys) × (fs ≡ gs)
fronts_same [] [] fs gs e f g a b = (refl, e)
fronts_same [] (d ∷ ys) fs gs e f g a b = absurd (no_end d ys gs (subst NoneStays e f) b)
fronts_same (c ∷ xs) [] fs gs e f g a b = absurd (no_end c xs fs (subst NoneStays (sym e) g) a)
fronts_same (c ∷ xs) (d ∷ ys) fs gs e f g a b =
    let t = heads e in
    let first = t.0 in
    let rest = fronts_same xs ys fs gs t.1 f g (ends_rest c xs a) (ends_rest d ys b) in
    let same = rest.0 in
    (cc, rest.1)

backs_same : (xs ys fs gs : List Chunk) → xs ++ fs ≡ ys ++ gs → NoneStays xs → NoneStays ys
    → BeginsStaying fs → BeginsStaying gs → (xs ≡ ys) × (fs ≡ gs)
backs_same [] [] fs gs e a b f g = (refl, e)
backs_same [] (d ∷ ys) fs gs e a b f g = absurd (no_stay d ys b (subst BeginsStaying e f))
backs_same (c ∷ xs) [] fs gs e a b f g = absurd (no_stay c xs a (subst BeginsStaying (sym e) g))
backs_same (c ∷ xs) (d ∷ ys) fs gs e a b f g =
    let t = heads e in
    let first = t.0 in
    let rest = backs_same xs ys fs gs t.1 (none_stays-tail c xs a) (none_stays-tail d ys b) f g in
    let same = rest.0 in
    (cc, rest.1)

-- the chunks before an offset in a whole stretch, and those from it on
parted : (image : List ℕ) (before front : List Chunk) (c : Chunk) (back after : List Chunk) (at : ℕ)
    → HeapAccepted image → WholeStretch image before (front ++ c ∷ back) after
    → at ≡ area_start image + total before + total front → SpelledAll image (area_start image)
    (before ++ front) at × SpelledAll image at ((c ∷ back) ++ after) (length image)
parted image before front c back after at h w e =
    let both = total-append before front in
    let cs = w.chunks ∙ ap (λ ds. before ++ ds) (append_assoc front (c ∷ back) after)
    ∙ sym (append_assoc before front ((c ∷ back) ++ after)) in
    let area = rw cs at (read_heap image h).tiles.area in
    let parts = SpelledAll-split image (area_start image) (before ++ front) _ (length image) area in
    let there : area_start image + total (before ++ front) ≡ at = omega (arith, both, e) in
    (rw there at parts.0, rw there at parts.1)

-- two lists that are cut alike
pub record CutAlike (before front : List Chunk) (c : Chunk) (back after others fore : List Chunk) (d : Chunk) (rear later : List Chunk) : Type 0 where
  pub in_front : before ≡ others
  pub first_part : front ≡ fore
  pub rest : c ∷ back ≡ d ∷ rear
  pub behind : after ≡ later

pub one_stretch : (image : List ℕ) (before front : List Chunk) (c : Chunk)
    (back after others fore : List Chunk) (d : Chunk) (rear later : List Chunk) (at : ℕ)
    → HeapAccepted image → WholeStretch image before (front ++ c ∷ back) after
    → at ≡ area_start image + total before + total front
    → WholeStretch image others (fore ++ d ∷ rear) later
    → at ≡ area_start image + total others + total fore
    → CutAlike before front c back after others fore d rear later
one_stretch image before front c back after others fore d rear later at h one here two there =
    let x = parted image before front c back after at h one here in
    let y = parted image others fore d rear later at h two there in
    let p = (none_stays-append front (c ∷ back)).0 one.none_stays in
    let q = (none_stays-append fore (d ∷ rear)).0 two.none_stays in
    let fronts = fronts_same before others front fore (SpelledAll-unique image (area_start image)
    (before ++ front) (others ++ fore) at x.0 y.0) p.0 q.0 one.in_front two.in_front in
    let backs = backs_same (c ∷ back) (d ∷ rear) after later (SpelledAll-unique image at ((c ∷ back)
    ++ after) ((d ∷ rear) ++ later) (length image) x.1 y.1) p.1 q.1 one.behind two.behind in
    record { in_front = fronts.0; first_part = fronts.1; rest = backs.0; behind = backs.1 }

-- ---- rooms

pub rooms_of-append : (xs ys : List (List Chunk)) → rooms_of (xs ++ ys) ≡ rooms_of xs ++ rooms_of ys
rooms_of-append [] ys = refl
rooms_of-append (run ∷ xs) ys = ap (λ (rs : List ℕ). room_of run ∷ rs) (rooms_of-append xs ys)

-- the room of a whole stretch, among the rooms of the list
pub room_among : (before : List Chunk) (c : Chunk) (cs after : List Chunk) → NoneStays (c ∷ cs)
    → EndsStaying before → BeginsStaying after
    → rooms_of (stretches (before ++ ((c ∷ cs) ++ after)))
    ≡ rooms_of (stretches before) ++ room_of (c ∷ cs) ∷ rooms_of (stretches after)
room_among before c cs after n in_front behind =
    ap rooms_of (stretch_among before c cs after n in_front behind)
    ∙ rooms_of-append (stretches before) ((c ∷ cs) ∷ stretches after)

pub All-back : (P : ℕ → Type 0) (xs ys : List ℕ) → All P (xs ++ ys) → All P ys
All-back P [] ys h = h
All-back P (x ∷ xs) ys h = All-back P xs ys (All-tail P x (xs ++ ys) h)

All-front : (P : ℕ → Type 0) (xs ys : List ℕ) → All P (xs ++ ys) → All P xs
All-front P [] ys h = All-nil P
All-front P (x ∷ xs) ys h =
    All-cons P x xs (All-head P x (xs ++ ys) h) (All-front P xs ys (All-tail P x (xs ++ ys) h))

-- more room in one of them
short_one : (size room more : ℕ) (front back : List ℕ)
    → All (λ k. k < size) (front ++ (room + more) ∷ back)
    ↔ (All (λ k. k < size) (front ++ room ∷ back) × (room + more < size))
short_one size room more front back =
    let P : ℕ → Type 0 = λ k. k < size in (
      λ h.
          let tail = All-back P front ((room + more) ∷ back) h in
          let low : room + more < size = All-head P (room + more) back tail in (
            All-append P front (room ∷ back) (All-front P front ((room + more) ∷ back) h)
                (All-cons P room back (omega arith) (All-tail P (room + more) back tail)),
            low,
          ),
      λ h.
          let tail = All-back P front (room ∷ back) h.0 in
          All-append P front ((room + more) ∷ back) (All-front P front (room ∷ back) h.0)
          (All-cons P (room + more) back h.1 (All-tail P room back tail)),
    )

-- ---- a name's own size counts as room

freed_none : (at : ℕ) (cs : List Chunk) (name : ℕ) → live_under at cs name ≡ None
    → with_freed cs name ≡ cs
freed_none at [] name e = refl
freed_none at (free size ∷ cs) name e = ap (λ ds. free size ∷ ds) (freed_none (at + size) cs name e)
freed_none at (movable bytes lock owner slot ∷ cs) name e =
    passed (slot == name) _ _ e (freed_none (at + need (length bytes)) cs name) where
      passed : (b : Bool) (x : LiveChunk) (rest : Option LiveChunk) → cond b (Some x) rest ≡ None
          → (rest ≡ None → with_freed cs name ≡ cs) → cond b (free (need (length bytes)))
          (movable bytes lock owner slot) ∷ with_freed cs name ≡ movable bytes lock owner slot ∷ cs
      passed true x rest e f = absurd (none_some (Some x) x e refl)
      passed false x rest e f = ap (λ (ds : List Chunk). movable bytes lock owner slot ∷ ds) (f e)
freed_none at (fixed bytes owner ∷ cs) name e = passed _ _ _ e (freed_none _ cs name) where
  passed : (b : Bool) (x : LiveChunk) (rest : Option LiveChunk) → cond b (Some x) rest ≡ None
      → (rest ≡ None → with_freed cs name ≡ cs)
      → fixed bytes owner ∷ with_freed cs name ≡ fixed bytes owner ∷ cs
  passed true x rest e f = absurd (none_some (Some x) x e refl)
  passed false x rest e f = ap (λ (ds : List Chunk). fixed bytes owner ∷ ds) (f e)

pub with_freed-append : (xs ys : List Chunk) (name : ℕ)
    → with_freed (xs ++ ys) name ≡ with_freed xs name ++ with_freed ys name
with_freed-append [] ys name = refl
with_freed-append (free size ∷ xs) ys name =
    ap (λ cs. free size ∷ cs) (with_freed-append xs ys name)
with_freed-append (movable bytes lock owner slot ∷ xs) ys name =
    ap (λ cs. cond (slot == name) (free (need (length bytes))) (movable bytes lock owner slot) ∷ cs)
    (with_freed-append xs ys name)
with_freed-append (fixed bytes owner ∷ xs) ys name =
    ap (λ cs. fixed bytes owner ∷ cs) (with_freed-append xs ys name)

pub room_of-middle : (front : List Chunk) (c : Chunk) (back : List Chunk)
    → room_of (front ++ c ∷ back) ≡ room_of (front ++ back) + free_size c
room_of-middle front c back =
    let one = sum_by-append free_size front (c ∷ back) in
    let two = sum_by-append free_size front back in
    let three = sum_by-cons free_size c back in
    omega arith

-- the chunks with a movable one of theirs freed
pub freed_middle : (image : List ℕ) (before : List Chunk) (bytes : List ℕ) (lock owner slot : ℕ)
    (after : List Chunk) → HeapAccepted image
    → chunks_of image ≡ before ++ movable bytes lock owner slot ∷ after
    → with_freed (chunks_of image) slot ≡ before ++ free (need (length bytes)) ∷ after
freed_middle image before bytes lock owner slot after h e =
    let start : ℕ = area_start image in
    let beside = named_beside image before _ after slot _ h e (refl, refl) in
    ap (λ (cs : List Chunk). with_freed cs slot) e
    ∙ with_freed-append before (movable bytes lock owner slot ∷ after) slot
    ∙ ap (λ cs. cs ++ with_freed (movable bytes lock owner slot ∷ after) slot)
    (freed_none start before slot beside.front)
    ∙ ap (λ c. before ++ c ∷ with_freed after slot) (cond-true (slot == slot)
    (free (need (length bytes))) (movable bytes lock owner slot) (eq-eqb slot slot refl))
    ∙ ap (λ cs. before ++ free (need (length bytes)) ∷ cs) (freed_none _ after slot beside.back)

among : (before front : List Chunk) (c : Chunk) (back after : List Chunk)
    → NoneStays (front ++ c ∷ back) → EndsStaying before → BeginsStaying after
    → rooms_of (stretches (before ++ ((front ++ c ∷ back) ++ after))) ≡ rooms_of (stretches before)
    ++ (room_of (front ++ back) + free_size c) ∷ rooms_of (stretches after)
among before [] c back after n in_front behind = room_among before c back after n in_front behind
    ∙ ap (λ room. rooms_of (stretches before) ++ room ∷ rooms_of (stretches after))
    (room_of-middle [] c back)
among before (d ∷ front) c back after n in_front behind =
    room_among before d (front ++ c ∷ back) after n in_front behind ∙ ap (λ room. rooms_of
    (stretches before) ++ room ∷ rooms_of (stretches after)) (room_of-middle (d ∷ front) c back)

-- An image is short for a chunk without locks where it is short, and the room of the chunk's
-- stretch with the chunk's size is less, too.
pub short_for_parts : (image : List ℕ) (before front : List Chunk) (bytes : List ℕ) (owner slot : ℕ)
    (back after : List Chunk) (size : ℕ) → HeapAccepted image
    → WholeStretch image before (front ++ movable bytes 0 owner slot ∷ back) after → ShortFor image
    slot size ↔ (Short image size × (room_of (front ++ back) + need (length bytes) < size))
short_for_parts image before front bytes owner slot back after size h w =
    let c : Chunk = movable bytes 0 owner slot in
    let taken : ℕ = need (length bytes) in
    let apart = (none_stays-append front (c ∷ back)).0 w.none_stays in
    let loose : NoneStays (front ++ free taken ∷ back) =
    (none_stays-append front (free taken ∷ back)).1 (apart.0, apart.1) in
    let cs = w.chunks ∙ ap (λ ds. before ++ ds) (append_assoc front (c ∷ back) after)
    ∙ sym (append_assoc before front (c ∷ (back ++ after))) in
    let ds : with_freed (chunks_of image) slot ≡ before ++ ((front ++ free taken ∷ back) ++ after) =
    freed_middle image (before ++ front) bytes 0 owner slot (back ++ after) h cs
    ∙ append_assoc before front (free taken ∷ (back ++ after))
    ∙ ap (λ xs. before ++ xs) (sym (append_assoc front (free taken ∷ back) after)) in
    let was : rooms image
    ≡ rooms_of (stretches before) ++ (room_of (front ++ back)) ∷ rooms_of (stretches after) =
    ap (λ xs. rooms_of (stretches xs)) w.chunks
    ∙ among before front c back after w.none_stays w.in_front w.behind
    ∙ ap (λ room. rooms_of (stretches before) ++ room ∷ rooms_of (stretches after))
    (let e : room_of (front ++ back) + 0 ≡ room_of (front ++ back) = omega arith in e) in
    let is : rooms_of (stretches (with_freed (chunks_of image) slot)) ≡ rooms_of (stretches before)
    ++ (room_of (front ++ back) + taken) ∷ rooms_of (stretches after) =
    ap (λ xs. rooms_of (stretches xs)) ds
    ∙ among before front (free taken) back after loose w.in_front w.behind in
    let both = short_one size (room_of (front ++ back)) taken _ (rooms_of (stretches after)) in
    let P : List ℕ → Type 0 = λ rs. All (λ room. room < size) rs in (
      λ s. let t = both.0 (subst P is s) in (subst P (sym was) t.0, t.1),
      λ t. subst P (sym is) (both.1 (subst P was t.0, t.1)),
    )
