-- Runs of chunks: put together, taken apart, framed, and one at most in an image.
use Rattle.laws_heap.proofs.Words.{Bool, true, false, cond, ◌≡◌, ℕ, ◌+◌, ◌-◌, ◌%◌, ◌^◌, ◌<◌, ◌≤◌, List, [], ◌∷◌, ◌++◌, length, take, drop, replicate, refl, sym, ap, ◌∙◌, arith, inl, inr, length-append, length-take, length-replicate, nat_tests, slice_range, u32_at, Chunk, free, movable, fixed, need, size_of, total, slot_named, is_table_by, seen, IsFree, IsLive, Spelled, SpelledAll, EveryPlaced, AnyPlaced, IsFreeAt}
use Rattle.laws_heap.proofs.Frames.{SameBetween, SameBetween-within, u32_at-same, slice-same}

-- ---- the bytes that a value has

pub length-seen : (lock owner : ℕ) (body : List ℕ) → length (seen lock owner body) ≡ length body
unfolding seen
length-seen lock owner body = by (is_table_by lock owner) where
  by : (b : Bool)
      → length (cond b (take 4 body ++ replicate (length body - 4) 0) body) ≡ length body
  by true =
      let both = length-append (take 4 body) (replicate (length body - 4) 0) in
      let front = length-take 4 body in
      let back = length-replicate {A = ℕ} (length body - 4) 0 in
      omega arith
  by false = refl

-- those of the body, where it is no table's
pub seen-plain : (lock owner : ℕ) (body : List ℕ) → is_table_by lock owner ≡ false
    → seen lock owner body ≡ body
unfolding seen
seen-plain lock owner body e =
    ap (λ b. cond b (take 4 body ++ replicate (length body - 4) 0) body) e

pub plain-movable : (lock owner : ℕ) → lock < 15 → is_table_by lock owner ≡ false
plain-movable lock owner low = grind (arith, nat_tests)

pub plain-callers : (lock owner : ℕ) → 0 < owner → is_table_by lock owner ≡ false
plain-callers lock owner some = grind (arith, nat_tests)

pub seen-movable : (lock owner : ℕ) (body : List ℕ) → lock < 15 → seen lock owner body ≡ body
seen-movable lock owner body low = seen-plain lock owner body (plain-movable lock owner low)

pub seen-callers : (lock owner : ℕ) (body : List ℕ) → 0 < owner → seen lock owner body ≡ body
seen-callers lock owner body some = seen-plain lock owner body (plain-callers lock owner some)

-- of two tables' bodies with one `next` it is the same
pub seen-next : (xs ys : List ℕ) → take 4 xs ≡ take 4 ys → length xs ≡ length ys
    → seen 15 0 xs ≡ seen 15 0 ys
unfolding seen
seen-next xs ys next len =
    ap (λ (front : List ℕ). front ++ replicate (length xs - 4) 0) next
    ∙ ap (λ (n : ℕ). take 4 ys ++ replicate (n - 4) 0) len

-- the body of a movable chunk, and of a caller's
pub plain_body : (image : List ℕ) (at : ℕ) (bytes : List ℕ) (lock owner h : ℕ)
    → is_table_by lock owner ≡ false → IsLive image at bytes lock owner h
    → slice_range image (at + 8) (at + 8 + length bytes) ≡ bytes
plain_body image at bytes lock owner h plain s = sym (seen-plain lock owner _ plain) ∙ s.body

pub movable_body : (image : List ℕ) (at : ℕ) (bytes : List ℕ) (lock owner h : ℕ)
    → IsLive image at bytes lock owner h → lock < 15
    → slice_range image (at + 8) (at + 8 + length bytes) ≡ bytes
movable_body image at bytes lock owner h s low =
    plain_body image at bytes lock owner h (plain-movable lock owner low) s

pub callers_body : (image : List ℕ) (at : ℕ) (bytes : List ℕ) (lock owner h : ℕ)
    → IsLive image at bytes lock owner h → 0 < owner
    → slice_range image (at + 8) (at + 8 + length bytes) ≡ bytes
callers_body image at bytes lock owner h s some =
    plain_body image at bytes lock owner h (plain-callers lock owner some) s

-- ---- sizes

pub total-append : (xs ys : List Chunk) → total (xs ++ ys) ≡ total xs + total ys
total-append [] ys = omega arith
total-append (c ∷ xs) ys = let ih = total-append xs ys in omega (arith, ih)

-- what a chunk takes, and that it takes whole units of 8
pub Spelled-size : (image : List ℕ) (at : ℕ) (c : Chunk) → Spelled image at c
    → (8 ≤ size_of c) × (at + size_of c ≤ length image) × (size_of c % 8 ≡ 0)
Spelled-size image at (free size) s = (s.header_fits, s.inside, s.whole)
Spelled-size image at (movable bytes lock owner slot) s = (omega arith, s.1.inside, omega arith)
Spelled-size image at (fixed bytes owner) s = (omega arith, s.inside, omega arith)

pub SpelledAll-end : (image : List ℕ) (at : ℕ) (cs : List Chunk) (end : ℕ)
    → SpelledAll image at cs end → end ≡ at + total cs
SpelledAll-end image at [] end s = omega arith
SpelledAll-end image at (c ∷ cs) end s =
    let ih = SpelledAll-end image (at + size_of c) cs end s.1 in
    omega (arith, ih)

-- ---- runs that are put together and taken apart

pub SpelledAll-append : (image : List ℕ) (at : ℕ) (xs ys : List Chunk) (mid end : ℕ)
    → SpelledAll image at xs mid → SpelledAll image mid ys end → SpelledAll image at (xs ++ ys) end
SpelledAll-append image at [] ys mid end s t = rw (← s) at t
SpelledAll-append image at (c ∷ xs) ys mid end s t =
    (s.0, SpelledAll-append image (at + size_of c) xs ys mid end s.1 t)

pub SpelledAll-split : (image : List ℕ) (at : ℕ) (xs ys : List Chunk) (end : ℕ)
    → SpelledAll image at (xs ++ ys) end
    → SpelledAll image at xs (at + total xs) × SpelledAll image (at + total xs) ys end
SpelledAll-split image at [] ys end s = let e : at ≡ at + 0 = omega arith in (e, rw e at s)
SpelledAll-split image at (c ∷ xs) ys end s =
    let ih = SpelledAll-split image (at + size_of c) xs ys end s.1 in
    let e : at + size_of c + total xs ≡ at + (size_of c + total xs) = omega arith in
    ((s.0, rw e at ih.0), rw e at ih.1)

-- one chunk more
pub SpelledAll-push : (image : List ℕ) (at : ℕ) (cs : List Chunk) (mid : ℕ) (c : Chunk) (end : ℕ)
    → SpelledAll image at cs mid → Spelled image mid c → end ≡ mid + size_of c
    → SpelledAll image at (cs ++ c ∷ []) end
SpelledAll-push image at cs mid c end s t e = SpelledAll-append image at cs _ mid end s (t, sym e)

-- ---- the same bytes spell the same chunks

IsFree-same : (xs ys : List ℕ) (at size : ℕ) → SameBetween at (at + size) xs ys
    → length ys ≡ length xs → IsFree xs at size → IsFree ys at size
IsFree-same xs ys at size agree len s =
    let fits : 8 ≤ size = s.header_fits in
    let first = u32_at-same at xs ys at (at + size) agree (omega arith) (omega arith) in
    record {
      free_bit = rw (← first) s.free_bit;
      size_field = rw (← first) s.size_field;
      header_fits = s.header_fits;
      whole = s.whole;
      inside = rw len s.inside;
    }

IsLive-same : (xs ys : List ℕ) (at : ℕ) (bytes : List ℕ) (lock owner h : ℕ)
    → SameBetween at (at + need (length bytes)) xs ys → length ys ≡ length xs
    → IsLive xs at bytes lock owner h → IsLive ys at bytes lock owner h
IsLive-same xs ys at bytes lock owner h agree len s =
    let inside : at + need (length bytes) ≤ length xs = s.inside in
    let first = u32_at-same at xs ys at _ agree (omega arith) (omega arith) in
    let second = u32_at-same (at + 4) xs ys at _ agree (omega arith) (omega arith) in
    let body = slice-same (at + 8) (at + 8 + length bytes) xs ys
    (SameBetween-within at (at + need (length bytes)) (at + 8) (at + 8 + length bytes) xs ys agree
    (omega arith) (omega arith)) (omega arith) (omega arith) in
    record {
      first_word = sym first ∙ s.first_word;
      size_fits = s.size_fits;
      second_word = sym second ∙ s.second_word;
      lock_fits = s.lock_fits;
      owner_fits = s.owner_fits;
      h_offset_fits = s.h_offset_fits;
      body = ap (seen lock owner) (sym body) ∙ s.body;
      inside = omega arith;
    }

pub Spelled-same : (xs ys : List ℕ) (at : ℕ) (c : Chunk) → SameBetween at (at + size_of c) xs ys
    → length ys ≡ length xs → Spelled xs at c → Spelled ys at c
Spelled-same xs ys at (free size) agree len s = IsFree-same xs ys at size agree len s
Spelled-same xs ys at (movable bytes lock owner slot) agree len s =
    (s.0, IsLive-same xs ys at bytes lock owner s.0 agree len s.1, s.2, s.3, s.4)
Spelled-same xs ys at (fixed bytes owner) agree len s = IsLive-same xs ys at _ 15 _ 0 agree len s

pub SpelledAll-same : (xs ys : List ℕ) (at : ℕ) (cs : List Chunk) (end : ℕ)
    → SameBetween at end xs ys → length ys ≡ length xs → SpelledAll xs at cs end
    → SpelledAll ys at cs end
SpelledAll-same xs ys at [] end agree len s = s
SpelledAll-same xs ys at (c ∷ cs) end agree len s =
    let e : end ≡ at + size_of c + total cs = SpelledAll-end xs (at + size_of c) cs end s.1 in (
      Spelled-same xs ys at c (SameBetween-within at end at (at + size_of c) xs ys agree
          (omega arith) (omega arith)) len s.0,
      SpelledAll-same xs ys (at + size_of c) cs end (SameBetween-within at end
          (at + size_of c) end xs ys agree (omega arith) (omega arith)) len s.1,
    )

-- ---- chunks that are spelled again

-- the first words of their headers are as they were
abbrev pub SameWords : List ℕ → List ℕ → ℕ → List Chunk → Type 0
SameWords old new at cs = EveryPlaced (λ there c. u32_at new there ≡ u32_at old there) at cs

-- each free one of these chunks has the second word there that it had
abbrev pub SameSeconds : List ℕ → List ℕ → ℕ → List Chunk → Type 0
SameSeconds old new at cs =
    (there : ℕ) → AnyPlaced (IsFreeAt there) at cs → u32_at new (there + 4) ≡ u32_at old (there + 4)

-- chunks that begin at an offset are spelled there again
pub record SpellsAgain (old new : List ℕ) (at : ℕ) (cs : List Chunk) : Type 0 where
  pub spelled : SpelledAll new at cs (at + total cs)
  pub words : SameWords old new at cs
  pub seconds : SameSeconds old new at cs

words_same : (old new : List ℕ) (at : ℕ) (cs : List Chunk) (end : ℕ) → SameBetween at end old new
    → SpelledAll old at cs end → SameWords old new at cs
words_same old new at [] end agree s = tt
words_same old new at (c ∷ cs) end agree s =
    let least = (Spelled-size old at c s.0).0 in
    let e : end ≡ at + size_of c + total cs = SpelledAll-end old (at + size_of c) cs end s.1 in (
      sym (u32_at-same at old new at end agree (omega arith) (omega arith)),
      words_same old new (at + size_of c) cs end (SameBetween-within at end
          (at + size_of c) end old new agree (omega arith) (omega arith)) s.1,
    )

seconds_same : (old new : List ℕ) (at : ℕ) (cs : List Chunk) (end : ℕ) → SameBetween at end old new
    → SpelledAll old at cs end → SameSeconds old new at cs
seconds_same old new at [] end agree s there h = absurd h
seconds_same old new at (c ∷ cs) end agree s there h =
    let least = (Spelled-size old at c s.0).0 in
    let e : end ≡ at + size_of c + total cs = SpelledAll-end old (at + size_of c) cs end s.1 in
    elim h [
      | inl here ↦ rw (free_begins at c here) at (sym
          (u32_at-same (at + 4) old new at end agree (omega arith) (omega arith)))
      | inr later ↦ seconds_same old new (at + size_of c) cs end (SameBetween-within at end
          (at + size_of c) end old new agree (omega arith) (omega arith)) s.1 there later
    ] where
      free_begins : (k : ℕ) (d : Chunk) → IsFreeAt there k d → k ≡ there
      free_begins k (free size) here = here
      free_begins k (movable bytes lock owner slot) here = absurd here
      free_begins k (fixed bytes owner) here = absurd here

pub spells_same : (old new : List ℕ) (at : ℕ) (cs : List Chunk)
    → SameBetween at (at + total cs) old new → length new ≡ length old
    → SpelledAll old at cs (at + total cs) → SpellsAgain old new at cs
spells_same old new at cs agree len s = record {
  spelled = SpelledAll-same old new at cs (at + total cs) agree len s;
  words = words_same old new at cs (at + total cs) agree s;
  seconds = seconds_same old new at cs (at + total cs) agree s;
}

pub words_then : (old mid new : List ℕ) (at : ℕ) (cs : List Chunk) → SameWords old mid at cs
    → SameWords mid new at cs → SameWords old new at cs
words_then old mid new at [] first second = tt
words_then old mid new at (c ∷ cs) first second =
    (second.0 ∙ first.0, words_then old mid new (at + size_of c) cs first.1 second.1)

-- ---- one chunk at most at an offset, and one run at most

same_live : (image : List ℕ) (at : ℕ) (xs ys : List ℕ) (k v h l w i : ℕ) → IsLive image at xs k v h
    → IsLive image at ys l w i → (xs ≡ ys) × (k ≡ l) × (v ≡ w) × (h ≡ i)
same_live image at xs ys k v h l w i s t =
    let n = length xs in
    let m = length ys in
    let first = sym s.first_word ∙ t.first_word in
    let second = sym s.second_word ∙ t.second_word in
    let size_s : need n < 2 ^ 24 = s.size_fits in
    let size_t : need m < 2 ^ 24 = t.size_fits in
    let len : n ≡ m = omega arith in
    let owner_s : v < 16 = s.owner_fits in
    let owner_t : w < 16 = t.owner_fits in
    let way_s : h < 2 ^ 24 = s.h_offset_fits in
    let way_t : i < 2 ^ 24 = t.h_offset_fits in
    let locks : k ≡ l = omega arith in
    let owners : v ≡ w = omega arith in
    let raw : ℕ → List ℕ = λ j. take (at + 8 + j - (at + 8)) (drop (at + 8) image) in
    let bodies = sym s.body ∙ ap (λ j. seen k v (raw j)) len ∙ ap (λ q. seen q v (raw m)) locks
    ∙ ap (λ q. seen l q (raw m)) owners ∙ t.body in
    (bodies, locks, owners, omega arith)

free_not_live : (image : List ℕ) (at size : ℕ) (xs : List ℕ) (k v h : ℕ) → IsFree image at size
    → IsLive image at xs k v h → ⊥
free_not_live image at size xs k v h s t =
    let bit : 2 ^ 31 ≤ u32_at image at = s.free_bit in
    let first = t.first_word in
    let fits : need (length xs) < 2 ^ 24 = t.size_fits in
    omega arith

pub Spelled-unique : (image : List ℕ) (at : ℕ) (c d : Chunk) → Spelled image at c
    → Spelled image at d → c ≡ d
Spelled-unique image at (free n) (free m) s t = ap free (sym s.size_field ∙ t.size_field)
Spelled-unique image at (free n) (movable ys l w e) s t =
    absurd (free_not_live image at n ys l w t.0 s t.1)
Spelled-unique image at (free n) (fixed ys w) s t = absurd (free_not_live image at n ys 15 w 0 s t)
Spelled-unique image at (movable xs k v d) (free n) s t =
    absurd (free_not_live image at n xs k v s.0 t s.1)
Spelled-unique image at (fixed xs v) (free n) s t = absurd (free_not_live image at n xs 15 v 0 t s)
Spelled-unique image at (movable xs k v d) (movable ys l w e) s t =
    let same = same_live image at xs ys k v s.0 l w t.0 s.1 t.1 in
    let bodies = same.0 in
    let locks = same.1 in
    let owners = same.2 in
    let slots : d ≡ e = s.4 ∙ ap (slot_named at) same.3 ∙ sym t.4 in
    cc
Spelled-unique image at (fixed xs v) (fixed ys w) s t =
    let same = same_live image at xs ys 15 v 0 15 w 0 s t in
    let bodies = same.0 in
    let owners = same.2 in
    cc
Spelled-unique image at (movable xs k v d) (fixed ys w) s t =
    let same = same_live image at xs ys k v s.0 15 w 0 s.1 t in
    let locks : k ≡ 15 = same.1 in
    let low : k < 15 = s.2 in
    absurd (omega arith)
Spelled-unique image at (fixed xs v) (movable ys l w e) s t =
    let same = same_live image at xs ys 15 v 0 l w t.0 s t.1 in
    let locks : 15 ≡ l = same.1 in
    let low : l < 15 = t.2 in
    absurd (omega arith)

pub SpelledAll-unique : (image : List ℕ) (at : ℕ) (xs ys : List Chunk) (end : ℕ)
    → SpelledAll image at xs end → SpelledAll image at ys end → xs ≡ ys
SpelledAll-unique image at [] [] end s t = refl
SpelledAll-unique image at [] (d ∷ ys) end s t =
    let e = SpelledAll-end image (at + size_of d) ys end t.1 in
    let size = Spelled-size image at d t.0 in
    absurd (omega (arith, s))
SpelledAll-unique image at (c ∷ xs) [] end s t =
    let e = SpelledAll-end image (at + size_of c) xs end s.1 in
    let size = Spelled-size image at c s.0 in
    absurd (omega (arith, t))
SpelledAll-unique image at (c ∷ xs) (d ∷ ys) end s t =
    let first : c ≡ d = Spelled-unique image at c d s.0 t.0 in
    let moved : SpelledAll image (at + size_of c) ys end = rw (← first) at t.1 in
    let rest = SpelledAll-unique image (at + size_of c) xs ys end s.1 moved in
    cc

-- what follows a run that a longer one begins with
pub SpelledAll-rest : (image : List ℕ) (at : ℕ) (xs ys : List Chunk) (mid end : ℕ)
    → SpelledAll image at xs mid → SpelledAll image at ys end → mid ≤ end
    → (after : List Chunk) × (ys ≡ xs ++ after) × SpelledAll image mid after end
SpelledAll-rest image at [] ys mid end s t le = (ys, refl, rw s at t)
SpelledAll-rest image at (c ∷ xs) [] mid end s t le =
    let e = SpelledAll-end image (at + size_of c) xs mid s.1 in
    let size = Spelled-size image at c s.0 in
    absurd (omega (arith, t))
SpelledAll-rest image at (c ∷ xs) (d ∷ ys) mid end s t le =
    let first : c ≡ d = Spelled-unique image at c d s.0 t.0 in
    let moved : SpelledAll image (at + size_of c) ys end = rw (← first) at t.1 in
    let rest = SpelledAll-rest image (at + size_of c) xs ys mid end s.1 moved le in
    let tails : ys ≡ xs ++ rest.0 = rest.1 in
    (rest.0, cc, rest.2)
