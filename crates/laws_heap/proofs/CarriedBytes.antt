-- Bytes are carried up or down, and what they spelled is read where they are now.
use Rattle.laws_heap.proofs.Words.{◌≡◌, ℕ, zero, suc, ◌+◌, ◌-◌, ◌<◌, ◌≤◌, List, ◌++◌, length, get_or, slice_index, take, drop, refl, sym, ap, ◌∙◌, arith, length-append, length-take, length-drop, get_or-take, get_or-drop, get_or_append_left, get_or-append_right, length-take-le, same_lists, get_or_default, big_from, u32_at, overwritten, need, seen, IsFree, IsLive}
use Rattle.laws_heap.proofs.Frames.{SameBetween}

-- the bytes of one list between two offsets are in the other list, `by` bytes further up
pub record Carries (by start end : ℕ) (xs ys : List ℕ) : Type 0 where
  pub same : (k : ℕ) → start ≤ k → k < end → slice_index ys (k + by) ≡ slice_index xs k

pub Carries-within : (by a b c d : ℕ) (xs ys : List ℕ) → Carries by a b xs ys → a ≤ c → d ≤ b
    → Carries by c d xs ys
Carries-within by a b c d xs ys carry low high =
    record { same = λ k l h. carry.same k (omega arith) (omega arith) }

pub Carries-then : (by a b : ℕ) (xs ys zs : List ℕ) → Carries by a b xs ys
    → SameBetween (a + by) (b + by) ys zs → Carries by a b xs zs
Carries-then by a b xs ys zs carry agree = record {
  same = λ k l h. sym (agree.same (k + by) (omega arith) (omega arith)) ∙ carry.same k l h;
}

-- ---- what is read there

big_from-carried : (i n by : ℕ) (xs ys : List ℕ)
    → ((k : ℕ) → i ≤ k → k < i + n → get_or ys (k + by) 0 ≡ get_or xs k 0)
    → big_from (i + by) n ys ≡ big_from i n xs
big_from-carried i zero by xs ys same = refl
big_from-carried i (suc n) by xs ys same =
    let here = same i (omega arith) (omega arith) in
    let e : suc (i + by) ≡ suc i + by = omega arith in
    let rest = ap (λ j. big_from j n ys) e
    ∙ big_from-carried (suc i) n by xs ys (λ k low high. same k (omega arith) (omega arith)) in
    rw (here, rest) refl

pub u32_at-carried : (at by : ℕ) (xs ys : List ℕ) (start end : ℕ) → Carries by start end xs ys
    → start ≤ at → at + 4 ≤ end → u32_at ys (at + by) ≡ u32_at xs at
unfolding u32_at
u32_at-carried at by xs ys start end carry low high =
    big_from-carried at 4 by xs ys (λ k l h. carry.same k (omega arith) (omega arith))

pub slice-carried : (a n by : ℕ) (xs ys : List ℕ) (start end : ℕ) → Carries by start end xs ys
    → start ≤ a → a + n ≤ end → a + n ≤ length xs → a + by + n ≤ length ys
    → take (a + by + n - (a + by)) (drop (a + by) ys) ≡ take (a + n - a) (drop a xs)
slice-carried a n by xs ys start end carry low high in_xs in_ys =
    same_lists _ _ (simp (length-take, length-drop) (omega arith)) (λ k d h.
    let inside : k < n = omega (arith, length-take (a + by + n - (a + by)) (drop (a + by) ys)) in
    let left = get_or-take (a + by + n - (a + by)) (drop (a + by) ys) k d (omega arith)
    ∙ get_or-drop (a + by) ys k d in
    let right = get_or-take (a + n - a) (drop a xs) k d (omega arith) ∙ get_or-drop a xs k d in
    let e : a + by + k ≡ a + k + by = omega arith in
    let mid = get_or_default ys (a + by + k) d 0 (omega arith) ∙ ap (λ j. get_or ys j 0) e
    ∙ carry.same (a + k) (omega arith) (omega arith)
    ∙ get_or_default xs (a + k) 0 d (omega arith) in
    left ∙ mid ∙ sym right)

-- ---- what is spelled there

pub IsFree-carried : (xs ys : List ℕ) (at by size : ℕ) → Carries by at (at + size) xs ys
    → at + by + size ≤ length ys → IsFree xs at size → IsFree ys (at + by) size
IsFree-carried xs ys at by size carry inside s =
    let fits : 8 ≤ size = s.header_fits in
    let first = u32_at-carried at by xs ys at (at + size) carry (omega arith) (omega arith) in
    record {
      free_bit = rw first s.free_bit;
      size_field = rw first s.size_field;
      header_fits = s.header_fits;
      whole = s.whole;
      inside = inside;
    }

pub IsLive-carried : (xs ys : List ℕ) (at by : ℕ) (bytes : List ℕ) (lock owner h : ℕ)
    → Carries by at (at + need (length bytes)) xs ys → at + by + need (length bytes) ≤ length ys
    → IsLive xs at bytes lock owner h → IsLive ys (at + by) bytes lock owner h
IsLive-carried xs ys at by bytes lock owner h carry inside s =
    let was : at + need (length bytes) ≤ length xs = s.inside in
    let first = u32_at-carried at by xs ys at _ carry (omega arith) (omega arith) in
    let second = u32_at-carried (at + 4) by xs ys at _ carry (omega arith) (omega arith) in
    let e : at + by + 4 ≡ at + 4 + by = omega arith in
    let f : at + by + 8 ≡ at + 8 + by = omega arith in
    let body = slice-carried (at + 8) (length bytes) by xs ys at (at + need (length bytes)) carry
    (omega arith) (omega arith) (omega arith) (omega arith) in
    record {
      first_word = first ∙ s.first_word;
      size_fits = s.size_fits;
      second_word = ap (u32_at ys) e ∙ second ∙ s.second_word;
      lock_fits = s.lock_fits;
      owner_fits = s.owner_fits;
      h_offset_fits = s.h_offset_fits;
      body = ap (seen lock owner) (ap (λ n. take (n + length bytes - n) (drop n ys)) f ∙ body)
          ∙ s.body;
      inside = inside;
    }

-- ---- a copy of some bytes to where they may overlap

-- what is read where they are now
slid_at : (old : List ℕ) (from to n i : ℕ) → from + n ≤ length old → to + n ≤ length old → i < n
    → slice_index (overwritten old to (take (from + n - from) (drop from old))) (to + i)
    ≡ slice_index old (from + i)
unfolding overwritten
slid_at old from to n i in_from in_to low =
    let part : List ℕ = take (from + n - from) (drop from old) in
    let many : length part ≡ n = simp (length-take, length-drop) (omega arith) in
    let front : length (take to old) ≡ to = length-take-le to old (omega arith) in
    let both = length-append (take to old) part in
    let within = get_or_append_left (take to old ++ part) (drop (to + length part) old) 0 (to + i)
    (omega (arith, both, front, many)) in
    let behind = get_or-append_right (take to old) part to (to + i) 0 front (omega arith) in
    let there : to + i - to ≡ i = omega arith in
    let taken = get_or-take (from + n - from) (drop from old) i 0 (omega arith)
    ∙ get_or-drop from old i 0 in
    within ∙ behind ∙ ap (λ (j : ℕ). get_or part j 0) there ∙ taken

pub slid_up : (old : List ℕ) (from by n : ℕ) → from + by + n ≤ length old → Carries by from
    (from + n) old (overwritten old (from + by) (take (from + n - from) (drop from old)))
slid_up old from by n inside = record {
  same = λ k low high.
      let up : from + by + (k - from) ≡ k + by = omega arith in
      let was : from + (k - from) ≡ k = omega arith in
      sym (ap (slice_index (overwritten old (from + by) (take (from + n - from) (drop from old))))
      up) ∙ slid_at old from (from + by) n (k - from) (omega arith) inside (omega arith)
      ∙ ap (slice_index old) was;
}

pub slid_down : (old : List ℕ) (to by n : ℕ) → to + by + n ≤ length old → Carries by to (to + n)
    (overwritten old to (take (to + by + n - (to + by)) (drop (to + by) old))) old
slid_down old to by n inside = record {
  same = λ k low high.
      let down : to + (k - to) ≡ k = omega arith in
      let was : to + by + (k - to) ≡ k + by = omega arith in
      sym (ap (slice_index old) was)
      ∙ sym (slid_at old (to + by) to n (k - to) inside (omega arith) (omega arith)) ∙ ap
      (slice_index (overwritten old to (take (to + by + n - (to + by)) (drop (to + by) old)))) down;
}
