-- Frames: numbers and parts of two lists of bytes agree where the lists do, and what a write
-- leaves.
use Rattle.laws_heap.proofs.Words.{◌≡◌, ℕ, zero, suc, ◌+◌, ◌-◌, ◌^◌, ◌<◌, ◌≤◌, List, ◌++◌, length, get_or, slice_index, take, drop, replicate, refl, sym, ap, ◌∙◌, append_assoc, arith, length-append, length-take, length-drop, get_or-take, get_or-drop, get_or_append_left, get_or-append_right, length-take-le, drop_at, take_at, drop-drop, drop-take, drop-append-le, take-take, same_lists, get_or_default, take-append-add, u16_at, u32_at, overwritten, u16_bytes, u32_bytes, big_from, big_bytes}
use Rattle.byteorder.specs.Numbers.{big_number-reads_back}

-- the two lists agree from one offset up to another
pub record SameBetween (start end : ℕ) (xs ys : List ℕ) : Type 0 where
  pub same : (k : ℕ) → start ≤ k → k < end → slice_index xs k ≡ slice_index ys k

-- part of an agreement
pub SameBetween-within : (a b c d : ℕ) (xs ys : List ℕ) → SameBetween a b xs ys → a ≤ c → d ≤ b
    → SameBetween c d xs ys
SameBetween-within a b c d xs ys agree low high =
    record { same = λ k l h. agree.same k (omega arith) (omega arith) }

-- one agreement after another
pub SameBetween-then : (a b : ℕ) (xs ys zs : List ℕ) → SameBetween a b xs ys → SameBetween a b ys zs
    → SameBetween a b xs zs
SameBetween-then a b xs ys zs p q = record { same = λ k l h. p.same k l h ∙ q.same k l h }

-- ---- what is read where two lists agree

big_from-same : (i n : ℕ) (xs ys : List ℕ)
    → ((k : ℕ) → i ≤ k → k < i + n → get_or xs k 0 ≡ get_or ys k 0)
    → big_from i n xs ≡ big_from i n ys
big_from-same i zero xs ys same = refl
big_from-same i (suc n) xs ys same =
    let here = same i (omega arith) (omega arith) in
    let rest = big_from-same (suc i) n xs ys (λ k low high. same k (omega arith) (omega arith)) in
    rw (here, rest) refl

pub u32_at-same : (at : ℕ) (xs ys : List ℕ) (start end : ℕ) → SameBetween start end xs ys
    → start ≤ at → at + 4 ≤ end → u32_at xs at ≡ u32_at ys at
unfolding u32_at
u32_at-same at xs ys start end agree low high =
    big_from-same at 4 xs ys (λ k l h. agree.same k (omega arith) (omega arith))

pub u16_at-same : (at : ℕ) (xs ys : List ℕ) (start end : ℕ) → SameBetween start end xs ys
    → start ≤ at → at + 2 ≤ end → u16_at xs at ≡ u16_at ys at
unfolding u16_at
u16_at-same at xs ys start end agree low high =
    big_from-same at 2 xs ys (λ k l h. agree.same k (omega arith) (omega arith))

pub slice-same : (a b : ℕ) (xs ys : List ℕ) → SameBetween a b xs ys → b ≤ length xs → b ≤ length ys
    → take (b - a) (drop a xs) ≡ take (b - a) (drop a ys)
slice-same a b xs ys agree in_xs in_ys =
    same_lists _ _ (simp (length-take, length-drop) (omega arith)) (λ k d h.
    let inside : k < b - a = omega (arith, length-take (b - a) (drop a xs)) in
    let left = get_or-take (b - a) (drop a xs) k d inside ∙ get_or-drop a xs k d in
    let right = get_or-take (b - a) (drop a ys) k d inside ∙ get_or-drop a ys k d in
    let mid = get_or_default xs (a + k) d 0 (omega arith)
    ∙ agree.same (a + k) (omega arith) (omega arith)
    ∙ get_or_default ys (a + k) 0 d (omega arith) in
    left ∙ mid ∙ sym right)

-- ---- what a write leaves, and what it puts there

pub length-overwritten : (old : List ℕ) (at : ℕ) (part : List ℕ) → at + length part ≤ length old
    → length (overwritten old at part) ≡ length old
unfolding overwritten
length-overwritten old at part inside = simp (length-append, length-take, length-drop) (omega arith)

pub overwritten-below : (old : List ℕ) (at : ℕ) (part : List ℕ) → at + length part ≤ length old
    → SameBetween 0 at old (overwritten old at part)
unfolding overwritten
overwritten-below old at part inside = record {
  same = λ k low high.
      let front = get_or_append_left (take at old ++ part) (drop (at + length part) old) 0 k
      (simp (length-append, length-take) (omega arith)) in
      let kept = get_or_append_left (take at old) part 0 k (simp length-take (omega arith)) in
      let taken = get_or-take at old k 0 high in
      sym (front ∙ kept ∙ taken);
}

pub overwritten-above : (old : List ℕ) (at : ℕ) (part : List ℕ) (end : ℕ)
    → at + length part ≤ length old
    → SameBetween (at + length part) end old (overwritten old at part)
unfolding overwritten
overwritten-above old at part end inside = record {
  same = λ k low high.
      let len : length (take at old ++ part) ≡ at + length part =
      simp (length-append, length-take) (omega arith) in
      let back = get_or-append_right (take at old ++ part) (drop (at + length part) old)
      (at + length part) k 0 len low in
      let dropped = get_or-drop (at + length part) old (k - (at + length part)) 0 in
      let there : at + length part + (k - (at + length part)) ≡ k = omega arith in
      sym (back ∙ dropped ∙ ap (λ (i : ℕ). get_or old i 0) there);
}

-- a number after the start of a list is one of the rest
big_from-drop : (i n k : ℕ) (xs : List ℕ) → big_from i n (drop k xs) ≡ big_from (k + i) n xs
big_from-drop i zero k xs = refl
big_from-drop i (suc n) k xs =
    let rest = big_from-drop (suc i) n k xs in
    let e : k + suc i ≡ suc (k + i) = omega arith in
    rw (get_or-drop k xs i 0, rest, e) refl

-- the number in bytes that are those of a number
pub big_from-written : (n x at : ℕ) (old part : List ℕ) → part ≡ big_bytes n x → at + n ≤ length old
    → x < 256 ^ n → big_from at n (overwritten old at part) ≡ x
unfolding overwritten
big_from-written n x at old part is inside fits =
    let len : length (take at old) ≡ at = length-take-le at old (omega arith) in
    let tail : List ℕ = drop (at + length part) old in
    let e : at + 0 ≡ at = omega arith in
    let moved = big_from-drop 0 n at _ ∙ ap (λ i. big_from i n (take at old ++ part ++ tail)) e in
    let cut = ap (drop at) (append_assoc (take at old) part tail)
    ∙ drop_at (take at old) (part ++ tail) at len in
    let front = ap (λ p. big_from 0 n (p ++ tail)) is ∙ big_number-reads_back n x tail fits in
    sym moved ∙ ap (big_from 0 n) cut ∙ front

pub u32_at-written : (x at : ℕ) (old : List ℕ) → at + 4 ≤ length old → x < 2 ^ 32
    → u32_at (overwritten old at (u32_bytes x)) at ≡ x
unfolding u32_at u32_bytes
u32_at-written x at old inside fits = big_from-written 4 x at old (u32_bytes x) refl inside fits

pub u16_at-written : (x at : ℕ) (old : List ℕ) → at + 2 ≤ length old → x < 2 ^ 16
    → u16_at (overwritten old at (u16_bytes x)) at ≡ x
unfolding u16_at u16_bytes
u16_at-written x at old inside fits = big_from-written 2 x at old (u16_bytes x) refl inside fits

pub length-u32_bytes : (x : ℕ) → length (u32_bytes x) ≡ 4
unfolding u32_bytes
length-u32_bytes x = refl

pub length-u16_bytes : (x : ℕ) → length (u16_bytes x) ≡ 2
unfolding u16_bytes
length-u16_bytes x = refl

-- two writes one after the other are one
pub overwritten-behind : (old : List ℕ) (at : ℕ) (front back : List ℕ) (there : ℕ)
    → there ≡ at + length front → there + length back ≤ length old
    → overwritten (overwritten old at front) there back ≡ overwritten old at (front ++ back)
unfolding overwritten
overwritten-behind old at front back there e inside =
    let start : List ℕ = take at old ++ front in
    let len : length start ≡ there = simp (length-append, length-take) (omega arith) in
    let end : there + length back - there ≡ length back = omega arith in
    let head = take_at start (drop (at + length front) old) there len in
    let past : drop (there + length back) (start ++ drop (at + length front) old)
    ≡ drop (length back) (drop (at + length front) old) =
    sym (drop-drop (length back) there (start ++ drop (at + length front) old))
    ∙ ap (drop (length back)) (drop_at start (drop (at + length front) old) there len) in
    let tail : drop (length back) (drop (at + length front) old)
    ≡ drop (at + length (front ++ back)) old =
    drop-drop (length back) (at + length front) old
    ∙ ap (λ n. drop n old) (simp length-append (omega arith)) in
    ap (λ x. x ++ back ++ drop (there + length back) (start ++ drop (at + length front) old)) head
    ∙ ap (λ (x : List ℕ). start ++ back ++ x) (past ∙ tail)
    ∙ ap (λ x. x ++ drop (at + length (front ++ back)) old) (append_assoc (take at old) front back)

-- the part that was written
pub slice-overwritten : (old : List ℕ) (at : ℕ) (part : List ℕ) (count : ℕ) → length part ≡ count
    → at + count ≤ length old → take (at + count - at) (drop at (overwritten old at part)) ≡ part
unfolding overwritten
slice-overwritten old at part count e inside =
    let len : length (take at old) ≡ at = length-take-le at old (omega arith) in
    let tail : List ℕ = drop (at + length part) old in
    let size : at + count - at ≡ length part = omega arith in
    let cut = ap (drop at) (append_assoc (take at old) part tail)
    ∙ drop_at (take at old) (part ++ tail) at len in
    ap (λ n. take n (drop at (take at old ++ part ++ tail))) size ∙ ap (take (length part)) cut
    ∙ take_at part tail (length part) refl

-- ---- a number apart from what is written

pub u32_at-below : (o at : ℕ) (old part : List ℕ) → o + 4 ≤ at → at + length part ≤ length old
    → u32_at (overwritten old at part) o ≡ u32_at old o
u32_at-below o at old part low inside = sym (u32_at-same o old (overwritten old at part) 0 at
    (overwritten-below old at part inside) (omega arith) low)

pub u16_at-below : (o at : ℕ) (old part : List ℕ) → o + 2 ≤ at → at + length part ≤ length old
    → u16_at (overwritten old at part) o ≡ u16_at old o
u16_at-below o at old part low inside = sym (u16_at-same o old (overwritten old at part) 0 at
    (overwritten-below old at part inside) (omega arith) low)

-- ---- zeros read as zero

pub slice_index-zeros : (m i : ℕ) → slice_index (replicate m 0) i ≡ 0
slice_index-zeros zero i = refl
slice_index-zeros (suc m) zero = refl
slice_index-zeros (suc m) (suc i) = slice_index-zeros m i

big_from-zeros : (i n m : ℕ) → big_from i n (replicate m 0) ≡ 0
big_from-zeros i zero m = refl
big_from-zeros i (suc n) m =
    let rest = big_from-zeros (suc i) n m in
    rw (slice_index-zeros m i, rest) (omega arith)

pub u32_at-zeros : (at m : ℕ) → u32_at (replicate m 0) at ≡ 0
unfolding u32_at
u32_at-zeros at m = big_from-zeros at 4 m

pub u16_at-zeros : (at m : ℕ) → u16_at (replicate m 0) at ≡ 0
unfolding u16_at
u16_at-zeros at m = big_from-zeros at 2 m

-- ---- a write within a part

-- in parts: the bytes before, the written ones, and the rest
overwritten-parts : (old : List ℕ) (at : ℕ) (part : List ℕ)
    → overwritten old at part ≡ take at old ++ (part ++ drop (at + length part) old)
unfolding overwritten
overwritten-parts old at part = append_assoc (take at old) part (drop (at + length part) old)

-- after an offset
overwritten-dropped : (old : List ℕ) (at k : ℕ) (part : List ℕ) → at + k ≤ length old
    → drop at (overwritten old (at + k) part) ≡ overwritten (drop at old) k part
overwritten-dropped old at k part inside =
    let front : at ≤ length (take (at + k) old) = simp length-take (omega arith) in
    let there : at + (k + length part) ≡ at + k + length part = omega arith in
    ap (drop at) (overwritten-parts old (at + k) part)
    ∙ drop-append-le at (take (at + k) old) (part ++ drop (at + k + length part) old) front
    ∙ ap (λ (x : List ℕ). x ++ (part ++ drop (at + k + length part) old)) (drop-take at k old)
    ∙ ap (λ x. take k (drop at old) ++ (part ++ x)) (ap (λ n. drop n old) (sym there)
    ∙ sym (drop-drop (k + length part) at old))
    ∙ sym (overwritten-parts (drop at old) k part)

-- before an offset
overwritten-taken : (old : List ℕ) (k rest : ℕ) (part : List ℕ)
    → k + length part + rest ≤ length old → take (k + length part + rest) (overwritten old k part)
    ≡ overwritten (take (k + length part + rest) old) k part
overwritten-taken old k rest part inside =
    let n : ℕ = k + length part + rest in
    let len : length (take k old) ≡ k = length-take-le k old (omega arith) in
    let split : n ≡ length (take k old) + (length part + rest) = omega arith in
    let least : k ≤ n = omega arith in
    ap (take n) (overwritten-parts old k part)
    ∙ ap (λ (m : ℕ). take m (take k old ++ (part ++ drop (k + length part) old))) split
    ∙ take-append-add (take k old) (part ++ drop (k + length part) old) (length part + rest)
    ∙ ap (λ (x : List ℕ). take k old ++ x) (take-append-add part (drop (k + length part) old) rest)
    ∙ ap (λ (x : List ℕ). take k old ++ (part ++ x)) (sym (drop-take (k + length part) rest old))
    ∙ ap (λ x. x ++ (part ++ drop (k + length part) (take n old))) (sym (take-take k n old least))
    ∙ sym (overwritten-parts (take n old) k part)

-- within a part
pub slice-overwritten-within : (old : List ℕ) (at k n : ℕ) (part : List ℕ) → k + length part ≤ n
    → at + n ≤ length old → take (at + n - at) (drop at (overwritten old (at + k) part))
    ≡ overwritten (take (at + n - at) (drop at old)) k part
slice-overwritten-within old at k n part within inside =
    let rest : ℕ = n - (k + length part) in
    let size : at + n - at ≡ k + length part + rest = omega arith in
    let left : length (drop at old) ≡ length old - at = length-drop at old in
    ap (λ (m : ℕ). take m (drop at (overwritten old (at + k) part))) size
    ∙ ap (take (k + length part + rest)) (overwritten-dropped old at k part (omega arith))
    ∙ overwritten-taken (drop at old) k rest part (omega arith)
    ∙ ap (λ (m : ℕ). overwritten (take m (drop at old)) k part) (sym size)

-- a part of a part
pub slice-of_slice : (xs : List ℕ) (from size at count : ℕ) → at + count ≤ size
    → take (at + count - at) (drop at (take (from + size - from) (drop from xs)))
    ≡ take (from + at + count - (from + at)) (drop (from + at) xs)
slice-of_slice xs from size at count within =
    let whole : from + size - from ≡ at + (size - at) = omega arith in
    let part : at + count - at ≡ count = omega arith in
    let there : from + at + count - (from + at) ≡ count = omega arith in
    let least : count ≤ size - at = omega arith in
    ap (λ (n : ℕ). take n (drop at (take (from + size - from) (drop from xs)))) part
    ∙ ap (λ (n : ℕ). take count (drop at (take n (drop from xs)))) whole
    ∙ ap (take count) (drop-take at (size - at) (drop from xs))
    ∙ take-take count (size - at) (drop at (drop from xs)) least
    ∙ ap (take count) (drop-drop at from xs)
    ∙ ap (λ (n : ℕ). take n (drop (from + at) xs)) (sym there)

-- the number with which a part begins
pub u32_at-part : (image : List ℕ) (at n : ℕ) → 4 ≤ n
    → u32_at (take (at + n - at) (drop at image)) 0 ≡ u32_at image at
unfolding u32_at
u32_at-part image at n most =
    let e : at + 0 ≡ at = omega arith in
    big_from-same 0 4 _ _ (λ k l h. get_or-take (at + n - at) (drop at image) k 0 (omega arith))
    ∙ big_from-drop 0 4 at image
    ∙ ap (λ (i : ℕ). big_from i 4 image) e

-- and of a list whose front is that of another
pub u32_at-front : (xs ys : List ℕ) → 4 ≤ length xs → u32_at (take 4 xs ++ ys) 0 ≡ u32_at xs 0
unfolding u32_at
u32_at-front xs ys most =
    big_from-same 0 4 (take 4 xs ++ ys) xs (λ k l h.
    let len = length-take-le 4 xs most in
    get_or_append_left (take 4 xs) ys 0 k (omega (arith, len)) ∙ get_or-take 4 xs k 0 (omega arith))
