-- What a part of a list reads as, and what a list is once a part of it is written.
use Rattle.std.proofs.Common.{◌≡◌, ℕ, zero, suc, ◌+◌, ◌-◌, ◌<◌, ◌≤◌, List, ◌++◌, length, take, drop, slice_range, refl, sym, ap, ◌∙◌, append_assoc, arith, length-take, length-drop, take-add}
use Rattle.std.proofs.lemmas.List.{drop-drop, drop-take, take-take, take-append-drop, drop_all, append-nil, get_or-drop, get_or-take}
use Rattle.heap_model.specs.Bytes.{u16_at, u32_at, overwritten}
use Rattle.byteorder.specs.Endian.{big_number, big_from}

-- a number within the k bytes at an offset is the number there
big_from-part : (i n k at : ℕ) (bytes : List ℕ) → i + n ≤ k
    → big_from i n (take k (drop at bytes)) ≡ big_from (at + i) n bytes
big_from-part i zero k at bytes within = refl
big_from-part i (suc n) k at bytes within =
    let first : i < k = omega arith in
    let rest = big_from-part (suc i) n k at bytes (omega arith) in
    let next : at + suc i ≡ suc (at + i) = omega arith in
    rw (get_or-take k (drop at bytes) i 0 first, get_or-drop at bytes i 0, rest, next) refl

-- the number that the first n bytes of that part spell
big_number-part : (n at : ℕ) (bytes : List ℕ)
    → big_number n (take (at + n - at) (drop at bytes)) ≡ big_from at n bytes
big_number-part n at bytes =
    let start : at + 0 ≡ at = omega arith in
    big_from-part 0 n (at + n - at) at bytes (omega arith)
    ∙ ap (λ (offset : ℕ). big_from offset n bytes) start

pub u16_at_part : (number at : ℕ) (bytes : List ℕ)
    → number ≡ big_number 2 (take (at + 2 - at) (drop at bytes)) → number ≡ u16_at bytes at
unfolding u16_at
u16_at_part number at bytes read = read ∙ big_number-part 2 at bytes

pub u32_at_part : (number at : ℕ) (bytes : List ℕ)
    → number ≡ big_number 4 (take (at + 4 - at) (drop at bytes)) → number ≡ u32_at bytes at
unfolding u32_at
u32_at_part number at bytes read = read ∙ big_number-part 4 at bytes

-- a list whose k bytes at an offset are now these
pub overwritten_by_part : (old : List ℕ) (at k : ℕ) (new part : List ℕ)
    → new ≡ part → k ≡ length part
    → take at old ++ (new ++ drop k (drop at old)) ≡ overwritten old at part
unfolding overwritten
overwritten_by_part old at k new part is many =
    let rest = drop (at + length part) old in
    rw (is, many, drop-drop (length part) at old) (sym (append_assoc (take at old) part rest))

pub length-taken : (old : List ℕ) (at n : ℕ) → at + n ≤ length old → length (take n (drop at old)) ≡ n
length-taken old at n within = simp (length-take, length-drop) (omega arith)

pub length-part : (old : List ℕ) (at n : ℕ) → at + n ≤ length old
    → length (take (at + n - at) (drop at old)) ≡ n
length-part old at n within = length-taken old at (at + n - at) (omega arith) ∙ omega arith

-- a part that is written up to its end keeps nothing
pub part-written : (old new : List ℕ) (at n : ℕ) → at + n ≤ length old
    → new ++ drop n (take (at + n - at) (drop at old)) ≡ new
part-written old new at n within =
    let part = take (at + n - at) (drop at old) in
    let all : length part ≤ n = omega (arith, length-part old at n within) in
    rw (drop_all n part all, append-nil) refl

-- a list whose n bytes at an offset are now those that were at another
pub overwritten_by_slide : (old new : List ℕ) (from to n : ℕ) → from + n ≤ length old
    → new ≡ (take to old ++ take n (drop from old)) ++ drop (to + n) old
    → new ≡ overwritten old to (take n (drop from old))
unfolding overwritten
overwritten_by_slide old new from to n within is =
    let part = take n (drop from old) in
    let many : n ≡ length part = omega (arith, length-taken old from n within) in
    is ∙ ap (λ (k : ℕ). (take to old ++ part) ++ drop (to + k) old) many

-- a part of a part
pub part-in-part : (list : List ℕ) (n by k : ℕ) → by + k ≤ n
    → take k (drop by (take n list)) ≡ take k (drop by list)
part-in-part list n by k within =
    let rest = n - by in
    let many : n ≡ by + rest = omega arith in
    let few : k ≤ rest = omega arith in
    rw (many, drop-take by rest list, take-take k rest (drop by list) few) refl

-- what follows within a part, and what follows the part
rest-of-part : (list : List ℕ) (n by : ℕ) → by ≤ n
    → drop by (take n list) ++ drop n list ≡ drop by list
rest-of-part list n by within =
    let rest = n - by in
    let many : n ≡ by + rest = omega arith in
    let later : drop (by + rest) list ≡ drop rest (drop by list) = sym (drop-drop rest by list) in
    rw (many, drop-take by rest list, later) (take-append-drop rest (drop by list))

-- a list of which a part was overwritten
overwritten_in_part : (old part bytes : List ℕ) (at n by : ℕ) → by + length bytes ≤ n
    → part ≡ overwritten (take n (drop at old)) by bytes
    → take at old ++ (part ++ drop n (drop at old)) ≡ overwritten old (at + by) bytes
unfolding overwritten
overwritten_in_part old part bytes at n by inside is =
    let behind = drop at old in
    let past = by + length bytes in
    let front : take (at + by) old ≡ take at old ++ take by behind = take-add at by old in
    let start : take by (take n behind) ≡ take by behind = take-take by n behind (omega arith) in
    let there : at + past ≡ at + by + length bytes = omega arith in
    let end : drop past (take n behind) ++ drop n behind ≡ drop (at + by + length bytes) old =
    rest-of-part behind n past inside
    ∙ drop-drop past at old
    ∙ ap (λ (k : ℕ). drop k old) there
    in
    rw (is, start, front, sym end) (simp append_assoc refl)

-- a list of which k bytes slid within a part
pub slid_in_part : (old part : List ℕ) (at n low high k : ℕ)
    → at + n ≤ length old → low + k ≤ n → high + k ≤ n
    → part ≡ overwritten (take n (drop at old)) high (take k (drop low (take n (drop at old))))
    → take at old ++ (part ++ drop n (drop at old)) ≡ overwritten old (at + high) (take k (drop (at + low) old))
slid_in_part old part at n low high k within source target is =
    let behind = drop at old in
    let moved = take k (drop low behind) in
    let here : take k (drop low (take n behind)) ≡ moved = part-in-part behind n low k source in
    let there : moved ≡ take k (drop (at + low) old) = ap (λ (l : List ℕ). take k l) (drop-drop low at old) in
    let size : length moved ≡ k = length-taken behind low k (simp length-drop (omega arith)) in
    rw (sym there) (overwritten_in_part old part moved at n high (omega (arith, size)) (rw (sym here) is))

-- a list of which the bytes after a gap slid down into it
pub slid_down : (old part : List ℕ) (from to n by : ℕ) → from + n ≤ length old → from ≡ to + by
    → part ≡ overwritten (slice_range old to (from + n)) 0
    (slice_range (slice_range old to (from + n)) by (length (slice_range old to (from + n))))
    → take to old ++ (part ++ drop (from + n - to) (drop to old))
    ≡ overwritten old to (slice_range old from (from + n))
slid_down old part from to n by within apart is =
    let many = length-taken old to (from + n - to) (omega (arith, apart)) in
    let k = length (slice_range old to (from + n)) - by in
    let source : by + k ≤ from + n - to = omega (arith, many, apart) in
    let target : 0 + k ≤ from + n - to = omega (arith, many) in
    let same : k ≡ from + n - from = omega (arith, many, apart) in
    let start : to + 0 ≡ to = omega arith in
    slid_in_part old part to (from + n - to) by 0 k (omega (arith, apart)) source target is
    ∙ rw (start, same, sym apart) refl

-- a list of which the bytes before a gap slid up into it
pub slid_up : (old part : List ℕ) (from to n by : ℕ) → to + n ≤ length old → to ≡ from + by
    → part ≡ overwritten (slice_range old from (to + n)) by
    (slice_range (slice_range old from (to + n)) 0 (length (slice_range old from (to + n)) - by))
    → take from old ++ (part ++ drop (to + n - from) (drop from old))
    ≡ overwritten old to (slice_range old from (from + n))
slid_up old part from to n by within apart is =
    let many = length-taken old from (to + n - from) (omega (arith, apart)) in
    let k = length (slice_range old from (to + n)) - by - 0 in
    let source : 0 + k ≤ to + n - from = omega (arith, many) in
    let target : by + k ≤ to + n - from = omega (arith, many, apart) in
    let same : k ≡ from + n - from = omega (arith, many, apart) in
    let start : from + 0 ≡ from = omega arith in
    slid_in_part old part from (to + n - from) 0 by k (omega (arith, apart)) source target is
    ∙ rw (start, same, sym apart) refl

-- a list of which n bytes were copied further down, to where they are not
pub copied_down : (old new : List ℕ) (from to n : ℕ) → to + n ≤ from → from + n ≤ length old
    → new ≡ take n (drop from old)
    → (take to (take from old) ++ (new ++ drop (to + n - to) (drop to (take from old)))) ++ drop from old
    ≡ overwritten old to (slice_range old from (from + n))
unfolding overwritten
copied_down old new from to n apart within is =
    let part = slice_range old from (from + n) in
    let k : from + n - from ≡ n = omega arith in
    let here : new ≡ part = rw k is in
    let many : to + n ≡ to + length part = omega (arith, length-taken old from (from + n - from) (omega (arith, within))) in
    let front : take to (take from old) ≡ take to old = take-take to from old (omega (arith, apart)) in
    let j : to + n - to ≡ n = omega arith in
    let end : drop n (drop to (take from old)) ++ drop from old ≡ drop (to + length part) old =
    ap (λ (l : List ℕ). l ++ drop from old) (drop-drop n to (take from old))
    ∙ rest-of-part old from (to + n) apart
    ∙ ap (λ (m : ℕ). drop m old) many
    in
    rw (here, front, j, sym end) (simp append_assoc refl)
