-- Bytes that are carried past others, which may be lent: the first are cut out, copied, and put
-- back.
use Rattle.std.proofs.Common.{◌≡◌, ℕ, ◌+◌, ◌-◌, ◌≤◌, List, ◌++◌, length, take, drop, replicate, slice_range, refl, sym, ap, subst, ◌∙◌, append_assoc, arith, length-take, length-drop, take-append-drop, inl, inr}
use Rattle.std.specs.Prelude.{◌⊎◌}
use Rattle.std.proofs.lemmas.List.{drop-drop, take_at, drop_at, length-replicate, take-append-le, drop-append-le}
use Rattle.std.proofs.Math.Seq.{take-append-add}
use Rattle.heap_model.specs.Bytes.{overwritten}
use Rattle.raw_region.proofs.PartLaws.{part-in-part, length-taken}
use Rattle.raw_region.proofs.GapWrites.{length-over}

-- what is dropped of a list and another is all of the first, and more
drop_past : (front rest : List ℕ) (at : ℕ) → length front ≤ at → drop at (front ++ rest) ≡ drop (at - length front) rest
drop_past front rest at past =
    let more : at ≡ length front + (at - length front) = omega arith in
    ap (λ (k : ℕ). drop k (front ++ rest)) more
    ∙ sym (drop-drop (at - length front) (length front) (front ++ rest))
    ∙ ap (λ (l : List ℕ). drop (at - length front) l) (drop_at front rest (length front) refl)

pub over_front : (front rest part : List ℕ) (at : ℕ) → at + length part ≤ length front
    → overwritten (front ++ rest) at part ≡ overwritten front at part ++ rest
unfolding overwritten
over_front front rest part at within =
    rw (take-append-le at front rest (omega arith), drop-append-le (at + length part) front rest within)
    (simp append_assoc refl)

take_past : (front rest : List ℕ) (at : ℕ) → length front ≤ at → take at (front ++ rest) ≡ front ++ take (at - length front) rest
take_past front rest at past =
    let more : at ≡ length front + (at - length front) = omega arith in
    ap (λ (k : ℕ). take k (front ++ rest)) more ∙ take-append-add front rest (at - length front)

pub over_back : (front rest part : List ℕ) (at : ℕ) → length front ≤ at
    → overwritten (front ++ rest) at part ≡ front ++ overwritten rest (at - length front) part
unfolding overwritten
over_back front rest part at past =
    let end : at + length part - length front ≡ at - length front + length part = omega arith in
    rw (take_past front rest at past, drop_past front rest (at + length part) (omega arith), end)
    (simp append_assoc refl)

-- what is lent is cut out, and zeros are there
pub cut_out : (bytes : List ℕ) (at n : ℕ)
    → take at bytes ++ (replicate n 0 ++ drop n (drop at bytes)) ≡ overwritten bytes at (replicate n 0)
unfolding overwritten
cut_out bytes at n =
    let zeros : List ℕ = replicate n 0 in
    let many : length zeros ≡ n = length-replicate n 0 in
    let end : drop n (drop at bytes) ≡ drop (at + length zeros) bytes = drop-drop n at bytes ∙ ap (λ (k : ℕ). drop (at + k) bytes) (sym many) in
    rw end (sym (append_assoc (take at bytes) zeros (drop (at + length zeros) bytes)))

-- and put back
pub put_back : (front behind part : List ℕ) (count : ℕ) → length part ≡ count
    → front ++ (part ++ behind) ≡ overwritten (front ++ (replicate count 0 ++ behind)) (length front) part
unfolding overwritten
put_back front behind part count many =
    let zeros : List ℕ = replicate count 0 in
    let zs : length zeros ≡ count = length-replicate count 0 in
    let first : take (length front) (front ++ (zeros ++ behind)) ≡ front = take_at front (zeros ++ behind) (length front) refl in
    let rest : drop (length front + length part) (front ++ (zeros ++ behind)) ≡ behind =
    sym (drop-drop (length part) (length front) (front ++ (zeros ++ behind)))
    ∙ ap (λ (l : List ℕ). drop (length part) l) (drop_at front (zeros ++ behind) (length front) refl)
    ∙ drop_at zeros behind (length part) (zs ∙ sym many)
    in
    rw (first, rest) (sym (append_assoc front part behind))

-- bytes that are cut out and put back
restored : (xs : List ℕ) (at n : ℕ) → at + n ≤ length xs → overwritten (overwritten xs at (replicate n 0)) at (take n (drop at xs)) ≡ xs
restored xs at n within =
    let part = take n (drop at xs) in let rest = drop n (drop at xs) in
    let few : length (take at xs) ≡ at = omega (arith, length-take at xs, within) in
    ap (λ (l : List ℕ). overwritten l at part) (sym (cut_out xs at n))
    ∙ ap (λ (k : ℕ). overwritten (take at xs ++ (replicate n 0 ++ rest)) k part) (sym few)
    ∙ sym (put_back (take at xs) rest part n (length-taken xs at n within))
    ∙ ap (λ (l : List ℕ). take at xs ++ l) (take-append-drop n (drop at xs))
    ∙ take-append-drop at xs

carried_up : (xs : List ℕ) (from to n : ℕ) → from + n ≤ to → to + n ≤ length xs
    → overwritten (overwritten (overwritten xs from (replicate n 0)) to (take n (drop from xs))) from (take n (drop from xs)) ≡ overwritten xs to (take n (drop from xs))
carried_up xs from to n apart within =
    let part = take n (drop from xs) in let zeros : List ℕ = replicate n 0 in
    let front = take (from + n) xs in let rest = drop (from + n) xs in
    let all : front ++ rest ≡ xs = take-append-drop (from + n) xs in
    let same : take n (drop from front) ≡ part = part-in-part xs (from + n) from n (omega arith) in
    let long : length front ≡ from + n = omega (arith, length-take (from + n) xs, apart, within) in
    let zs : length zeros ≡ n = length-replicate n 0 in
    let ps = length-taken xs from n (omega (arith, apart, within)) in
    let cut = overwritten front from zeros in
    let size : length cut ≡ length front = length-over front zeros from (omega (arith, zs, long)) in
    let back : overwritten cut from part ≡ front = ap (λ (l : List ℕ). overwritten cut from l) (sym same) ∙ restored front from n (omega (arith, long)) in
    ap (λ (l : List ℕ). overwritten (overwritten (overwritten l from zeros) to part) from part) (sym all)
    ∙ ap (λ (l : List ℕ). overwritten (overwritten l to part) from part) (over_front front rest zeros from (omega (arith, zs, long)))
    ∙ ap (λ (l : List ℕ). overwritten l from part) (over_back cut rest part to (omega (arith, size, long, apart)))
    ∙ over_front cut (overwritten rest (to - length cut) part) part from (omega (arith, ps, size, long))
    ∙ (λ i. back i ++ overwritten rest (to - size i) part)
    ∙ sym (over_back front rest part to (omega (arith, long, apart)))
    ∙ ap (λ (l : List ℕ). overwritten l to part) all

carried_down : (xs : List ℕ) (from to n : ℕ) → to + n ≤ from → from + n ≤ length xs
    → overwritten (overwritten (overwritten xs from (replicate n 0)) to (take n (drop from xs))) from (take n (drop from xs)) ≡ overwritten xs to (take n (drop from xs))
carried_down xs from to n apart within =
    let part = take n (drop from xs) in let zeros : List ℕ = replicate n 0 in
    let front = take from xs in let rest = drop from xs in
    let all : front ++ rest ≡ xs = take-append-drop from xs in
    let long : length front ≡ from = omega (arith, length-take from xs, within) in
    let behind : length rest ≡ length xs - from = length-drop from xs in
    let ps = length-taken xs from n within in
    let zero : from - length front ≡ 0 = omega (arith, long) in
    let put = overwritten front to part in
    let size : length put ≡ length front = length-over front part to (omega (arith, ps, long, apart)) in
    let none : from - length put ≡ 0 = omega (arith, size, long) in
    let back : overwritten (overwritten rest 0 zeros) 0 part ≡ rest = restored rest 0 n (omega (arith, behind, within)) in
    ap (λ (l : List ℕ). overwritten (overwritten (overwritten l from zeros) to part) from part) (sym all)
    ∙ ap (λ (l : List ℕ). overwritten (overwritten l to part) from part) (over_back front rest zeros from (omega (arith, long)))
    ∙ ap (λ (l : List ℕ). overwritten l from part) (over_front front (overwritten rest (from - length front) zeros) part to (omega (arith, ps, long, apart)))
    ∙ over_back put (overwritten rest (from - length front) zeros) part from (omega (arith, size, long))
    ∙ (λ i. put ++ overwritten (overwritten rest (zero i) zeros) (none i) part)
    ∙ ap (λ (l : List ℕ). put ++ l) back
    ∙ sym (over_front front rest part to (omega (arith, ps, long, apart)))
    ∙ ap (λ (l : List ℕ). overwritten l to part) all

pub carried : (xs : List ℕ) (from to n : ℕ) → from + n ≤ length xs → to + n ≤ length xs → (from + n ≤ to) ⊎ (to + n ≤ from)
    → overwritten (overwritten (overwritten xs from (replicate n 0)) to (slice_range xs from (from + n))) from (slice_range xs from (from + n)) ≡ overwritten xs to (slice_range xs from (from + n))
carried xs from to n source target apart =
    let e : n ≡ from + n - from = omega arith in
    let by : overwritten (overwritten (overwritten xs from (replicate n 0)) to (take n (drop from xs))) from (take n (drop from xs)) ≡ overwritten xs to (take n (drop from xs)) =
    elim apart [
      | inl up ↦ carried_up xs from to n up target
      | inr down ↦ carried_down xs from to n down source
    ] in
    subst (λ (k : ℕ). overwritten (overwritten (overwritten xs from (replicate n 0)) to (take k (drop from xs))) from (take k (drop from xs)) ≡ overwritten xs to (take k (drop from xs))) e by
