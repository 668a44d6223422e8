-- A part of a file that is read in several turns.
use Rattle.std.proofs.Common.{◌≡◌, ℕ, Option, Some, None, List, ◌++◌, ◌+◌, ◌-◌, ◌<◌, ◌≤◌, ◌≢◌, length, take, drop, refl, sym, ap, subst, ◌∙◌, arith}
use borrow.Rule.Slice.PartMut.{put_mid}
use Rattle.std.specs.Prelude.{IfSome}
use Rattle.std.proofs.lemmas.List.{drop-drop, take_all, take-take, length-drop, length-take, length-take-le}
use Rattle.std.proofs.lemmas.Slice.{take-put_mid}
use Rattle.std.proofs.Math.Seq.{take-add, take-append-add}
use Rattle.file_commands.specs.Starts.{IsPartOfFile}

-- the file has no byte after those that were read
pub no_more : (file : Option (List ℕ)) (offset at count : ℕ) (part : List ℕ) → at ≤ count → IsPartOfFile file offset at part → IfSome file (λ all. length all ≤ offset + at) → IsPartOfFile file offset count part
no_more None offset at count part less is end = tt
no_more (Some all) offset at count part less is end =
    let long = length-drop offset all in
    is ∙ take_all at (drop offset all) (omega (arith, long, end)) ∙ sym (take_all count (drop offset all) (omega (arith, long, end, less)))

-- nothing is read of a file at first
pub none_read : (file : Option (List ℕ)) (offset : ℕ) (buffer : List ℕ) → IsPartOfFile file offset 0 (take 0 buffer)
none_read None offset buffer = tt
none_read (Some all) offset buffer = refl

-- two parts of a file, one after another
more_read : (file : Option (List ℕ)) (offset at n : ℕ) (old new : List ℕ) → at ≤ length old → IsPartOfFile file offset at (take at old) → IsPartOfFile file (offset + at) n (take n new)
    → IsPartOfFile file offset (at + n) (take at old ++ take n new)
more_read None offset at n old new inside is more = tt
more_read (Some all) offset at n old new inside is more =
    ap (λ (xs : List ℕ). xs ++ take n new) is
    ∙ ap (λ (xs : List ℕ). take at (drop offset all) ++ xs) (more ∙ ap (take n) (sym (drop-drop at offset all)))
    ∙ sym (take-add at n (drop offset all))

-- the buffer is full
pub is_full : (file : Option (List ℕ)) (offset at count : ℕ) (part : List ℕ) → at ≡ count → IsPartOfFile file offset at part → IsPartOfFile file offset count part
is_full file offset at count part full is = subst (λ (n : ℕ). IsPartOfFile file offset n part) full is

mid_read : (at k n : ℕ) (old new : List ℕ) → at ≤ length old → n ≤ length new → take (at + n) (put_mid at k old new) ≡ take at old ++ take n new
mid_read at k n old new inside less =
    let long = length-take-le at old inside in
    sym (take-take (at + n) (at + length new) (put_mid at k old new) (omega (arith, less)))
    ∙ ap (take (at + n)) (take-put_mid at k old new (at + length new) refl inside)
    ∙ ap (λ (m : ℕ). take (m + n) (take at old ++ new)) (sym long)
    ∙ take-append-add (take at old) new n

-- the buffer after a read into its rest
pub turn_read : (file : Option (List ℕ)) (offset at k n : ℕ) (old new : List ℕ) → at ≤ length old → n ≤ length new → IsPartOfFile file offset at (take at old) → IsPartOfFile file (offset + at) n (take n new)
    → IsPartOfFile file offset (at + n) (take (at + n) (put_mid at k old new))
turn_read file offset at k n old new inside less is more =
    subst (IsPartOfFile file offset (at + n)) (sym (mid_read at k n old new inside less)) (more_read file offset at n old new inside is more)

-- a full part is all that was read
pub filled : (file : Option (List ℕ)) (offset n count : ℕ) (buffer : List ℕ) → length buffer ≡ count → count ≤ n → IsPartOfFile file offset (length buffer) (take n buffer) → IsPartOfFile file offset count buffer
filled file offset n count buffer is full read =
    subst (λ (part : List ℕ). IsPartOfFile file offset count part) (take_all n buffer (omega (arith, is, full)))
    (subst (λ (m : ℕ). IsPartOfFile file offset m (take n buffer)) is read)

-- a part that isn't full ends with the file
pub ends : (file : Option (List ℕ)) (offset n count : ℕ) (buffer : List ℕ) → length buffer ≡ count → n < count → IsPartOfFile file offset (length buffer) (take n buffer)
    → IfSome file (λ all. length all - offset < count)
ends None offset n count buffer is less read = tt
ends (Some all) offset n count buffer is less read =
    let long = length-drop offset all in
    let left = length-take-le n buffer (omega (arith, is, less)) in
    let right = length-take (length buffer) (drop offset all) in
    let same = ap length read in
    omega (arith, long, left, right, same, is, less)

-- two bytes from the last one on: one of them is there
pub one_left : (file : Option (List ℕ)) (size : ℕ) (buffer : List ℕ) → 0 < size → length buffer ≡ 2 → IsPartOfFile file (size - 1) (length buffer) (take 1 buffer) → IfSome file (λ all. length all ≡ size)
one_left None size buffer some is read = tt
one_left (Some all) size buffer some is read =
    let long = length-drop (size - 1) all in
    let left = length-take-le 1 buffer (omega (arith, is)) in
    let right = length-take (length buffer) (drop (size - 1) all) in
    let same = ap length read in
    omega (arith, long, left, right, same, is, some)

-- none or both of them are there
pub not_one_left : (file : Option (List ℕ)) (size n : ℕ) (buffer : List ℕ) → 0 < size → length buffer ≡ 2 → n ≤ 2 → n ≢ 1 → IsPartOfFile file (size - 1) (length buffer) (take n buffer) → IfSome file (λ all. length all ≢ size)
not_one_left None size n buffer some is most other read = tt
not_one_left (Some all) size n buffer some is most other read = λ has.
    let long = length-drop (size - 1) all in
    let left = length-take-le n buffer (omega (arith, is, most)) in
    let right = length-take (length buffer) (drop (size - 1) all) in
    let same = ap length read in
    other (omega (arith, long, left, right, same, is, some, has))
