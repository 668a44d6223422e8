-- A region that is filled from a reader: what it has and what is left are what the reader had.
use Rattle.std.proofs.Common.{◌≡◌, ◌≢◌, ℕ, ◌+◌, ◌<◌, ◌≤◌, Option, Some, None, List, ◌++◌, length, take, drop, sym, ap, ◌∙◌, arith, append_assoc, append-nil, length-append}
use Rattle.std.specs.Prelude.{IfSome}
use Rattle.std.specs.Io.KnownBytes.{Consumes, IsAtEnd, Keeps, prepend_known}
use Rattle.std.proofs.lemmas.List.{length-take, take_all}
use Rattle.std.proofs.Math.Seq.{take-append_seam}
use Rattle.heap_model.specs.Bytes.{overwritten}

pub front_written : (old : List ℕ) (at : ℕ) (part : List ℕ) → at + length part ≤ length old → take (at + length part) (overwritten old at part) ≡ take at old ++ part
unfolding overwritten
front_written old at part inside =
    let count = length-take at old in
    let both = length-append (take at old) part in
    let long : at + length part ≡ length (take at old ++ part) = omega arith in
    ap (λ (n : ℕ). take n ((take at old ++ part) ++ drop (at + length part) old)) long
    ∙ take-append_seam (take at old ++ part) (drop (at + length part) old)

-- one read, and a write of what it gave
pub filled : (first last : Option (List ℕ)) (old new part : List ℕ) (at to : ℕ) → Consumes first last part → take to new ≡ take at old ++ part
    → Keeps (prepend_known (take at old) first) (prepend_known (take to new) last)
filled None last old new part at to consumes front = tt
filled (Some xs) None old new part at to consumes front = absurd consumes
filled (Some xs) (Some ys) old new part at to consumes front =
    ap (λ (zs : List ℕ). zs ++ ys) front ∙ append_assoc (take at old) part ys ∙ ap (λ (zs : List ℕ). take at old ++ zs) (sym consumes)

-- a full region, and nothing left
pub all_read : (first last : Option (List ℕ)) (bytes : List ℕ) (at : ℕ) → Keeps first (prepend_known (take at bytes) last) → IsAtEnd last → length bytes ≤ at
    → IfSome first (λ all. bytes ≡ all)
all_read None last bytes at kept end full = tt
all_read (Some xs) None bytes at kept end full = absurd kept
all_read (Some xs) (Some ys) bytes at kept end full =
    sym (take_all at bytes full) ∙ sym (append-nil (take at bytes)) ∙ ap (λ (zs : List ℕ). take at bytes ++ zs) (sym end) ∙ kept

-- a region that isn't full, and nothing left
pub too_short : (first last : Option (List ℕ)) (bytes : List ℕ) (at size : ℕ) → Keeps first (prepend_known (take at bytes) last) → IsAtEnd last → at < length bytes → length bytes ≡ size
    → IfSome first (λ all. length all ≢ size)
too_short None last bytes at size kept end more is = tt
too_short (Some xs) None bytes at size kept end more is = absurd kept
too_short (Some xs) (Some ys) bytes at size kept end more is = λ same.
    let all = ap length kept in
    let both = length-append (take at bytes) ys in
    let none = ap length end in
    let count = length-take at bytes in
    omega arith

-- more was left than there was room for
pub too_long : (first last : Option (List ℕ)) (bytes : List ℕ) (at size : ℕ) → Keeps first (prepend_known (take at bytes) last)
    → IfSome (prepend_known (take at bytes) last) (λ all. length bytes < length all) → length bytes ≡ size
    → IfSome first (λ all. length all ≢ size)
too_long None last bytes at size kept more is = tt
too_long (Some xs) None bytes at size kept more is = absurd kept
too_long (Some xs) (Some ys) bytes at size kept more is = λ same.
    let all = ap length kept in
    omega arith
