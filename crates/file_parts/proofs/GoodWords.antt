-- The values of words that are good.
use Rattle.file_parts.proofs.AllWords.{◌≡◌, ◌<◌, ℕ, Bool, true, false, Option, Some, None, List, refl, arith, Ok, nat_lt, option_and_then, below, IsGoodWord, unless_missing, spelled_part, part_or, Blob}

pub good_value : {A : Type 0} (number : ℕ) (value : Option A) (x : A)
    → IsGoodWord number value (Ok x) → value ≡ Some x
good_value number None x is = absurd cc
good_value number (Some y) x is = cc

pub below_small : (limit n : ℕ) (number : Option ℕ) → below limit number ≡ Some n → n < limit
below_small limit n None is = absurd cc
below_small limit n (Some m) is = by_limit (nat_lt m limit) refl where
  by_limit : (v : Bool) → nat_lt m limit ≡ v → n < limit
  by_limit true low = let same : Some m ≡ Some n = rw low at is in let eq : m ≡ n = cc in
      let less = low in grind arith
  by_limit false high = absurd (none_is (rw high at is)) where
    none_is : None ≡ Some n → ⊥
    none_is e = cc

missing : (may_miss : Bool) (found : Option Blob) (part : Blob)
    → option_and_then (unless_missing may_miss) found ≡ Some part → part ≡ None → may_miss ≡ true
missing may_miss None part is none = absurd cc
missing true (Some found) part is none = refl
missing false (Some None) part is none = absurd cc
missing false (Some (Some name)) part is none = absurd cc

pub part_missing : (may_miss : Bool) (word : List ℕ) (part : Blob)
    → part_or may_miss word ≡ Some part → part ≡ None → may_miss ≡ true
part_missing may_miss word part is none = missing may_miss (spelled_part word) part is none
