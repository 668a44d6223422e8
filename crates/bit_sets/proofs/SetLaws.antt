-- The bits of sets, and the first that is missing.
use Rattle.std.proofs.Common.{◌≡◌, ◌≢◌, ℕ, zero, suc, ◌+◌, ◌*◌, ◌/◌, ◌%◌, ◌^◌, ◌<◌, ◌≤◌, true, List, length, get_or, set, replicate, bit_and, bit_or, bit_xor, refl, sym, ap, ◌∙◌, arith, inl, inr, w8}
use Rattle.std.proofs.lemmas.Bool.{cases_eq, cases_lt, eqb-false, ne_eqb, not-true, not_from_false}
use Rattle.std.proofs.lemmas.Nat.{pow_below}
use Rattle.std.proofs.Math.Nat.{mod-eq_of_lt, one-le-pow}
use Rattle.std.proofs.lemmas.List.{get_or-set_same, get_or-set_other, get_or_past, get_or-replicate, length-replicate}
use Rattle.std.proofs.lemmas.Nat.Bits.{and_pow, bit_at_set_same, bit_at_set_other, bit_at-lt, bit_at-zero, bit_at_xor, bit_at-pow_same, bit_at-pow_other, bit_at_ones, bit_at-trailing_ones}
use Rattle.std.specs.Prelude.{◌↔◌, not, nat_eq}
use Rattle.std.specs.Int.{bit_at, trailing_ones}
use Rattle.bit_sets.specs.Sets.{IsInSet, HasNone, AddsNumber, RemovesNumber, IsFirstMissing}

-- ---- one bit

one_times : (m : ℕ) → 1 * m ≡ m
one_times m = omega arith

zero_times : (m : ℕ) → 0 * m ≡ 0
zero_times m = omega arith

mask : (n k : ℕ) → k < 8 → bit_and n (1 * 2 ^ k % 2 ^ 8) ≡ bit_at n k * 2 ^ k
mask n k small =
    let less : 2 ^ k < 2 ^ 8 = pow_below k 8 small in
    let e : 1 * 2 ^ k % 2 ^ 8 ≡ 2 ^ k = ap (λ (m : ℕ). m % 2 ^ 8) (one_times (2 ^ k)) ∙ mod-eq_of_lt less in
    ap (λ (m : ℕ). bit_and n m) e ∙ and_pow n k

by_bit : (b m x : ℕ) → 1 ≤ m → b < 2 → x ≡ b * m → ((not (nat_eq x 0) ≡ true) ↔ (b ≡ 1))
by_bit zero m x some small e =
    let none : x ≡ 0 = e ∙ zero_times m in
    (λ yes. absurd (eqb-false x 0 (not-true (nat_eq x 0) yes) none), λ one. absurd (omega arith))
by_bit (suc zero) m x some small e = let same : x ≡ m = e ∙ one_times m in (λ yes. refl, λ one. not_from_false (nat_eq x 0) (ne_eqb x 0 (λ none. omega arith)))
by_bit (suc (suc b)) m x some small e = absurd (omega arith)

-- the test of a bit
pub bit_tested : (n k : ℕ) → k < 8 → ((not (nat_eq (bit_and n (1 * 2 ^ k % 2 ^ 8)) 0) ≡ true) ↔ (bit_at n k ≡ 1))
bit_tested n k small = by_bit (bit_at n k) (2 ^ k) (bit_and n (1 * 2 ^ k % 2 ^ 8)) (one-le-pow k 2 (omega arith)) (bit_at-lt n k) (mask n k small)

-- ---- one number

-- if another byte is written, a number is in the set as before
other_byte : (seen : List ℕ) (at byte other : ℕ) → other / 8 ≢ at → bit_at (get_or (set seen at byte) (other / 8) 0) (other % 8) ≡ bit_at (get_or seen (other / 8) 0) (other % 8)
other_byte seen at byte other apart = ap (λ (n : ℕ). bit_at n (other % 8)) (get_or-set_other seen at (other / 8) byte 0 apart)

-- if its byte is written, the number is in the set as the byte says
own_byte : (seen : List ℕ) (at byte other : ℕ) → at < length seen → other / 8 ≡ at → bit_at (get_or (set seen at byte) (other / 8) 0) (other % 8) ≡ bit_at byte (other % 8)
own_byte seen at byte other inside same = ap (λ (b : ℕ). bit_at (get_or (set seen at byte) b 0) (other % 8)) same ∙ ap (λ (n : ℕ). bit_at n (other % 8)) (get_or-set_same seen at byte 0 inside)

pub number_added : (seen new : List ℕ) (number : ℕ) → number / 8 < length seen → new ≡ set seen (number / 8) (bit_or (get_or seen (number / 8) 0) (1 * 2 ^ (number % 8) % 2 ^ 8)) → AddsNumber seen new number
number_added seen new number inside e = rw e (record {
  here = own_byte seen (number / 8) byte number inside refl ∙ bit_at_set_same w8 (get_or seen (number / 8) 0) (number % 8) (omega arith);
  others = λ other apart. let same = kept other apart in (λ one. sym same ∙ one, λ one. same ∙ one);
}) where
  byte : ℕ
  byte = bit_or (get_or seen (number / 8) 0) (1 * 2 ^ (number % 8) % 2 ^ 8)

  kept : (other : ℕ) → other ≢ number → bit_at (get_or (set seen (number / 8) byte) (other / 8) 0) (other % 8) ≡ bit_at (get_or seen (other / 8) 0) (other % 8)
  kept other apart = elim (cases_eq (other / 8) (number / 8)) [
    | inl same ↦
        own_byte seen (number / 8) byte other inside same ∙ bit_at_set_other w8 (get_or seen (number / 8) 0) (number % 8) (omega arith) (other % 8) (λ f. apart (omega arith))
        ∙ ap (λ (b : ℕ). bit_at (get_or seen b 0) (other % 8)) (sym same)
    | inr ne ↦ other_byte seen (number / 8) byte other ne
  ]

-- ---- one number fewer

flip_mask : (k : ℕ) → k < 8 → 1 * 2 ^ k % 2 ^ 8 ≡ 2 ^ k
flip_mask k small = let less : 2 ^ k < 2 ^ 8 = pow_below k 8 small in ap (λ (m : ℕ). m % 2 ^ 8) (one_times (2 ^ k)) ∙ mod-eq_of_lt less

flip_same : (n k : ℕ) → k < 8 → bit_at n k ≡ 1 → bit_at (bit_xor n (1 * 2 ^ k % 2 ^ 8)) k ≡ 0
flip_same n k small one =
    let bits = bit_at_xor n (2 ^ k) k in
    let own = bit_at-pow_same k in
    ap (λ (m : ℕ). bit_at (bit_xor n m) k) (flip_mask k small) ∙ bits ∙ ap (λ (x : ℕ). (x + bit_at (2 ^ k) k) % 2) one ∙ ap (λ (y : ℕ). (1 + y) % 2) own

flip_other : (n k i : ℕ) → k < 8 → i ≢ k → bit_at (bit_xor n (1 * 2 ^ k % 2 ^ 8)) i ≡ bit_at n i
flip_other n k i small apart =
    let bits = bit_at_xor n (2 ^ k) i in
    let none = bit_at-pow_other k i apart in
    let low = bit_at-lt n i in
    ap (λ (m : ℕ). bit_at (bit_xor n m) i) (flip_mask k small) ∙ bits ∙ ap (λ (y : ℕ). (bit_at n i + y) % 2) none ∙ omega (arith, low)

pub number_removed : (seen new : List ℕ) (number : ℕ) → number / 8 < length seen → IsInSet seen number → new ≡ set seen (number / 8) (bit_xor (get_or seen (number / 8) 0) (1 * 2 ^ (number % 8) % 2 ^ 8)) → RemovesNumber seen new number
number_removed seen new number inside has e = rw e (record {
  gone = λ one. let none = own_byte seen (number / 8) byte number inside refl ∙ flip_same (get_or seen (number / 8) 0) (number % 8) (omega arith) has in absurd (omega (arith, none, one));
  others = λ other apart. let same = kept other apart in (λ one. sym same ∙ one, λ one. same ∙ one);
}) where
  byte : ℕ
  byte = bit_xor (get_or seen (number / 8) 0) (1 * 2 ^ (number % 8) % 2 ^ 8)

  kept : (other : ℕ) → other ≢ number → bit_at (get_or (set seen (number / 8) byte) (other / 8) 0) (other % 8) ≡ bit_at (get_or seen (other / 8) 0) (other % 8)
  kept other apart = elim (cases_eq (other / 8) (number / 8)) [
    | inl same ↦
        own_byte seen (number / 8) byte other inside same ∙ flip_other (get_or seen (number / 8) 0) (number % 8) (other % 8) (omega arith) (λ f. apart (omega arith))
        ∙ ap (λ (b : ℕ). bit_at (get_or seen b 0) (other % 8)) (sym same)
    | inr ne ↦ other_byte seen (number / 8) byte other ne
  ]

-- ---- the empty set

at_replicated : (size index each : ℕ) → each ≡ 0 → get_or (replicate size each) index 0 ≡ each
at_replicated size index each none = elim (cases_lt index size) [
  | inl less ↦ get_or-replicate size index each 0 less
  | inr past ↦ get_or_past (replicate size each) index 0 (let len = length-replicate size each in omega arith) ∙ sym none
]

pub none_in_zeros : (size each : ℕ) → each ≡ 0 → HasNone (replicate size each)
none_in_zeros size each none number has =
    let zero_bit = ap (λ (byte : ℕ). bit_at byte (number % 8)) (at_replicated size (number / 8) each none ∙ none) ∙ bit_at-zero (number % 8) in
    omega arith

-- ---- the first that is missing

-- each number below this is in the set
pub record HasBelow (seen : List ℕ) (end : ℕ) : Type 0 where
  pub all : (number : ℕ) → number < end → IsInSet seen number

bit_of : (seen : List ℕ) (index number : ℕ) → number / 8 ≡ index → bit_at (get_or seen (number / 8) 0) (number % 8) ≡ bit_at (get_or seen index 0) (number % 8)
bit_of seen index number is = ap (λ (i : ℕ). bit_at (get_or seen i 0) (number % 8)) is

-- a byte with all of its bits has its eight numbers
pub full_byte : (seen : List ℕ) (index : ℕ) → get_or seen index 0 ≡ 255 → HasBelow seen (8 * index) → HasBelow seen (8 * (index + 1))
full_byte seen index full h = record {
  all = λ number below. elim (cases_lt number (8 * index)) [
    | inl less ↦ h.all number less
    | inr here ↦ bit_of seen index number (omega arith) ∙ ap (λ (byte : ℕ). bit_at byte (number % 8)) full ∙ bit_at_ones 8 (number % 8) (omega arith)
  ];
}

-- another byte has the first that is missing
pub missing_in_byte : (seen : List ℕ) (index byte : ℕ) → get_or seen index 0 ≡ byte → byte < 255 → HasBelow seen (8 * index) → IsFirstMissing seen (8 * index + trailing_ones w8 byte)
missing_in_byte seen index byte is small h = record {
  here = λ one. (
      let last = at (trailing_ones w8 byte) facts.0 in
      let zero_bit = facts.1 in
      omega arith);
  none_below = λ number below no. elim (cases_lt number (8 * index)) [
    | inl less ↦ no (h.all number less)
    | inr here ↦ let within = facts.0 in no (bit_of seen index number (omega arith) ∙ ap (λ (b : ℕ). bit_at b (number % 8)) is ∙ facts.2 (number % 8) (omega arith))
  ];
} where
  facts : (trailing_ones w8 byte < 8) × (bit_at byte (trailing_ones w8 byte) ≡ 0) × ((i : ℕ) → i < trailing_ones w8 byte → bit_at byte i ≡ 1)
  facts = bit_at-trailing_ones w8 byte (omega arith)

  at : (k : ℕ) → k < 8 → bit_at (get_or seen ((8 * index + k) / 8) 0) ((8 * index + k) % 8) ≡ bit_at byte k
  at k less =
      let quotient : (8 * index + k) / 8 ≡ index = omega arith in
      let rest : (8 * index + k) % 8 ≡ k = omega arith in
      bit_of seen index (8 * index + k) quotient ∙ ap (λ (b : ℕ). bit_at b ((8 * index + k) % 8)) is ∙ ap (bit_at byte) rest
