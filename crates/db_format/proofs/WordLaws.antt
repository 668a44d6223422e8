-- What a part of a list reads as, and what a list begins with once a part of it is written.
use Rattle.std.proofs.Common.{◌≡◌, ℕ, zero, suc, ◌+◌, ◌-◌, ◌^◌, ◌<◌, ◌≤◌, List, [], ◌∷◌, ◌++◌, slice_index, slice_set, bit_and, length, take, drop, refl, sym, ap, ◌∙◌, append_assoc, arith, length-take, length-drop, length-append}
use Rattle.std.proofs.lemmas.Nat.{and_mask, mod-mul-add}
use Rattle.std.proofs.lemmas.List.{append-nil, drop_all, take_at, take_all}
use Rattle.std.proofs.lemmas.List.Folds.{concat-append}
use Rattle.std.specs.List.{concat}
use Rattle.heap_model.specs.Bytes.{AreBytes, u16_at, u24_at, u32_at, u16_bytes, u24_bytes, u32_bytes}
use Rattle.byteorder.specs.Endian.{big_number, big_from, big_bytes}
use Rattle.byteorder.specs.Numbers.{big_from-take, big_from-lt, length-bytes_high_first}
use Rattle.laws_store.proofs.Numbers.{big_from-drop}

-- the number that the first n bytes of that part spell
number_of_part : (n at : ℕ) (bytes : List ℕ) → big_number n (take (at + n - at) (drop at bytes)) ≡ big_from at n bytes
number_of_part n at bytes =
    let start : at + 0 ≡ at = omega arith in
    big_from-take 0 n (at + n - at) (drop at bytes) (omega arith) ∙ big_from-drop 0 n at bytes ∙ ap (λ (offset : ℕ). big_from offset n bytes) start

pub u16_at_part : (number at : ℕ) (bytes : List ℕ) → number ≡ big_number 2 (take (at + 2 - at) (drop at bytes)) → number ≡ u16_at bytes at
unfolding u16_at
u16_at_part number at bytes read = read ∙ number_of_part 2 at bytes

pub u32_at_part : (number at : ℕ) (bytes : List ℕ) → number ≡ big_number 4 (take (at + 4 - at) (drop at bytes)) → number ≡ u32_at bytes at
unfolding u32_at
u32_at_part number at bytes read = read ∙ number_of_part 4 at bytes

-- the number in three bytes, from the number of four bytes that begins one byte before them
pub u24_of_u32 : (bytes : List ℕ) (at : ℕ) → AreBytes bytes → 1 ≤ at
    → bit_and (u32_at bytes (at - 1)) 0xFF_FFFF ≡ u24_at bytes at
unfolding u24_at u32_at
u24_of_u32 bytes at are behind =
    let next : suc (at - 1) ≡ at = omega arith in
    and_mask (big_from (at - 1) 4 bytes) 24
    ∙ mod-mul-add (slice_index bytes (at - 1)) (2 ^ 24) (big_from (suc (at - 1)) 3 bytes) (big_from-lt (suc (at - 1)) 3 bytes are)
    ∙ ap (λ (k : ℕ). big_from k 3 bytes) next

-- a part that is written up to its end keeps nothing
part_written : (old : List ℕ) (at n number : ℕ) → at + n ≤ length old → big_bytes n number ++ drop n (take (at + n - at) (drop at old)) ≡ big_bytes n number
part_written old at n number within =
    let part = take (at + n - at) (drop at old) in
    let all : length part ≤ n = simp (length-take, length-drop) (omega arith) in
    rw (drop_all n part all, append-nil) refl

-- a list whose n bytes at an offset are now these begins with its first bytes and these
front_written : (old rest : List ℕ) (at n number : ℕ) → at + n ≤ length old → take (at + n) (take at old ++ (big_bytes n number ++ rest)) ≡ take at old ++ big_bytes n number
front_written old rest at n number within =
    let front : length (take at old) ≡ at = simp length-take (omega arith) in
    let many = length-bytes_high_first n number in
    let both = length-append (take at old) (big_bytes n number) in
    ap (take (at + n)) (sym (append_assoc (take at old) (big_bytes n number) rest)) ∙ take_at (take at old ++ big_bytes n number) rest (at + n) (omega arith)

put : (old new : List ℕ) (at n number : ℕ) → at + n ≤ length old → new ≡ big_bytes n number ++ drop n (take (at + n - at) (drop at old))
    → take (at + n) (take at old ++ (new ++ drop (at + n - at) (drop at old))) ≡ take at old ++ big_bytes n number
put old new at n number within is =
    ap (λ (xs : List ℕ). take (at + n) (take at old ++ (xs ++ drop (at + n - at) (drop at old)))) (is ∙ part_written old at n number within) ∙ front_written old (drop (at + n - at) (drop at old)) at n number within

pub u16_put : (old new : List ℕ) (at number : ℕ) → at + 2 ≤ length old → new ≡ big_bytes 2 number ++ drop 2 (take (at + 2 - at) (drop at old))
    → take (at + 2) (take at old ++ (new ++ drop (at + 2 - at) (drop at old))) ≡ take at old ++ u16_bytes number
unfolding u16_bytes
u16_put old new at number = put old new at 2 number

pub u24_put : (old new : List ℕ) (at number : ℕ) → at + 3 ≤ length old → new ≡ big_bytes 3 number ++ drop 3 (take (at + 3 - at) (drop at old))
    → take (at + 3) (take at old ++ (new ++ drop (at + 3 - at) (drop at old))) ≡ take at old ++ u24_bytes number
unfolding u24_bytes
u24_put old new at number = put old new at 3 number

pub u32_put : (old new : List ℕ) (at number : ℕ) → at + 4 ≤ length old → new ≡ big_bytes 4 number ++ drop 4 (take (at + 4 - at) (drop at old))
    → take (at + 4) (take at old ++ (new ++ drop (at + 4 - at) (drop at old))) ≡ take at old ++ u32_bytes number
unfolding u32_bytes
u32_put old new at number = put old new at 4 number

pub u8_put : (old : List ℕ) (at byte : ℕ) → at < length old → take (at + 1) (slice_set old at byte) ≡ take at old ++ byte ∷ []
u8_put [] at byte within = absurd (omega arith)
u8_put (x ∷ old) zero byte within = refl
u8_put (x ∷ old) (suc at) byte within = let e : suc at + 1 ≡ suc (at + 1) = omega arith in ap (λ (k : ℕ). take k (x ∷ slice_set old at byte)) e ∙ ap (λ (xs : List ℕ). x ∷ xs) (u8_put old at byte (omega arith))

-- a number that was put at the front, up to the end
pub put_alone : (new part : List ℕ) (count : ℕ) → take count new ≡ part → length new ≡ count → new ≡ part
put_alone new part count front len = sym (take_all count new (omega arith)) ∙ front

-- numbers that were put one after the other, up to the end
pub put_twice : (b1 b2 : List ℕ) (i j : ℕ) (xs ys : List ℕ) → take i b1 ≡ xs → take j b2 ≡ take i b1 ++ ys → length b2 ≡ j → b2 ≡ xs ++ ys
put_twice b1 b2 i j xs ys one two len = sym (take_all j b2 (omega arith)) ∙ two ∙ ap (λ (zs : List ℕ). zs ++ ys) one

pub put_thrice : (b1 b2 b3 : List ℕ) (i j k : ℕ) (xs ys zs : List ℕ) → take i b1 ≡ xs → take j b2 ≡ take i b1 ++ ys → take k b3 ≡ take j b2 ++ zs → length b3 ≡ k → b3 ≡ xs ++ (ys ++ zs)
put_thrice b1 b2 b3 i j k xs ys zs one two three len = put_twice b2 b3 j k (xs ++ ys) zs (two ∙ ap (λ (ws : List ℕ). ws ++ ys) one) three len ∙ append_assoc xs ys zs

-- the first `count` bytes are a prefix and then these parts
pub record Begins (bytes : List ℕ) (count : ℕ) (front : List ℕ) (parts : List (List ℕ)) : Type 0 where
  pub is : take count bytes ≡ front ++ concat parts

pub put_none : (bytes : List ℕ) (count : ℕ) (front : List ℕ) → take count bytes ≡ front → Begins bytes count front []
put_none bytes count front is = record { is = is ∙ sym (append-nil front) }

-- one part more
pub put_more : (old new : List ℕ) (i j : ℕ) (front : List ℕ) (parts : List (List ℕ)) (part : List ℕ) → Begins old i front parts → take j new ≡ take i old ++ part → Begins new j front (parts ++ part ∷ [])
put_more old new i j front parts part begins more = record {
  is =
      more ∙ ap (λ (xs : List ℕ). xs ++ part) begins.is ∙ append_assoc front (concat parts) part
      ∙ ap (λ (xs : List ℕ). front ++ (concat parts ++ xs)) (sym (append-nil part))
      ∙ ap (λ (xs : List ℕ). front ++ xs) (sym (concat-append parts (part ∷ [])));
}

pub put_all : (bytes : List ℕ) (count : ℕ) (front : List ℕ) (parts : List (List ℕ)) → Begins bytes count front parts → length bytes ≡ count → bytes ≡ front ++ concat parts
put_all bytes count front parts begins len = sym (take_all count bytes (omega arith)) ∙ begins.is
