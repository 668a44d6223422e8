-- Bytes one after another, each as a transfer makes it.
use Rattle.std.proofs.Common.{◌≡◌, ◌≢◌, ◌⊎◌, ◌∙◌, ℕ, Bool, cond, List, [], ◌∷◌, ◌++◌, length, drop, get_or, arith, sym, ap, append_assoc, inl, inr}
use Rattle.std.proofs.lemmas.Bool.{cases_eq, eq-eqb, ne_eqb}
use Rattle.std.proofs.lemmas.List.{append-nil, nil_from_length}
use Rattle.std.proofs.lemmas.List.Concat.{flat_map-append}
use Rattle.hints.specs.LineEnds.{IsConverted, with_return, with_returns}

-- one more byte
pub byte_more : (file front : List ℕ) (byte : ℕ) (rest left : List ℕ) → file ≡ with_returns front ++ rest → rest ≡ with_return byte ++ left → file ≡ with_returns (front ++ byte ∷ []) ++ left
byte_more file front byte rest left so_far first =
    so_far
    ∙ ap (λ (last : List ℕ). with_returns front ++ last) first
    ∙ sym (append_assoc (with_returns front) (with_return byte) left)
    ∙ ap (λ (made : List ℕ). made ++ left) (sym (flat_map-append with_return front (byte ∷ []) ∙ ap (λ (last : List ℕ). with_returns front ++ last) (append-nil (with_return byte))))

-- no byte is left
pub all_read : (file front rest : List ℕ) → file ≡ with_returns front ++ rest → length rest ≡ 0 → file ≡ with_returns front
all_read file front rest so_far none = so_far ∙ ap (λ (last : List ℕ). with_returns front ++ last) (nil_from_length rest none) ∙ append-nil (with_returns front)

-- ---- what can't come of a transfer

-- what a transfer makes of a byte and others, by whether the byte is a line feed
starts : (byte : ℕ) (others : List ℕ) → ((byte ≡ 10) × (with_returns (byte ∷ others) ≡ 13 ∷ 10 ∷ with_returns others)) ⊎ ((byte ≢ 10) × (with_returns (byte ∷ others) ≡ byte ∷ with_returns others))
starts byte others = elim (cases_eq byte 10) [
  | inl is ↦ inl (is, ap (λ (yes : Bool). cond yes (13 ∷ 10 ∷ []) (byte ∷ []) ++ with_returns others) (eq-eqb byte 10 is))
  | inr other ↦ inr (other, ap (λ (yes : Bool). cond yes (13 ∷ 10 ∷ []) (byte ∷ []) ++ with_returns others) (ne_eqb byte 10 other))
]

-- the first of some bytes, or 0
abbrev pub first : List ℕ → ℕ
first bytes = get_or bytes 0 0

not_nil : (byte : ℕ) (rest : List ℕ) → byte ∷ rest ≢ []
not_nil byte rest is = cc

-- a line feed without its carriage return
pub feed_is_alone : (rest : List ℕ) → IsConverted (10 ∷ rest) → ⊥
feed_is_alone rest ([], is) = let same : 10 ≡ 0 = ap first is in omega (arith, same)
feed_is_alone rest (byte ∷ others, is) = elim (starts byte others) [
  | inl feed ↦ (let same : 10 ≡ 13 = ap first (is ∙ feed.1) in omega (arith, same))
  | inr other ↦ other.0 (sym (ap first (is ∙ other.1)))
]

-- the bytes after a line feed with its carriage return
pub after_return : (rest : List ℕ) → IsConverted (13 ∷ 10 ∷ rest) → IsConverted rest
after_return rest ([], is) = let same : 13 ≡ 0 = ap first is in absurd (omega (arith, same))
after_return rest (byte ∷ others, is) = elim (starts byte others) [
  | inl feed ↦ (others, ap (drop 2) (is ∙ feed.1))
  | inr other ↦ absurd (feed_is_alone rest (others, ap (drop 1) (is ∙ other.1)))
]

-- the bytes after another byte than a carriage return
pub after_byte : (byte : ℕ) (rest : List ℕ) → byte ≢ 13 → IsConverted (byte ∷ rest) → IsConverted rest
after_byte byte rest other ([], is) = absurd (not_nil byte rest is)
after_byte byte rest other (one ∷ others, is) = elim (starts one others) [
  | inl feed ↦ absurd (other (ap first (is ∙ feed.1)))
  | inr same ↦ (others, ap (drop 1) (is ∙ same.1))
]

-- the bytes after a carriage return without a line feed
pub after_alone : (rest : List ℕ) → first rest ≢ 10 → IsConverted (13 ∷ rest) → IsConverted rest
after_alone rest other ([], is) = absurd (not_nil 13 rest is)
after_alone rest other (one ∷ others, is) = elim (starts one others) [
  | inl feed ↦ absurd (other (ap (λ (bytes : List ℕ). first (drop 1 bytes)) (is ∙ feed.1)))
  | inr same ↦ (others, ap (drop 1) (is ∙ same.1))
]
