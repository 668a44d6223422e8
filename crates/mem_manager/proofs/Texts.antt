-- Texts that end at a zero byte.
use Rattle.mem_manager.proofs.Words.{◌≡◌, ℕ, Bool, true, false, not, List, length, take, refl, sym, ap, ◌∙◌, arith, take_all, prefix_len_is, ◌==◌, slice_index, take_while}
use Rattle.memchr.specs.Find.{Nowhere, NoneBefore, Passes, is_byte}

-- a byte that is not zero passes
not_zero : (test : Bool) → (test ≡ true → ⊥) → not test ≡ true
not_zero true none = absurd (none refl)
not_zero false none = refl

-- the bytes in front of the first zero byte
pub before_first : (text : List ℕ) (end : ℕ)
    → NoneBefore (Passes (is_byte 0) text) 0 (length text) end → Passes (is_byte 0) text end
    → take end text ≡ take_while (λ byte. not (byte == 0)) text
before_first text end before here =
    let high = before.high in
    ap (λ (n : ℕ). take n text) (sym (prefix_len_is (λ byte. not (byte == 0)) text end 0 (omega arith) (λ k low. not_zero (slice_index text k == 0) (before.before k (omega arith) low)) (λ low. ap not here)))

-- all bytes, where none is zero
pub without_zero : (text : List ℕ) → Nowhere (Passes (is_byte 0) text) 0 (length text)
    → text ≡ take_while (λ byte. not (byte == 0)) text
without_zero text none =
    sym (take_all (length text) text (omega arith))
    ∙ ap (λ (n : ℕ). take n text) (sym (prefix_len_is (λ byte. not (byte == 0)) text (length text) 0 (omega arith) (λ k low. not_zero (slice_index text k == 0) (none k (omega arith) low)) (λ low. absurd (omega arith))))
