-- Bytes that are written one after another.
use Rattle.std.proofs.Common.{◌≡◌, ◌≤◌, ◌<◌, ◌+◌, ◌==◌, ◌-◌, ◌∙◌, ℕ, zero, suc, List, [], ◌∷◌, ◌++◌, length, take, get_or, Option, refl, sym, subst, ap, add-one, arith}
use Rattle.std.proofs.lemmas.List.{take-take}
use Rattle.std.specs.Prelude.{slice_index_or}
use Rattle.std.specs.Io.KnownBytes.{Appends}
use Rattle.std.proofs.KnownBytes.{Appends-trans}
use Rattle.script_calls.specs.Replies.{ends_line}

-- the first bytes of a line are the first bytes of the text that begins with it
pub part_of : (old new : Option (List ℕ)) (line bytes : List ℕ) (n : ℕ) → line ≡ take (length line) bytes → n ≤ length line → Appends old new (take n line) → Appends old new (take n bytes)
part_of old new line bytes n is within appended = subst (Appends old new) (ap (take n) is ∙ take-take n (length line) bytes within) appended

-- a text, and another after it
pub both : (old mid new : Option (List ℕ)) (a b : List ℕ) → Appends old mid a → Appends mid new b → Appends old new (a ++ b)
both old mid new a b first rest = Appends-trans old mid new a b first rest

-- the last of so many bytes says whether they end a line
pub ends_at : (bytes : List ℕ) (n : ℕ) → n < length bytes → ends_line (take (n + 1) bytes) ≡ (get_or bytes n 0 == 10)
ends_at [] n within = absurd (omega (arith, within))
ends_at (b ∷ bs) zero within = refl
ends_at (b ∷ []) (suc n) within = absurd (omega (arith, within))
ends_at (b ∷ c ∷ bs) (suc n) within = rw add-one (subst (λ (k : ℕ). ends_line (take k (c ∷ bs)) ≡ (get_or (c ∷ bs) n 0 == 10)) (add-one n) (ends_at (c ∷ bs) n (omega (arith, within))))

-- the same of the first bytes of a line
pub ends_first : (line bytes : List ℕ) (n : ℕ) → line ≡ take (length line) bytes → n ≤ length line → 0 < n → (slice_index_or line (n - 1) 0 == 10) ≡ ends_line (take n bytes)
ends_first line bytes n is within some =
    let whole : (n - 1) + 1 ≡ n = omega (arith, some) in
    let at : ends_line (take n line) ≡ (get_or line (n - 1) 0 == 10) = subst (λ (k : ℕ). ends_line (take k line) ≡ (get_or line (n - 1) 0 == 10)) whole (ends_at line (n - 1) (omega (arith, within, some))) in
    sym at ∙ ap ends_line (ap (take n) is ∙ take-take n (length line) bytes within)
