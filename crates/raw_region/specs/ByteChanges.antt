-- Changes of bytes at equal distances.
use Rattle.std.specs.Prelude.{◌-◌, ℕ, zero, suc, List, [], ◌∷◌}

-- The bytes at `skip`, `skip + step`, `skip + 2 * step` .. are changed. All others stay.
unfoldable pub changed_every : (ℕ → ℕ) → ℕ → ℕ → List ℕ → List ℕ
changed_every change step skip [] = []
changed_every change step zero (byte ∷ bytes) = change byte ∷ changed_every change step (step - 1) bytes
changed_every change step (suc skip) (byte ∷ bytes) = byte ∷ changed_every change step skip bytes
