-- Texts of values that are written one after another.
use Rattle.std.proofs.Common.{◌≡◌, ℕ, ◌+◌, ◌<◌, List, ◌++◌, length, get_or, drop, Option, Bool, true, false, refl, add-one, drop-cons}
use Rattle.std.specs.List.{flat_map}
use Rattle.palm_text.specs.Counted.{Writing, Writes}
use Rattle.palm_text.proofs.Parts.{then, stops}

-- the text from a value on
text_at : {X : Type 0} (text : X → List ℕ) (xs : List X) (i : ℕ) (d : X) → i < length xs → flat_map text (drop i xs) ≡ text (get_or xs i d) ++ flat_map text (drop (i + 1) xs)
text_at text xs i d within = rw (add-one, drop-cons xs i d) refl

module _ {X W : Type 0} (text : X → List ℕ) (contents : W → Option (List ℕ)) where
  pub then_text : (old mid new : Writing W) (xs : List X) (i : ℕ) (d : X) (ok : Bool) → i < length xs → Writes contents old mid (text (get_or xs i d)) true → Writes contents mid new (flat_map text (drop (i + 1) xs)) ok → Writes contents old new (flat_map text (drop i xs)) ok
  then_text old mid new xs i d ok within first rest = rw (text_at text xs i d within) (then contents old mid new _ _ ok first rest)

  pub stops_text : (old new : Writing W) (xs : List X) (i : ℕ) (d : X) → i < length xs → Writes contents old new (text (get_or xs i d)) false → Writes contents old new (flat_map text (drop i xs)) false
  stops_text old new xs i d within first = rw (text_at text xs i d within) (stops contents old new _ _ first)
