-- Fields of names, one after another, and the name in a field.
use Rattle.std.proofs.Common.{◌≡◌, ◌∙◌, ◌<◌, ◌≤◌, ◌+◌, ℕ, Bool, true, false, Option, Some, None, List, [], ◌∷◌, length, take, get_or, refl, sym, ap, arith}
use Rattle.std.specs.Prelude.{SomeIff, ◌&&◌}
use Rattle.std.specs.List.{list_all, range_with_len}
use Rattle.std.proofs.lemmas.List.{take_all}
use Rattle.std.proofs.lemmas.List.Folds.{list_all_more, list_all_at}
use Rattle.std.proofs.lemmas.List.FromFn.{length-range_with_len, get_or-range_with_len}
use Rattle.heap_model.specs.Categories.{categories}
use Rattle.heap_model.specs.Database.{IsDatabaseName, name_in}
use Rattle.canonical_file.proofs.SoundParts.{named_stays}
use Rattle.file_listing.specs.Categories.{has_name, all_named, unless_empty}

abbrev numbers : List ℕ
numbers = range_with_len 0 categories

-- the fields before this number have names
unfoldable pub named_before : List ℕ → ℕ → Bool
named_before app count = list_all (has_name app) (take count (range_with_len 0 categories))

pub none_before : (app : List ℕ) → named_before app 0 ≡ true
unfolding named_before
none_before app = refl

inside : (i : ℕ) → i < categories → i < length numbers
inside i within = let long = length-range_with_len 0 categories in omega arith

at_number : (i : ℕ) → i < categories → get_or numbers i 0 ≡ i
at_number i within = let there = get_or-range_with_len 0 categories i 0 within in omega (arith, there)

pub next_named : (app : List ℕ) (i : ℕ) → i < categories → named_before app i ≡ true → has_name app i ≡ true → named_before app (i + 1) ≡ true
unfolding named_before
next_named app i within before named =
    list_all_more (has_name app) numbers i 0 (inside i within)
    ∙ ap (λ (b : Bool). b && has_name app (get_or numbers i 0)) before
    ∙ ap (has_name app) (at_number i within)
    ∙ named

pub unnamed : (app : List ℕ) (i : ℕ) → i < categories → has_name app i ≡ false → all_named app ≡ false
unfolding all_named
unnamed app i within none = list_all_at (has_name app) numbers i 0 (inside i within) (ap (has_name app) (at_number i within) ∙ none)

pub all_before : (app : List ℕ) (i : ℕ) → categories ≤ i → named_before app i ≡ true → all_named app ≡ true
unfolding named_before all_named
all_before app i all before = let long = length-range_with_len 0 categories in ap (list_all (has_name app)) (sym (take_all i numbers (omega arith))) ∙ before

-- ---- the name in a field

some_name : (name : List ℕ) → 0 < length name → unless_empty name ≡ Some name
some_name [] some = absurd (omega arith)
some_name (byte ∷ bytes) some = refl

no_name : (name : List ℕ) → (0 < length name → ⊥) → unless_empty name ≡ None
no_name [] none = refl
no_name (byte ∷ bytes) none = absurd (none (omega arith))

-- the field of the text is found exactly if it isn't empty
pub found_named : (bytes : List ℕ) (found : Option (List ℕ)) → SomeIff found (IsDatabaseName (name_in bytes)) (name_in bytes) → found ≡ unless_empty (name_in bytes)
found_named bytes None none = sym (no_name (name_in bytes) (λ some. none (named_stays bytes (name_in bytes) refl some)))
found_named bytes (Some name) is = ap Some is.1 ∙ sym (some_name (name_in bytes) is.0.some)
