-- The name in a file without fault is one of a database.
use Rattle.std.proofs.Common.{◌≡◌, ℕ, ◌<◌, Bool, true, List, [], ◌∷◌, length, take, refl, ap, ◌∙◌, arith, inl, inr}
use Rattle.std.specs.Prelude.{◌==◌, not, All}
use Rattle.std.specs.List.{prefix_len, take_while}
use Rattle.std.proofs.lemmas.Bool.{cases_eq, eq-eqb}
use Rattle.std.proofs.lemmas.List.{get_or-take, length-take, take_all}
use Rattle.std.proofs.lemmas.List.Sums.{prefix_len_passes}
use Rattle.heap_model.specs.Database.{IsDatabaseName, name_in}
use Rattle.heap_model.specs.Files.{HasNoFault}
use Rattle.heap_model.specs.declared.file_fault.FileFault.TheVariants.{Truncated}

some_of : (xs : List ℕ) → (xs ≡ [] → ⊥) → 0 < length xs
some_of [] some = absurd (some refl)
some_of (x ∷ xs) some = omega arith

no_zero : (byte : ℕ) → not (byte == 0) ≡ true → 0 < byte
no_zero byte passes = elim (cases_eq byte 0) [
  | inl is ↦ let yes = eq-eqb byte 0 is in absurd cc
  | inr ne ↦ omega arith
]

front_passes : (p : ℕ → Bool) (xs : List ℕ) → All (λ x. p x ≡ true) (take_while p xs)
front_passes p xs = λ k d inside.
    let long = length-take (prefix_len p xs) xs in
    let below : k < prefix_len p xs = omega arith in
    ap p (get_or-take (prefix_len p xs) xs k d below) ∙ prefix_len_passes p xs k d below

pub name_short : (file : List ℕ) → length (name_in file) < 32
unfolding name_in
name_short file =
    let front = length-take 31 file in
    let long = length-take (prefix_len (λ byte. not (byte == 0)) (take 31 file)) (take 31 file) in
    omega arith

pub file_named : (file : List ℕ) → HasNoFault file → IsDatabaseName (name_in file)
unfolding name_in
file_named file good = record {
  some = some_of (name_in file) (good 2 Truncated (omega arith));
  room = name_short file;
  none_zero =
      λ k d inside. no_zero _ (front_passes (λ byte. not (byte == 0)) (take 31 file) k d inside);
}

-- of its bytes none is left out
pub name_kept : (file name : List ℕ) → name ≡ name_in file → take 32 name ≡ name_in file
name_kept file name is =
    let short = name_short file in ap (take 32) is ∙ take_all 32 (name_in file) (omega arith)
