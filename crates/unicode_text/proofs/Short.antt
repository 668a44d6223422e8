-- The codes of the characters of Windows-1252 are below 2^16.
use Rattle.std.proofs.Common.{◌≡◌, ℕ, ◌<◌, ◌^◌, Bool, true, nat_lt, Option, Some, None, refl, rules, slice_index_or}
use Rattle.std.specs.Option.{IfSome}
use Rattle.std.specs.List.{All}
use Rattle.std.proofs.lemmas.List.Sums.{AllPass-from_list_all}
use Rattle.unicode_text.specs.Windows1252.{middle}

abbrev pub IsShort : Option ℕ → Type 0
IsShort code = IfSome code (λ (c : ℕ). c < 2 ^ 16)

abbrev is_short : Option ℕ → Bool
is_short None = true
is_short (Some code) = nat_lt code 65536

by_test : (code : Option ℕ) → is_short code ≡ true → IsShort code
by_test None test = tt
by_test (Some code) test = search (rules, test)

pub all_short : All IsShort middle
all_short k d within = by_test (slice_index_or middle k d) (AllPass-from_list_all is_short middle refl k d within)
