-- Laws on bytes that are lent as hex digits.
use Rattle.std.proofs.Common.{◌≡◌, ◌+◌, ◌*◌, ◌/◌, ◌%◌, ◌≤◌, ℕ, zero, suc, List, [], ◌∷◌, length, length-take-le, min, take, Bool, true, false, refl, sym, ap, ◌∙◌, arith}
use Rattle.std.specs.Prelude.{Some, None, Result, Ok, Err, is_some}
use Rattle.std.specs.List.{list_all}
use Rattle.std.specs.Result.{result_ok}
use Rattle.std.proofs.lemmas.List.Sums.{AllPass-from_list_all, list_all-from_AllPass}
use Rattle.std.proofs.lemmas.List.{take_min}
use Rattle.hex.specs.Hex.{decode_of, decode_pairs, decode_sized, is_hex_digit, pair_value, ◌>>=◌}
use Rattle.hex.specs.declared.error.FromHexError.{FromHexError}
use Rattle.hex.proofs.Pairs.{cons_byte}
use Rattle.hex.proofs.HexLemmas.{decode_of-even, decode_of-odd, decode_of-ok, decode_pairs-digits, decode_sized-twice}
use Rattle.script_commands.specs.LentBytes.{hex_bytes, bytes_meant}

-- digits that spell bytes are decoded to these
pub decoded : (digits : List ℕ) → is_some (hex_bytes digits) ≡ true → decode_of digits ≡ Ok (bytes_meant true digits)
decoded digits spells = by_result (decode_of digits) spells refl
  where
    by_result : (result : Result (List ℕ) FromHexError) → is_some (result_ok result) ≡ true → decode_of digits ≡ result → decode_of digits ≡ Ok (bytes_meant true digits)
    by_result (Ok bytes) spells is = rw is refl
    by_result (Err fault) spells is = cc

-- there are two of them for each byte
pub twice : (digits : List ℕ) → is_some (hex_bytes digits) ≡ true → length digits ≡ 2 * length (bytes_meant true digits)
twice digits spells = let (_, _, long, _) = decode_of-ok digits (bytes_meant true digits) (decoded digits spells) in long

-- and they are decoded if the room is exact
pub decoded_in : (digits : List ℕ) (room : ℕ) → is_some (hex_bytes digits) ≡ true → room ≡ length digits / 2 → decode_sized digits room ≡ Ok (bytes_meant true digits)
decoded_in digits room spells is =
    let long = twice digits spells in
    decode_sized-twice digits room (omega arith) ∙ decoded digits spells

-- an even number of digits spells bytes, and nothing else does
pub digits_spell : (digits : List ℕ) → length digits % 2 ≡ 0 → list_all is_hex_digit digits ≡ true → is_some (hex_bytes digits) ≡ true
digits_spell digits even all =
    let (bytes, is) = decode_pairs-digits 0 digits even (AllPass-from_list_all is_hex_digit digits all) in
    rw (decode_of-even digits even ∙ is) refl

pub hex_is : (digits : List ℕ) → is_some (hex_bytes digits) ≡ true → hex_bytes digits ≡ Some (bytes_meant true digits)
hex_is digits spells = rw (decoded digits spells) refl

pub others_spell_none : (digits : List ℕ) → list_all is_hex_digit digits ≡ false → hex_bytes digits ≡ None
others_spell_none digits other = by_result (decode_of digits) refl
  where
    by_result : (result : Result (List ℕ) FromHexError) → decode_of digits ≡ result → result_ok result ≡ None
    by_result (Err fault) is = refl
    by_result (Ok bytes) is =
        let (_, all, _, _) = decode_of-ok digits bytes is in
        let pass = list_all-from_AllPass is_hex_digit digits all in cc

pub odd_spell_none : (digits : List ℕ) → length digits % 2 ≡ 1 → hex_bytes digits ≡ None
odd_spell_none digits odd = rw (decode_of-odd digits odd) refl

take_none : (count : ℕ) → ◌≡◌ {A = List ℕ} (take count []) []
take_none zero = refl
take_none (suc count) = refl

-- a pair before others, of which a prefix is taken
pair_front : (pair : Result ℕ FromHexError) (rest front : Result (List ℕ) FromHexError) (bytes : List ℕ) (count : ℕ) → (pair >>= λ byte. cons_byte byte rest) ≡ Ok bytes → ((more : List ℕ) → rest ≡ Ok more → front ≡ Ok (take count more)) → (pair >>= λ byte. cons_byte byte front) ≡ Ok (take (suc count) bytes)
pair_front (Err fault) rest front bytes count is behind = cc
pair_front (Ok byte) (Err fault) front bytes count is behind = cc
pair_front (Ok byte) (Ok more) front bytes count is behind =
    let same : byte ∷ more ≡ bytes = cc in
    rw (behind more refl, ← same) refl

-- the first digits, two for each of `count` bytes
pairs_front : (count at : ℕ) (digits bytes : List ℕ) → decode_pairs at digits ≡ Ok bytes → decode_pairs at (take (2 * count) digits) ≡ Ok (take count bytes)
unfolding decode_pairs
pairs_front zero at digits bytes is = refl
pairs_front (suc count) at [] bytes is =
    let same : [] ≡ bytes = cc in
    let none : ◌≡◌ {A = List ℕ} (take (2 * suc count) []) [] = take_none (2 * suc count) in
    rw (none, ← same) refl
pairs_front (suc count) at (digit ∷ []) bytes is = cc
pairs_front (suc count) at (high ∷ low ∷ digits) bytes is =
    let two : 2 * suc count ≡ suc (suc (2 * count)) = omega arith in
    rw two (pair_front (pair_value high low at) (decode_pairs (at + 2) digits) (decode_pairs (at + 2) (take (2 * count) digits)) bytes count is (λ more rest. pairs_front count (at + 2) digits more rest))

-- they spell these bytes
pub hex_front : (digits : List ℕ) (count : ℕ) → is_some (hex_bytes digits) ≡ true → count ≤ length (bytes_meant true digits) → hex_bytes (take (2 * count) digits) ≡ Some (take count (bytes_meant true digits))
hex_front digits count spells within =
    let long = twice digits spells in
    let even : length digits % 2 ≡ 0 = omega (arith, long) in
    let short : length (take (2 * count) digits) ≡ 2 * count = length-take-le (2 * count) digits (omega (arith, long)) in
    let half : length (take (2 * count) digits) % 2 ≡ 0 = omega (arith, short) in
    let front = pairs_front count 0 digits (bytes_meant true digits) (sym (decode_of-even digits even) ∙ decoded digits spells) in
    ap result_ok (decode_of-even (take (2 * count) digits) half ∙ front)

-- ---- the same of what a text lends: its digits spell bytes, where it is in hex

abbrev pub Spells : Bool → List ℕ → Type 0
Spells is_hex text = is_hex ≡ true → is_some (hex_bytes text) ≡ true

pub lent_twice : (is_hex : Bool) (text bytes : List ℕ) → Spells is_hex text → bytes_meant is_hex text ≡ bytes → is_hex ≡ true → length text ≡ 2 * length bytes
lent_twice true text bytes spells is hex = rw (← is) (twice text (spells refl))
lent_twice false text bytes spells is hex = cc

pub lent_decoded : (is_hex : Bool) (text bytes : List ℕ) (room : ℕ) → Spells is_hex text → bytes_meant is_hex text ≡ bytes → is_hex ≡ true → room ≡ length text / 2 → decode_sized text room ≡ Ok bytes
lent_decoded true text bytes room spells is hex fits = rw (← is) (decoded_in text room (spells refl) fits)
lent_decoded false text bytes room spells is hex fits = cc

pub lent_front : (is_hex : Bool) (text bytes : List ℕ) (most count : ℕ) → Spells is_hex text → bytes_meant is_hex text ≡ bytes → is_hex ≡ true → count ≡ min most (length bytes) → hex_bytes (take (2 * count) text) ≡ Some (take most bytes)
lent_front true text bytes most count spells is hex fits =
    let within : count ≤ length (bytes_meant true text) = omega (arith, fits, ap length is) in
    let same : take count (bytes_meant true text) ≡ take most bytes = rw (is, fits) (take_min most bytes) in
    hex_front text count (spells refl) within ∙ ap Some same
lent_front false text bytes most count spells is hex fits = cc
