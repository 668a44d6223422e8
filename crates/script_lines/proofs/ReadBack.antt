-- Texts that are printed are read back.
use Rattle.std.proofs.Common.{◌≡◌, ◌==◌, ◌<◌, ◌+◌, ◌-◌, ◌/◌, ◌%◌, ◌^◌, zero, suc, ℕ, List, [], ◌∷◌, ◌++◌, length, Bool, true, false, refl, ap, ◌∙◌, arith, append_assoc, append-nil, length-append}
use Rattle.std.specs.Prelude.{Some, Ok, nat_le, slice_index}
use Rattle.std.specs.List.{list_all}
use Rattle.std.specs.Result.{result_ok}
use Rattle.std.proofs.Math.Seq.{take-append_seam, get_or-append_seam}
use Rattle.std.proofs.lemmas.Bool.{and_parts}
use Rattle.byteorder.specs.Numbers.{big_number-reads_back}
use Rattle.hex.specs.Hex.{encode_lower, encode_with, hex_digit_value, lower_digits}
use Rattle.hex.proofs.HexLemmas.{IsDigits-lower_digits, decode_of-encode_lower}
use Rattle.heap_model.specs.Bytes.{AreBytes, u32_at, u32_bytes}
use Rattle.palm_text.specs.Pieces.{is_printable, closed, script_quoted, marked_hex, script_spelled}
use Rattle.script_lines.specs.Words.{is_blank, words_of, plain_word, quoted_word}
use Rattle.script_lines.specs.Spellings.{inside, is_quoted, number_of_four, spelled_text}
use Rattle.script_lines.specs.Laws.{TextsAreWords, TextsAreReadBack, FourBytesAreReadBack}

-- ---- words

no_quote : (b : ℕ) → is_printable b ≡ true → (b == 34) ≡ false
no_quote b h = grind arith

-- a text in quotes is one word
quoted_word-closed : (word text : List ℕ) → list_all is_printable text ≡ true → quoted_word word (closed text) ≡ Ok ((word ++ closed text) ∷ [])
unfolding words_of
quoted_word-closed word [] h = refl
quoted_word-closed word (b ∷ text) h =
    let parts = and_parts (is_printable b) (list_all is_printable text) h in
    rw (no_quote b parts.0) (rw append_assoc at (quoted_word-closed (word ++ b ∷ []) text parts.1))

words_of-quoted : (text : List ℕ) → list_all is_printable text ≡ true → words_of (script_quoted text) ≡ Ok (script_quoted text ∷ [])
unfolding words_of
words_of-quoted text h = quoted_word-closed (34 ∷ []) text h

no_blank_digit : (b d : ℕ) → hex_digit_value b ≡ Some d → is_blank b ≡ false
no_blank_digit b d h = grind arith

-- two bytes that are no blanks, and what goes on with a word after them
plain_word-two : (word more : List ℕ) (x y : ℕ) → is_blank x ≡ false → is_blank y ≡ false → ((front : List ℕ) → plain_word front more ≡ Ok ((front ++ more) ∷ [])) → plain_word word (x ∷ y ∷ more) ≡ Ok ((word ++ x ∷ y ∷ more) ∷ [])
unfolding words_of
plain_word-two word more x y first second goes_on =
    let whole : (((word ++ x ∷ []) ++ y ∷ []) ++ more) ≡ word ++ x ∷ y ∷ more = append_assoc (word ++ x ∷ []) (y ∷ []) more ∙ append_assoc word (x ∷ []) (y ∷ more) in
    rw (first, second) (rw whole at (goes_on ((word ++ x ∷ []) ++ y ∷ [])))

-- the digits of bytes are no blanks
plain_word-digits : (bytes word : List ℕ) → AreBytes bytes → plain_word word (encode_lower bytes) ≡ Ok ((word ++ encode_lower bytes) ∷ [])
unfolding words_of encode_with
plain_word-digits [] word h = rw append-nil refl
plain_word-digits (b ∷ bytes) word h =
    let byte : b < 256 = h 0 in
    let high = no_blank_digit (slice_index lower_digits (b / 16)) (b / 16) (IsDigits-lower_digits (b / 16) (omega arith)) in
    let low = no_blank_digit (slice_index lower_digits (b % 16)) (b % 16) (IsDigits-lower_digits (b % 16) (omega arith)) in
    plain_word-two word (encode_lower bytes) _ _ high low (λ front. plain_word-digits bytes front (λ k. h (suc k)))

words_of-marked_hex : (bytes : List ℕ) → AreBytes bytes → words_of (marked_hex bytes) ≡ Ok (marked_hex bytes ∷ [])
unfolding words_of
words_of-marked_hex bytes h = plain_word-digits bytes (120 ∷ 58 ∷ []) h

pub texts_are_words : TextsAreWords
texts_are_words text h = by_printable (list_all is_printable text) refl
  where
    by_printable : (v : Bool) → list_all is_printable text ≡ v → words_of (script_spelled text) ≡ Ok (script_spelled text ∷ [])
    by_printable true is = rw is (words_of-quoted text is)
    by_printable false is = rw is (words_of-marked_hex text h)

-- ---- what the words spell

inside-quoted : (text : List ℕ) → inside (script_quoted text) ≡ text
inside-quoted text =
    let long : length (closed text) ≡ length text + 1 = length-append text (34 ∷ []) in
    let most : length (script_quoted text) - 2 ≡ length text = omega (arith, long) in
    rw most (take-append_seam text (34 ∷ []))

is_quoted-quoted : (text : List ℕ) → is_quoted (script_quoted text) ≡ true
is_quoted-quoted text =
    let long : length (closed text) ≡ length text + 1 = length-append text (34 ∷ []) in
    let two : nat_le 2 (length (script_quoted text)) ≡ true = grind (arith, long) in
    let most : length (script_quoted text) - 1 ≡ suc (length text) = omega (arith, long) in
    let last : slice_index (script_quoted text) (length (script_quoted text) - 1) ≡ 34 = rw most (get_or-append_seam text 34 [] 0) in
    rw (two, last) refl

spelled_text-quoted : (text : List ℕ) → list_all is_printable text ≡ true → spelled_text (script_quoted text) ≡ Some text
spelled_text-quoted text h = rw (is_quoted-quoted text, inside-quoted text, h) refl

spelled_text-marked_hex : (bytes : List ℕ) → AreBytes bytes → spelled_text (marked_hex bytes) ≡ Some bytes
spelled_text-marked_hex bytes h = ap result_ok (decode_of-encode_lower bytes h)

pub texts_are_read_back : TextsAreReadBack
texts_are_read_back text h = by_printable (list_all is_printable text) refl
  where
    by_printable : (v : Bool) → list_all is_printable text ≡ v → spelled_text (script_spelled text) ≡ Some text
    by_printable true is = rw is (spelled_text-quoted text is)
    by_printable false is = rw is (spelled_text-marked_hex text h)

-- ---- four bytes

pub are_four : (a b c d : ℕ) → a < 256 → b < 256 → c < 256 → d < 256 → AreBytes (a ∷ b ∷ c ∷ d ∷ [])
are_four a b c d first second third last zero = first
are_four a b c d first second third last (suc zero) = second
are_four a b c d first second third last (suc (suc zero)) = third
are_four a b c d first second third last (suc (suc (suc zero))) = last
are_four a b c d first second third last (suc (suc (suc (suc k)))) = omega arith

u32_bytes-bytes : (number : ℕ) → AreBytes (u32_bytes number)
unfolding u32_bytes
u32_bytes-bytes number = are_four _ _ _ _ (omega arith) (omega arith) (omega arith) (omega arith)

u32_at-bytes : (number : ℕ) → number < 2 ^ 32 → u32_at (u32_bytes number) 0 ≡ number
unfolding u32_at u32_bytes
u32_at-bytes number small = big_number-reads_back 4 number [] small

number_of_four-bytes : (number : ℕ) → number < 2 ^ 32 → number_of_four (u32_bytes number) ≡ Some number
unfolding u32_bytes
number_of_four-bytes number small = ap Some (u32_at-bytes number small)

pub four_bytes_are_read_back : FourBytesAreReadBack
four_bytes_are_read_back number small = rw (texts_are_read_back (u32_bytes number) (u32_bytes-bytes number)) (number_of_four-bytes number small)
