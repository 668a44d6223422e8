-- Words as they are written, and as they are read: alone, before others, and as values.
use Rattle.file_parts.proofs.AllWords.{◌≡◌, ◌<◌, ◌≤◌, ◌+◌, ◌*◌, ◌-◌, ◌/◌, ◌%◌, ◌^◌, zero, suc, ℕ, Bool, true, false, Some, None, List, [], ◌∷◌, ◌++◌, length, get_or, take, drop, refl, ap, ◌∙◌, arith, append_assoc, append-nil, length-append, Ok, ◌&&◌, nat_lt, nat_le, slice_index, decimal, codes, list_all, bytes_eq, lines, strip_carriage_return, take-append_seam, drop-append_seam, and_parts, list_all-append, decimal_by_steps, length-decimal-le, decimal_nonempty, encode_lower, encode_with, hex_digit_value, lower_digits, IsDigits-lower_digits, AreBytes, is_printable, closed, script_quoted, marked_hex, script_spelled, is_blank, words_of, plain_word, quoted_word, with_word, below, digit_value, number_below, number_behind, number_in, spelled_number, texts_are_words}
use Rattle.std.proofs.Common.{◌==◌}
use Rattle.script_lines.proofs.LineLaws.{feed, lines_ended, drop_next}

-- from a space to `~`, and the same without a space and the two bytes after it
abbrev pub is_shown : ℕ → Bool
is_shown b = nat_le 32 b && nat_le b 126

abbrev pub is_plain : ℕ → Bool
is_plain b = nat_lt 34 b && nat_le b 126

-- a word, as it is cut from a line
pub record IsWord (word : List ℕ) : Type 0 where
  pub alone : words_of word ≡ Ok (word ∷ [])
  pub more : (rest : List ℕ) → words_of (word ++ 32 ∷ rest) ≡ with_word word (words_of rest)
  pub shown : list_all is_shown word ≡ true

-- ---- plain words

no_blank : (b : ℕ) → is_plain b ≡ true → is_blank b ≡ false
no_blank b h = grind arith

not_quote : (b : ℕ) → is_plain b ≡ true → (b == 34) ≡ false
not_quote b h = grind arith

plain_shown : (b : ℕ) → is_plain b ≡ true → is_shown b ≡ true
plain_shown b h = grind arith

pub all_shown : (word : List ℕ) → list_all is_plain word ≡ true → list_all is_shown word ≡ true
all_shown [] h = refl
all_shown (b ∷ word) h =
    let parts = and_parts (is_plain b) (list_all is_plain word) h in
    rw (plain_shown b parts.0) (all_shown word parts.1)

plain_alone : (front word : List ℕ) → list_all is_plain word ≡ true
    → plain_word front word ≡ Ok ((front ++ word) ∷ [])
unfolding words_of
plain_alone front [] h = rw append-nil refl
plain_alone front (b ∷ word) h =
    let parts = and_parts (is_plain b) (list_all is_plain word) h in
    rw (no_blank b parts.0) (rw append_assoc at (plain_alone (front ++ b ∷ []) word parts.1))

plain_more : (front word rest : List ℕ) → list_all is_plain word ≡ true
    → plain_word front (word ++ 32 ∷ rest) ≡ with_word (front ++ word) (words_of rest)
unfolding words_of
plain_more front [] rest h = rw append-nil refl
plain_more front (b ∷ word) rest h =
    let parts = and_parts (is_plain b) (list_all is_plain word) h in
    rw (no_blank b parts.0) (rw append_assoc at (plain_more (front ++ b ∷ []) word rest parts.1))

word_alone : (b : ℕ) (word : List ℕ) → is_plain b ≡ true → list_all is_plain word ≡ true
    → words_of (b ∷ word) ≡ Ok ((b ∷ word) ∷ [])
unfolding words_of
word_alone b word first h = rw (no_blank b first, not_quote b first) (plain_alone (b ∷ []) word h)

word_more : (b : ℕ) (word rest : List ℕ) → is_plain b ≡ true → list_all is_plain word ≡ true
    → words_of (b ∷ (word ++ 32 ∷ rest)) ≡ with_word (b ∷ word) (words_of rest)
unfolding words_of
word_more b word rest first h =
    rw (no_blank b first, not_quote b first) (plain_more (b ∷ []) word rest h)

pub plain_is_word : (word : List ℕ) → 0 < length word → list_all is_plain word ≡ true → IsWord word
plain_is_word [] some h = absurd (omega arith)
plain_is_word (b ∷ word) some h =
    let parts = and_parts (is_plain b) (list_all is_plain word) h in
    record {
      alone = word_alone b word parts.0 parts.1;
      more = λ rest. word_more b word rest parts.0 parts.1;
      shown = all_shown (b ∷ word) h;
    }

-- ---- texts

no_quote : (b : ℕ) → is_printable b ≡ true → (b == 34) ≡ false
no_quote b h = grind arith

printable_shown : (b : ℕ) → is_printable b ≡ true → is_shown b ≡ true
printable_shown b h = grind arith

quoted_more : (front text rest : List ℕ) → list_all is_printable text ≡ true
    → quoted_word front (text ++ 34 ∷ 32 ∷ rest) ≡ with_word (front ++ closed text) (words_of rest)
unfolding words_of
quoted_more front [] rest h = refl
quoted_more front (b ∷ text) rest h =
    let parts = and_parts (is_printable b) (list_all is_printable text) h in
    rw (no_quote b parts.0) (quoted_more (front ++ b ∷ []) text rest parts.1
    ∙ ap (λ word. with_word word (words_of rest)) (append_assoc front (b ∷ []) (closed text)))

quotes_more : (text rest : List ℕ) → list_all is_printable text ≡ true
    → words_of (script_quoted text ++ 32 ∷ rest) ≡ with_word (script_quoted text) (words_of rest)
unfolding words_of
quotes_more text rest h = ap (quoted_word (34 ∷ [])) (append_assoc text (34 ∷ []) (32 ∷ rest))
    ∙ quoted_more (34 ∷ []) text rest h

closed_shown : (text : List ℕ) → list_all is_printable text ≡ true
    → list_all is_shown (closed text) ≡ true
closed_shown [] h = refl
closed_shown (b ∷ text) h =
    let parts = and_parts (is_printable b) (list_all is_printable text) h in
    rw (printable_shown b parts.0) (closed_shown text parts.1)

digit_plain : (b d : ℕ) → hex_digit_value b ≡ Some d → is_plain b ≡ true
digit_plain b d h = grind arith

-- hex digits are plain
pub hex_plain : (bytes : List ℕ) → AreBytes bytes → list_all is_plain (encode_lower bytes) ≡ true
unfolding encode_with
hex_plain [] h = refl
hex_plain (b ∷ bytes) h =
    let byte : b < 256 = h 0 in
    let high = digit_plain (slice_index lower_digits (b / 16)) (b / 16)
    (IsDigits-lower_digits (b / 16) (omega arith)) in
    let low = digit_plain (slice_index lower_digits (b % 16)) (b % 16)
    (IsDigits-lower_digits (b % 16) (omega arith)) in
    rw (high, low) (hex_plain bytes (λ k. h (suc k)))

marked_is_word : (bytes : List ℕ) → AreBytes bytes → IsWord (marked_hex bytes)
marked_is_word bytes h = plain_is_word (marked_hex bytes) (omega arith) (hex_plain bytes h)

pub text_is_word : (text : List ℕ) → AreBytes text → IsWord (script_spelled text)
text_is_word text h = by_printable (list_all is_printable text) refl where
  by_printable : (v : Bool) → list_all is_printable text ≡ v → IsWord (script_spelled text)
  by_printable true is = record {
    alone = texts_are_words text h;
    more = λ rest. rw is (quotes_more text rest is);
    shown = rw is (closed_shown text is);
  }
  by_printable false is = rw is (marked_is_word text h)

-- ---- decimal numbers

is_digit : ℕ → Bool
is_digit b = nat_le 48 b && nat_le b 57

digit_digit : (d : ℕ) → d < 10 → is_digit (48 + d) ≡ true
unfolding is_digit
digit_digit d small = grind arith

digit_is_plain : (b : ℕ) → is_digit b ≡ true → is_plain b ≡ true
unfolding is_digit
digit_is_plain b h = grind arith

digits_plain : (ds : List ℕ) → list_all is_digit ds ≡ true → list_all is_plain ds ≡ true
digits_plain [] h = refl
digits_plain (b ∷ ds) h =
    let parts = and_parts (is_digit b) (list_all is_digit ds) h in
    rw (digit_is_plain b parts.0) (digits_plain ds parts.1)

digit_is : (d : ℕ) → d < 10 → digit_value (48 + d) ≡ d
digit_is d small = grind arith

digit_low : (d : ℕ) → d < 10 → nat_lt d 10 ≡ true
digit_low d small = grind arith

none_is : (n : ℕ) → None ≡ Some n → ⊥
none_is n e = cc

-- the value of digits with one more after them
behind_more : (front n d : ℕ) (ds : List ℕ) → d < 10 → number_behind 10 front ds ≡ Some n
    → number_behind 10 front (ds ++ (48 + d) ∷ []) ≡ Some (n * 10 + d)
behind_more front n d [] small is =
    let same : front ≡ n = cc in
    rw (digit_is d small, digit_low d small) (ap (λ (m : ℕ). Some (m * 10 + d)) same)
behind_more front n d (e ∷ ds) small is = by_digit (nat_lt (digit_value e) 10) refl
    (behind_more (front * 10 + digit_value e) n d ds small) where
      by_digit : (v : Bool) → nat_lt (digit_value e) 10 ≡ v
          → (number_behind 10 (front * 10 + digit_value e) ds ≡ Some n
          → number_behind 10 (front * 10 + digit_value e) (ds ++ (48 + d) ∷ []) ≡ Some (n * 10 + d))
          → number_behind 10 front ((e ∷ ds) ++ (48 + d) ∷ []) ≡ Some (n * 10 + d)
      by_digit true low more = rw low (more (rw low at is))
      by_digit false high more = absurd (none_is n (rw high at is))

-- what is known of the digits of a number
record IsNumber (n : ℕ) (ds : List ℕ) : Type 0 where
  spelled : number_behind 10 0 ds ≡ Some n
  digits : list_all is_digit ds ≡ true

one_digit : (n : ℕ) → n < 10 → IsNumber n ((48 + n) ∷ [])
one_digit n small =
    let same : 0 * 10 + n ≡ n = omega arith in
    record {
      spelled = rw (digit_is n small, digit_low n small) (ap Some same);
      digits = rw (digit_digit n small) refl;
    }

more_digits : (n : ℕ) (ds : List ℕ) → 10 ≤ n → IsNumber (n / 10) ds
    → IsNumber n (ds ++ (48 + n % 10) ∷ [])
more_digits n ds many is =
    let small : n % 10 < 10 = omega arith in
    let same : n / 10 * 10 + n % 10 ≡ n = omega arith in
    record {
      spelled = behind_more 0 (n / 10) (n % 10) ds small is.spelled ∙ ap Some same;
      digits = list_all-append is_digit ds ((48 + n % 10) ∷ [])
          ∙ rw (is.digits, digit_digit (n % 10) small) refl;
    }

decimal_is : (n : ℕ) → n < 2 ^ 64 → IsNumber n (decimal n)
decimal_is n small = decimal_by_steps IsNumber one_digit more_digits n small

not_hex : (ds : List ℕ) → list_all is_digit ds ≡ true → bytes_eq (take 2 ds) (codes "0x") ≡ false
unfolding is_digit
not_hex [] h = refl
not_hex (a ∷ []) h = grind arith
not_hex (a ∷ b ∷ ds) h = grind arith

in_ten : (n : ℕ) (ds : List ℕ) → number_behind 10 0 ds ≡ Some n → 0 < length ds → length ds ≤ 10
    → number_in 10 10 ds ≡ Some n
in_ten n ds is some few =
    let low : nat_lt 0 (length ds) ≡ true = grind arith in
    let high : nat_le (length ds) 10 ≡ true = grind arith in
    rw (low, high) is

-- a number that is printed is read back
pub number_back : (n limit : ℕ) → n < limit → limit ≤ 2 ^ 32
    → number_below limit (decimal n) ≡ Some n
number_back n limit small most =
    let is = decimal_is n (omega arith) in
    let spelled : spelled_number (decimal n) ≡ Some n = rw (not_hex (decimal n) is.digits)
    (in_ten n (decimal n) is.spelled (decimal_nonempty n (omega arith))
    (length-decimal-le 10 n (omega arith) (omega arith) (omega arith))) in
    let low : nat_lt n limit ≡ true = grind arith in
    ap (below limit) spelled ∙ rw low refl

pub number_is_word : (n : ℕ) → n < 2 ^ 64 → IsWord (decimal n)
number_is_word n small = plain_is_word (decimal n) (decimal_nonempty n small)
    (digits_plain (decimal n) (decimal_is n small).digits)

-- ---- lines

not_feed : (b : ℕ) → is_shown b ≡ true → (b == 10) ≡ false
not_feed b h = grind arith

not_return : (b : ℕ) → is_shown b ≡ true → (b == 13) ≡ false
not_return b h = grind arith

none_returns : (line : List ℕ) (k : ℕ) → list_all is_shown line ≡ true
    → (get_or line k 0 == 13) ≡ false
none_returns [] k h = refl
none_returns (b ∷ line) zero h = not_return b (and_parts (is_shown b) (list_all is_shown line) h).0
none_returns (b ∷ line) (suc k) h =
    none_returns line k (and_parts (is_shown b) (list_all is_shown line) h).1

feed_more : (b : ℕ) (bs : List ℕ) → (b == 10) ≡ false → feed (b ∷ bs) ≡ 1 + feed bs
feed_more b bs e = rw e refl

feed_is : (line rest : List ℕ) → list_all is_shown line ≡ true
    → feed (line ++ 10 ∷ rest) ≡ length line
feed_is [] rest h = refl
feed_is (b ∷ line) rest h =
    let parts = and_parts (is_shown b) (list_all is_shown line) h in
    let ih = feed_is line rest parts.1 in
    feed_more b (line ++ 10 ∷ rest) (not_feed b parts.0) ∙ omega arith

-- the first line of a text
pub line_first : (line rest : List ℕ) → list_all is_shown line ≡ true
    → lines (line ++ 10 ∷ rest) ≡ line ∷ lines rest
line_first line rest h =
    let all : List ℕ = line ++ 10 ∷ rest in
    let at = feed_is line rest h in
    let long = length-append line (10 ∷ rest) in
    let first : take (feed all) all ≡ line =
    ap (λ n. take n all) at ∙ take-append_seam line (10 ∷ rest) in
    let behind : drop (feed all + 1) all ≡ rest = ap (λ (n : ℕ). drop (n + 1) all) at
    ∙ drop_next (length line) 10 all rest (drop-append_seam line (10 ∷ rest)) in
    let kept : strip_carriage_return line ≡ line =
    rw (none_returns line (length line - 1) h) refl in
    lines_ended all (omega arith)
    ∙ ap (λ (x : List ℕ). strip_carriage_return x ∷ lines (drop (feed all + 1) all)) first
    ∙ ap (λ (x : List ℕ). x ∷ lines (drop (feed all + 1) all)) kept
    ∙ ap (λ (x : List ℕ). line ∷ lines x) behind
