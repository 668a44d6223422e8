-- The text of a database is read as that database.
use Rattle.file_parts.proofs.AllWords.{◌≡◌, ◌<◌, ◌≤◌, ◌+◌, ◌*◌, ◌/◌, ◌%◌, ◌^◌, zero, suc, ℕ, Bool, true, false, Option, Some, None, List, [], ◌∷◌, ◌++◌, length, refl, sym, ap, ◌∙◌, arith, append_assoc, append-nil, length-append, All, Ok, nat_lt, nat_le, decimal, codes, slice_index, list_all, bytes_eq, lines, and_parts, All-head, All-tail, list_all-append, encode_lower, encode_with, hex_digit_value, lower_digits, IsDigits-lower_digits, AreBytes, u16_bytes, u32_bytes, DatabaseHeader, Database, Entry, a_record, a_resource, HeaderFits, has_resources, is_deleted, script_spelled, is_passed_over, words_of, with_word, digit_value, hex_below, number_behind, number_below, spelled_four, are_four, texts_are_read_back, four_bytes_are_read_back, header_lines, part_text, info_line, info_lines, entry_line, entry_lines, body_lines, database_text, left, begins_name, is_name_byte, has_name_bytes, spelled_part, part_or, is_name, spelled_name, entry_word, words_after, read_entry, field, number, read_title, read_counts, read_kinds, read_infos, read_entries, read_database, read_database_from, HasText, IsPartName, IsNamedEntry, TextsAreRead}
use Rattle.std.proofs.Common.{◌==◌}
use Rattle.file_parts.proofs.WordTexts.{IsWord, is_shown, is_plain, plain_is_word, hex_plain, text_is_word, number_back, number_is_word, line_first}

-- ---- hex numbers

hex_value : (b d : ℕ) → hex_digit_value b ≡ Some d → digit_value b ≡ d
hex_value b d h = grind arith

digit_of : (d : ℕ) → d < 16 → digit_value (slice_index lower_digits d) ≡ d
digit_of d small = hex_value (slice_index lower_digits d) d (IsDigits-lower_digits d small)

low : (d : ℕ) → d < 16 → nat_lt d 16 ≡ true
low d small = grind arith

-- the digits of a byte, and those after them
byte_behind : (front b : ℕ) (bytes : List ℕ) → b < 256 → number_behind 16 front
    (encode_lower (b ∷ bytes)) ≡ number_behind 16 (front * 256 + b) (encode_lower bytes)
unfolding encode_with
byte_behind front b bytes small =
    let high : b / 16 < 16 = omega arith in
    let rest : b % 16 < 16 = omega arith in
    let same : (front * 16 + b / 16) * 16 + b % 16 ≡ front * 256 + b = omega arith in
    rw (digit_of (b / 16) high, low (b / 16) high, digit_of (b % 16) rest, low (b % 16) rest)
    (ap (λ n. number_behind 16 n (encode_lower bytes)) same)

none_behind : (front : ℕ) → number_behind 16 front (encode_lower []) ≡ Some front
unfolding encode_with
none_behind front = refl

one_byte : (a : ℕ) → a < 256 → number_behind 16 0 (encode_lower (a ∷ [])) ≡ Some a
one_byte a small =
    let same : 0 * 256 + a ≡ a = omega arith in
    byte_behind 0 a [] small ∙ none_behind (0 * 256 + a) ∙ ap Some same

two_bytes : (a b : ℕ) → a < 256 → b < 256
    → number_behind 16 0 (encode_lower (a ∷ b ∷ [])) ≡ Some (a * 256 + b)
two_bytes a b first second =
    let same : (0 * 256 + a) * 256 + b ≡ a * 256 + b = omega arith in
    byte_behind 0 a (b ∷ []) first ∙ byte_behind (0 * 256 + a) b [] second
    ∙ none_behind ((0 * 256 + a) * 256 + b) ∙ ap Some same

four_bytes : (a b c d : ℕ) → a < 256 → b < 256 → c < 256 → d < 256 → number_behind 16 0
    (encode_lower (a ∷ b ∷ c ∷ d ∷ [])) ≡ Some (((a * 256 + b) * 256 + c) * 256 + d)
four_bytes a b c d first second third fourth =
    let same : (((0 * 256 + a) * 256 + b) * 256 + c) * 256 + d
    ≡ ((a * 256 + b) * 256 + c) * 256 + d = omega arith in
    byte_behind 0 a (b ∷ c ∷ d ∷ []) first ∙ byte_behind (0 * 256 + a) b (c ∷ d ∷ []) second
    ∙ byte_behind ((0 * 256 + a) * 256 + b) c (d ∷ []) third
    ∙ byte_behind (((0 * 256 + a) * 256 + b) * 256 + c) d [] fourth
    ∙ none_behind ((((0 * 256 + a) * 256 + b) * 256 + c) * 256 + d) ∙ ap Some same

length-hex_one : (a : ℕ) → length (encode_lower (a ∷ [])) ≡ 2
unfolding encode_with
length-hex_one a = refl

length-hex_two : (a b : ℕ) → length (encode_lower (a ∷ b ∷ [])) ≡ 4
unfolding encode_with
length-hex_two a b = refl

length-hex_four : (a b c d : ℕ) → length (encode_lower (a ∷ b ∷ c ∷ d ∷ [])) ≡ 8
unfolding encode_with
length-hex_four a b c d = refl

in_hex : (n limit long : ℕ) (word : List ℕ) → n < limit → length word ≡ long → 0 < long → long ≤ 8
    → number_behind 16 0 word ≡ Some n → hex_below limit word ≡ Some n
in_hex n limit long word small is some few value =
    let low : nat_lt 0 (length word) ≡ true = grind arith in
    let high : nat_le (length word) 8 ≡ true = grind arith in
    let under : nat_lt n limit ≡ true = grind arith in
    rw (low, high, value, under) refl

-- a byte, a number of two bytes and one of four are read back
hex_back_one : (n : ℕ) → n < 2 ^ 8 → hex_below (2 ^ 8) (encode_lower (n ∷ [])) ≡ Some n
hex_back_one n small = in_hex n (2 ^ 8) 2 (encode_lower (n ∷ [])) small (length-hex_one n)
    (omega arith) (omega arith) (one_byte n small)

hex_back_two : (n : ℕ) → n < 2 ^ 16 → hex_below (2 ^ 16) (encode_lower (u16_bytes n)) ≡ Some n
unfolding u16_bytes
hex_back_two n small = in_hex n (2 ^ 16) 4 (encode_lower (u16_bytes n)) small (length-hex_two _ _)
    (omega arith) (omega arith) (two_bytes _ _ (omega arith) (omega arith) ∙ ap Some (omega arith))

hex_back_four : (n : ℕ) → n < 2 ^ 32 → hex_below (2 ^ 32) (encode_lower (u32_bytes n)) ≡ Some n
unfolding u32_bytes
hex_back_four n small = in_hex n (2 ^ 32) 8 (encode_lower (u32_bytes n)) small
    (length-hex_four _ _ _ _) (omega arith) (omega arith) (four_bytes _ _ _ _ (omega arith)
    (omega arith) (omega arith) (omega arith) ∙ ap Some (omega arith))

are_one : (a : ℕ) → a < 256 → AreBytes (a ∷ [])
are_one a small zero = small
are_one a small (suc k) = omega arith

are_two : (a b : ℕ) → a < 256 → b < 256 → AreBytes (a ∷ b ∷ [])
are_two a b first second zero = first
are_two a b first second (suc zero) = second
are_two a b first second (suc (suc k)) = omega arith

u16_are : (n : ℕ) → AreBytes (u16_bytes n)
unfolding u16_bytes
u16_are n = are_two _ _ (omega arith) (omega arith)

u32_are : (n : ℕ) → AreBytes (u32_bytes n)
unfolding u32_bytes
u32_are n = are_four _ _ _ _ (omega arith) (omega arith) (omega arith) (omega arith)

some_hex : (a : ℕ) (bytes : List ℕ) → 0 < length (encode_lower (a ∷ bytes))
unfolding encode_with
some_hex a bytes = omega arith

pub hex_is_word : (a : ℕ) (bytes : List ℕ) → AreBytes (a ∷ bytes)
    → IsWord (encode_lower (a ∷ bytes))
hex_is_word a bytes are =
    plain_is_word (encode_lower (a ∷ bytes)) (some_hex a bytes) (hex_plain (a ∷ bytes) are)

hex_word_two : (n : ℕ) → IsWord (encode_lower (u16_bytes n))
unfolding u16_bytes
hex_word_two n = hex_is_word _ _ (are_two _ _ (omega arith) (omega arith))

hex_word_four : (n : ℕ) → IsWord (encode_lower (u32_bytes n))
unfolding u32_bytes
hex_word_four n =
    hex_is_word _ _ (are_four _ _ _ _ (omega arith) (omega arith) (omega arith) (omega arith))

-- ---- names of parts

name_plain : (b : ℕ) → is_name_byte b ≡ true → is_plain b ≡ true
name_plain b h = grind arith

first_plain : (b : ℕ) → begins_name b ≡ true → is_plain b ≡ true
first_plain b h = grind arith

all_plain : (bs : List ℕ) → list_all is_name_byte bs ≡ true → list_all is_plain bs ≡ true
all_plain [] h = refl
all_plain (b ∷ bs) h =
    let parts = and_parts (is_name_byte b) (list_all is_name_byte bs) h in
    rw (name_plain b parts.0) (all_plain bs parts.1)

bytes_word : (name : List ℕ) → has_name_bytes name ≡ true → IsWord name
bytes_word [] h = absurd cc
bytes_word (b ∷ bs) h =
    let parts = and_parts (begins_name b) (list_all is_name_byte bs) h in
    plain_is_word (b ∷ bs) (omega arith) (rw (first_plain b parts.0) (all_plain bs parts.1))

-- a name of a part has only bytes that it may have
has_bytes : (name : List ℕ) → spelled_part name ≡ Some (Some name) → has_name_bytes name ≡ true
has_bytes name h = by_bytes (has_name_bytes name) refl where
  by_bytes : (v : Bool) → has_name_bytes name ≡ v → has_name_bytes name ≡ true
  by_bytes true is = is
  by_bytes false is = by_none (bytes_eq name (codes "none")) refl where
    by_none : (w : Bool) → bytes_eq name (codes "none") ≡ w → has_name_bytes name ≡ true
    by_none true e = absurd (not_none (rw e at h)) where
      not_none : {X : Type 0} {x : X} → Some None ≡ Some (Some x) → ⊥
      not_none e = cc
    by_none false e = absurd (not_some (rw (e, is) at h)) where
      not_some : {X : Type 0} {x : X} → None ≡ Some x → ⊥
      not_some e = cc

-- the word of a part, and how it is read
pub part_word : Option (List ℕ) → List ℕ
part_word None = codes "none"
part_word (Some name) = name

pub part_is_word : (part : Option (List ℕ)) → IsPartName part → IsWord (part_word part)
unfolding part_word
part_is_word None is = plain_is_word (codes "none") (omega arith) refl
part_is_word (Some name) is = bytes_word name (has_bytes name is)

pub part_back : (part : Option (List ℕ)) → IsPartName part
    → spelled_part (part_word part) ≡ Some part
unfolding part_word
part_back None is = refl
part_back (Some name) is = is

part_ends : (part : Option (List ℕ)) (rest : List ℕ)
    → part_text part ++ rest ≡ 32 ∷ (part_word part ++ 10 ∷ rest)
unfolding part_word
part_ends None rest = refl
part_ends (Some name) rest = ap (λ (xs : List ℕ). 32 ∷ xs) (append_assoc name (10 ∷ []) rest)

-- ---- lines of the header

-- a line with a word and a value
pub field_here : {A : Type 0} (word first value : List ℕ) (n : ℕ) (texts : List (List ℕ))
    (spells : List ℕ → Option A) (x : A) → is_passed_over (first ++ value) ≡ false
    → words_of (first ++ value) ≡ with_word word (words_of value) → bytes_eq word word ≡ true
    → IsWord value → spells value ≡ Some x
    → field word spells (left n ((first ++ value) ∷ texts)) ≡ Ok (x, left (n + 1) texts)
field_here word first value n texts spells x passed words same is back =
    rw (passed, words, is.alone, same, back) refl

-- the first line, which has a word and a value
pub first_line : (first value rest : List ℕ) → list_all is_shown first ≡ true → IsWord value
    → lines (first ++ (value ++ 10 ∷ rest)) ≡ (first ++ value) ∷ lines rest
first_line first value rest shown is =
    ap lines (sym (append_assoc first value (10 ∷ rest))) ∙ line_first (first ++ value) rest
    (list_all-append is_shown first value ∙ rw (shown, is.shown) refl)

-- the same before other text
step : (first value more rest : List ℕ) → list_all is_shown first ≡ true → IsWord value
    → lines ((first ++ (value ++ 10 ∷ more)) ++ rest) ≡ (first ++ value) ∷ lines (more ++ rest)
step first value more rest shown is = ap lines (append_assoc first (value ++ 10 ∷ more) rest
    ∙ ap (λ xs. first ++ xs) (append_assoc value (10 ∷ more) rest))
    ∙ first_line first value (more ++ rest) shown is

-- the same, with the lines after it
step_on : (first value more rest : List ℕ) (texts : List (List ℕ))
    → list_all is_shown first ≡ true → IsWord value → lines (more ++ rest) ≡ texts
    → lines ((first ++ (value ++ 10 ∷ more)) ++ rest) ≡ (first ++ value) ∷ texts
step_on first value more rest texts shown is after =
    step first value more rest shown is ∙ ap (λ (xs : List (List ℕ)). (first ++ value) ∷ xs) after

-- the lines of a header, from each field on

abbrev seed_on : DatabaseHeader → List ℕ
seed_on h = codes "seed " ++ (encode_lower (u32_bytes h.seed) ++ 10 ∷ [])

abbrev creator_on : DatabaseHeader → List ℕ
creator_on h = codes "creator " ++ (script_spelled (u32_bytes h.creator) ++ 10 ∷ seed_on h)

abbrev type_on : DatabaseHeader → List ℕ
type_on h = codes "type " ++ (script_spelled (u32_bytes h.kind) ++ 10 ∷ creator_on h)

abbrev number_on : DatabaseHeader → List ℕ
number_on h = codes "number " ++ (decimal h.modification_number ++ 10 ∷ type_on h)

abbrev backup_on : DatabaseHeader → List ℕ
backup_on h = codes "backup " ++ (decimal h.backup_date ++ 10 ∷ number_on h)

abbrev modified_on : DatabaseHeader → List ℕ
modified_on h = codes "modified " ++ (decimal h.modification_date ++ 10 ∷ backup_on h)

abbrev created_on : DatabaseHeader → List ℕ
created_on h = codes "created " ++ (decimal h.creation_date ++ 10 ∷ modified_on h)

abbrev version_on : DatabaseHeader → List ℕ
version_on h = codes "version " ++ (decimal h.version ++ 10 ∷ created_on h)

abbrev attributes_on : DatabaseHeader → List ℕ
attributes_on h =
    codes "attributes " ++ (encode_lower (u16_bytes h.attributes) ++ 10 ∷ version_on h)

abbrev name_on : DatabaseHeader → List ℕ
name_on h = codes "name " ++ (script_spelled h.name ++ 10 ∷ attributes_on h)

abbrev seed_texts : DatabaseHeader → List (List ℕ) → List (List ℕ)
seed_texts h texts = (codes "seed " ++ encode_lower (u32_bytes h.seed)) ∷ texts

abbrev creator_texts : DatabaseHeader → List (List ℕ) → List (List ℕ)
creator_texts h texts =
    (codes "creator " ++ script_spelled (u32_bytes h.creator)) ∷ seed_texts h texts

abbrev type_texts : DatabaseHeader → List (List ℕ) → List (List ℕ)
type_texts h texts = (codes "type " ++ script_spelled (u32_bytes h.kind)) ∷ creator_texts h texts

abbrev number_texts : DatabaseHeader → List (List ℕ) → List (List ℕ)
number_texts h texts = (codes "number " ++ decimal h.modification_number) ∷ type_texts h texts

abbrev backup_texts : DatabaseHeader → List (List ℕ) → List (List ℕ)
backup_texts h texts = (codes "backup " ++ decimal h.backup_date) ∷ number_texts h texts

abbrev modified_texts : DatabaseHeader → List (List ℕ) → List (List ℕ)
modified_texts h texts = (codes "modified " ++ decimal h.modification_date) ∷ backup_texts h texts

abbrev created_texts : DatabaseHeader → List (List ℕ) → List (List ℕ)
created_texts h texts = (codes "created " ++ decimal h.creation_date) ∷ modified_texts h texts

abbrev version_texts : DatabaseHeader → List (List ℕ) → List (List ℕ)
version_texts h texts = (codes "version " ++ decimal h.version) ∷ created_texts h texts

abbrev attributes_texts : DatabaseHeader → List (List ℕ) → List (List ℕ)
attributes_texts h texts =
    (codes "attributes " ++ encode_lower (u16_bytes h.attributes)) ∷ version_texts h texts

abbrev name_texts : DatabaseHeader → List (List ℕ) → List (List ℕ)
name_texts h texts = (codes "name " ++ script_spelled h.name) ∷ attributes_texts h texts

module _ (h : DatabaseHeader) (rest : List ℕ) (fits : HeaderFits h) (bytes : AreBytes h.name) where
  seed_lines : lines (seed_on h ++ rest) ≡ seed_texts h (lines rest)
  seed_lines =
      step (codes "seed ") (encode_lower (u32_bytes h.seed)) [] rest refl (hex_word_four h.seed)

  creator_lines : lines (creator_on h ++ rest) ≡ creator_texts h (lines rest)
  creator_lines = step_on (codes "creator ") _ (seed_on h) rest _ refl
      (text_is_word (u32_bytes h.creator) (u32_are h.creator)) seed_lines

  type_lines : lines (type_on h ++ rest) ≡ type_texts h (lines rest)
  type_lines = step_on (codes "type ") _ (creator_on h) rest _ refl
      (text_is_word (u32_bytes h.kind) (u32_are h.kind)) creator_lines

  number_lines : lines (number_on h ++ rest) ≡ number_texts h (lines rest)
  number_lines = step_on (codes "number ") _ (type_on h) rest _ refl
      (number_is_word h.modification_number (omega (arith, fits.modification_number))) type_lines

  backup_lines : lines (backup_on h ++ rest) ≡ backup_texts h (lines rest)
  backup_lines = step_on (codes "backup ") _ (number_on h) rest _ refl
      (number_is_word h.backup_date (omega (arith, fits.backup_date))) number_lines

  modified_lines : lines (modified_on h ++ rest) ≡ modified_texts h (lines rest)
  modified_lines = step_on (codes "modified ") _ (backup_on h) rest _ refl
      (number_is_word h.modification_date (omega (arith, fits.modification_date))) backup_lines

  created_lines : lines (created_on h ++ rest) ≡ created_texts h (lines rest)
  created_lines = step_on (codes "created ") _ (modified_on h) rest _ refl
      (number_is_word h.creation_date (omega (arith, fits.creation_date))) modified_lines

  version_lines : lines (version_on h ++ rest) ≡ version_texts h (lines rest)
  version_lines = step_on (codes "version ") _ (created_on h) rest _ refl
      (number_is_word h.version (omega (arith, fits.version))) created_lines

  attributes_lines : lines (attributes_on h ++ rest) ≡ attributes_texts h (lines rest)
  attributes_lines = step_on (codes "attributes ") _ (version_on h) rest _ refl
      (hex_word_two h.attributes) version_lines

  name_lines : lines (name_on h ++ rest) ≡ name_texts h (lines rest)
  name_lines = step_on (codes "name ") _ (attributes_on h) rest _ refl
      (text_is_word h.name bytes) attributes_lines

header_is : (h : DatabaseHeader) → header_lines h ≡ name_on h
unfolding header_lines
header_is h = refl

-- ---- the header is read

title_back : (h : DatabaseHeader) (n : ℕ) (texts : List (List ℕ)) → HeaderFits h → AreBytes h.name
    → is_name h.name ≡ true → read_title (left n (name_texts h texts)) ≡ Ok (
      record { name = h.name; attributes = h.attributes; version = h.version },
      left (n + 1 + 1 + 1) (created_texts h texts),
    )
unfolding words_of
title_back h n texts fits bytes named =
    let back : spelled_name (script_spelled h.name) ≡ Some h.name =
    rw (texts_are_read_back h.name bytes, named) refl in
    rw (
      field_here (codes "name") (codes "name ") _ n (attributes_texts h texts) spelled_name h.name
          refl refl refl (text_is_word h.name bytes) back,
      field_here (codes "attributes") (codes "attributes ") _ (n + 1) (version_texts h texts)
          (hex_below (2 ^ 16)) h.attributes refl refl refl (hex_word_two h.attributes)
          (hex_back_two h.attributes fits.attributes),
      field_here (codes "version") (codes "version ") _ (n + 1 + 1) (created_texts h texts)
          (number_below (2 ^ 16)) h.version refl refl refl
          (number_is_word h.version (omega (arith, fits.version)))
          (number_back h.version (2 ^ 16) fits.version (omega arith)),
    ) refl

number_here : (word first : List ℕ) (n m : ℕ) (texts : List (List ℕ))
    → is_passed_over (first ++ decimal m) ≡ false
    → words_of (first ++ decimal m) ≡ with_word word (words_of (decimal m))
    → bytes_eq word word ≡ true → m < 2 ^ 32
    → field word number (left n ((first ++ decimal m) ∷ texts)) ≡ Ok (m, left (n + 1) texts)
number_here word first n m texts passed words same small = field_here word first _ n texts number m
    passed words same (number_is_word m (omega arith)) (number_back m (2 ^ 32) small (omega arith))

counts_back : (h : DatabaseHeader) (n : ℕ) (texts : List (List ℕ)) → HeaderFits h
    → read_counts (left n (created_texts h texts)) ≡ Ok (
      record {
        created = h.creation_date;
        modified = h.modification_date;
        backup = h.backup_date;
        number = h.modification_number;
      },
      left (n + 1 + 1 + 1 + 1) (type_texts h texts),
    )
unfolding words_of
counts_back h n texts fits =
    rw (
      number_here (codes "created") (codes "created ") n h.creation_date
          (modified_texts h texts) refl refl refl fits.creation_date,
      number_here (codes "modified") (codes "modified ") (n + 1) h.modification_date
          (backup_texts h texts) refl refl refl fits.modification_date,
      number_here (codes "backup") (codes "backup ") (n + 1 + 1) h.backup_date
          (number_texts h texts) refl refl refl fits.backup_date,
      number_here (codes "number") (codes "number ") (n + 1 + 1 + 1) h.modification_number
          (type_texts h texts) refl refl refl fits.modification_number,
    ) refl

four_here : (word first : List ℕ) (n m : ℕ) (texts : List (List ℕ))
    → is_passed_over (first ++ script_spelled (u32_bytes m)) ≡ false → words_of (first
    ++ script_spelled (u32_bytes m)) ≡ with_word word (words_of (script_spelled (u32_bytes m)))
    → bytes_eq word word ≡ true → m < 2 ^ 32 → field word spelled_four (left n
    ((first ++ script_spelled (u32_bytes m)) ∷ texts)) ≡ Ok (m, left (n + 1) texts)
four_here word first n m texts passed words same small =
    field_here word first _ n texts spelled_four m passed words same
    (text_is_word (u32_bytes m) (u32_are m)) (four_bytes_are_read_back m small)

kinds_back : (h : DatabaseHeader) (n : ℕ) (texts : List (List ℕ)) → HeaderFits h
    → read_kinds (left n (type_texts h texts))
    ≡ Ok (record { kind = h.kind; creator = h.creator; seed = h.seed }, left (n + 1 + 1 + 1) texts)
unfolding words_of
kinds_back h n texts fits =
    rw (
      four_here (codes "type") (codes "type ") n h.kind
          (creator_texts h texts) refl refl refl fits.kind,
      four_here (codes "creator") (codes "creator ") (n + 1) h.creator
          (seed_texts h texts) refl refl refl fits.creator,
      field_here (codes "seed") (codes "seed ") _ (n + 1 + 1) texts (hex_below (2 ^ 32)) h.seed refl
          refl refl (hex_word_four h.seed) (hex_back_four h.seed fits.seed),
    ) refl

-- ---- the info blocks

info_texts : Option (List ℕ) → Option (List ℕ) → List (List ℕ) → List (List ℕ)
info_texts app sort texts =
    (codes "app " ++ part_word app) ∷ (codes "sort " ++ part_word sort) ∷ texts

pub one_info : (word : List ℕ) (part : Option (List ℕ)) (rest : List ℕ)
    → list_all is_shown (word ++ 32 ∷ []) ≡ true → IsPartName part
    → lines (info_line word part ++ rest) ≡ ((word ++ 32 ∷ []) ++ part_word part) ∷ lines rest
one_info word part rest shown is =
    ap lines (append_assoc word (part_text part) rest ∙ ap (λ xs. word ++ xs) (part_ends part rest)
    ∙ sym (append_assoc word (32 ∷ []) (part_word part ++ 10 ∷ rest)))
    ∙ first_line (word ++ 32 ∷ []) (part_word part) rest shown (part_is_word part is)

infos_lines : (d : Database (Option (List ℕ))) (rest : List ℕ) → IsPartName d.app_info
    → IsPartName d.sort_info
    → lines (info_lines d ++ rest) ≡ info_texts d.app_info d.sort_info (lines rest)
unfolding info_lines info_texts
infos_lines d rest app sort = ap lines
    (append_assoc (info_line (codes "app") d.app_info) (info_line (codes "sort") d.sort_info) rest)
    ∙ one_info (codes "app") d.app_info (info_line (codes "sort") d.sort_info ++ rest) refl app
    ∙ ap (λ texts. (codes "app " ++ part_word d.app_info) ∷ texts)
    (one_info (codes "sort") d.sort_info rest refl sort)

infos_back : (app sort : Option (List ℕ)) (n : ℕ) (texts : List (List ℕ)) → IsPartName app
    → IsPartName sort → read_infos (left n (info_texts app sort texts))
    ≡ Ok (record { app = app; sort = sort }, left (n + 1 + 1) texts)
unfolding words_of info_texts
infos_back app sort n texts first second =
    rw (
      field_here (codes "app") (codes "app ") _ n ((codes "sort " ++ part_word sort) ∷ texts)
          spelled_part app refl refl refl (part_is_word app first) (part_back app first),
      field_here (codes "sort") (codes "sort ") _ (n + 1) texts spelled_part sort refl refl refl
          (part_is_word sort second) (part_back sort second),
    ) refl

-- ---- the entries

-- the line of an entry without its end
entry_text : Entry (Option (List ℕ)) → List ℕ
entry_text (a_record attributes id part) =
    codes "record " ++ (encode_lower (attributes ∷ []) ++ 32 ∷ (decimal id ++ 32 ∷ part_word part))
entry_text (a_resource kind id part) = codes "resource "
    ++ (script_spelled (u32_bytes kind) ++ 32 ∷ (decimal id ++ 32 ∷ part_word part))

three_shown : (first a b c : List ℕ) → list_all is_shown first ≡ true → IsWord a → IsWord b
    → IsWord c → list_all is_shown (first ++ (a ++ 32 ∷ (b ++ 32 ∷ c))) ≡ true
three_shown first a b c shown one two three =
    let end : list_all is_shown (32 ∷ c) ≡ true = three.shown in
    let back : list_all is_shown (32 ∷ (b ++ 32 ∷ c)) ≡ true =
    list_all-append is_shown b (32 ∷ c) ∙ rw (two.shown, end) refl in
    list_all-append is_shown first (a ++ 32 ∷ (b ++ 32 ∷ c))
    ∙ rw (shown, list_all-append is_shown a (32 ∷ (b ++ 32 ∷ c)), one.shown, back) refl

three_joined : (first a b rest : List ℕ) (part : Option (List ℕ)) → ((first ++ (a ++ (32 ∷ b)))
    ++ part_text part) ++ rest ≡ (first ++ (a ++ 32 ∷ (b ++ 32 ∷ part_word part))) ++ 10 ∷ rest
three_joined first a b rest part =
    let end : List ℕ = part_word part ++ 10 ∷ rest in
    let behind : (b ++ 32 ∷ end) ≡ (b ++ 32 ∷ part_word part) ++ 10 ∷ rest =
    sym (append_assoc b (32 ∷ part_word part) (10 ∷ rest)) in
    append_assoc (first ++ (a ++ 32 ∷ b)) (part_text part) rest
    ∙ ap (λ (xs : List ℕ). (first ++ (a ++ 32 ∷ b)) ++ xs) (part_ends part rest)
    ∙ append_assoc first (a ++ 32 ∷ b) (32 ∷ end)
    ∙ ap (λ (xs : List ℕ). first ++ xs) (append_assoc a (32 ∷ b) (32 ∷ end))
    ∙ ap (λ (xs : List ℕ). first ++ (a ++ 32 ∷ xs)) behind
    ∙ ap (λ xs. first ++ xs) (sym (append_assoc a (32 ∷ (b ++ 32 ∷ part_word part)) (10 ∷ rest)))
    ∙ sym (append_assoc first (a ++ 32 ∷ (b ++ 32 ∷ part_word part)) (10 ∷ rest))

entry_first : (r : Bool) (e : Entry (Option (List ℕ))) (rest : List ℕ) → IsNamedEntry r e
    → lines (entry_line e ++ rest) ≡ entry_text e ∷ lines rest
unfolding entry_text
entry_first false (a_record attributes id part) rest is = ap lines
    (three_joined (codes "record ") (encode_lower (attributes ∷ [])) (decimal id) rest part)
    ∙ line_first (entry_text (a_record attributes id part)) rest
    (three_shown (codes "record ") _ _ _ refl (hex_is_word attributes [] (are_one attributes is.0))
    (number_is_word id (omega (arith, is.1))) (part_is_word part is.2))
entry_first true (a_record attributes id part) rest is = absurd is
entry_first false (a_resource kind id part) rest is = absurd is
entry_first true (a_resource kind id part) rest is = ap lines
    (three_joined (codes "resource ") (script_spelled (u32_bytes kind)) (decimal id) rest part)
    ∙ line_first (entry_text (a_resource kind id part)) rest
    (three_shown (codes "resource ") _ _ _ refl (text_is_word (u32_bytes kind) (u32_are kind))
    (number_is_word id (omega (arith, is.1))) (part_is_word part is.2))

three_words_of : (a b c : List ℕ) → IsWord a → IsWord b → IsWord c
    → words_of (a ++ 32 ∷ (b ++ 32 ∷ c)) ≡ Ok (a ∷ b ∷ c ∷ [])
three_words_of a b c one two three =
    one.more (b ++ 32 ∷ c) ∙ ap (with_word a) (two.more c ∙ ap (with_word b) three.alone)

part_there : (part : Option (List ℕ)) (may_miss : Bool) → (part ≡ None → may_miss ≡ true)
    → IsPartName part → part_or may_miss (part_word part) ≡ Some part
part_there None may_miss dead is = rw (part_back None is, dead refl) refl
part_there (Some name) may_miss dead is = rw (part_back (Some name) is) refl

entry_back : (r : Bool) (e : Entry (Option (List ℕ))) → IsNamedEntry r e
    → read_entry r (words_after (entry_word r) (words_of (entry_text e))) ≡ Ok e
unfolding entry_text words_of
entry_back false (a_record attributes id part) is =
    let words = three_words_of _ _ _ (hex_is_word attributes [] (are_one attributes is.0))
    (number_is_word id (omega (arith, is.1))) (part_is_word part is.2) in
    rw (
      words,
      hex_back_one attributes is.0,
      number_back id (2 ^ 24) is.1 (omega arith),
      part_there part (is_deleted attributes) is.3 is.2,
    ) refl
entry_back true (a_record attributes id part) is = absurd is
entry_back false (a_resource kind id part) is = absurd is
entry_back true (a_resource kind id part) is =
    let words = three_words_of _ _ _ (text_is_word (u32_bytes kind) (u32_are kind))
    (number_is_word id (omega (arith, is.1))) (part_is_word part is.2) in
    rw (
      words,
      four_bytes_are_read_back kind is.0,
      number_back id (2 ^ 16) is.1 (omega arith),
      part_there part false (λ none. absurd (is.3 none)) is.2,
    ) refl

entry_passed : (r : Bool) (e : Entry (Option (List ℕ))) → is_passed_over (entry_text e) ≡ false
unfolding entry_text
entry_passed r (a_record attributes id part) = refl
entry_passed r (a_resource kind id part) = refl

not_full : (n : ℕ) → n < 65535 → (n == 65535) ≡ false
not_full n few = grind arith

entries_back : (r : Bool) (front es : List (Entry (Option (List ℕ)))) (n : ℕ)
    → All (IsNamedEntry r) es → length front + length es ≤ 65535
    → read_entries r front n (lines (entry_lines es)) ≡ Ok (front ++ es)
entries_back r front [] n all few = rw append-nil refl
entries_back r front (e ∷ es) n all few =
    let one = All-head (IsNamedEntry r) e es all in
    let long = length-append front (e ∷ []) in
    let rest = entries_back r (front ++ e ∷ []) es (n + 1) (All-tail (IsNamedEntry r) e es all)
    (omega arith) in
    ap (read_entries r front n) (entry_first r e (entry_lines es) one)
    ∙ rw (entry_passed r e, not_full (length front) (omega arith), entry_back r e one)
    (rest ∙ ap Ok (append_assoc front (e ∷ []) es))

-- ---- all of it

-- the first line of its text
pub first_text : DatabaseHeader → List ℕ
first_text h = codes "name " ++ script_spelled h.name

pub rest_texts : Database (Option (List ℕ)) → List (List ℕ)
rest_texts d =
    attributes_texts d.header (info_texts d.app_info d.sort_info (lines (entry_lines d.entries)))

pub texts_begin : (d : Database (Option (List ℕ))) → HasText d
    → lines (database_text d) ≡ first_text d.header ∷ rest_texts d
unfolding database_text body_lines first_text rest_texts
texts_begin d is =
    let h : DatabaseHeader = d.header in
    ap (λ (xs : List ℕ). lines (xs ++ body_lines d)) (header_is h)
    ∙ name_lines h (body_lines d) is.header is.bytes
    ∙ ap (name_texts h) (infos_lines d (entry_lines d.entries) is.app_info is.sort_info)

-- its words
pub first_words : (d : Database (Option (List ℕ))) → HasText d
    → (is_passed_over (first_text d.header) ≡ false)
    × (words_of (first_text d.header) ≡ Ok (codes "name" ∷ script_spelled d.header.name ∷ []))
unfolding first_text words_of
first_words d is = (refl, rw (text_is_word d.header.name is.bytes).alone refl)

-- its text is read as it, whatever number its first line has
pub read_back_from : (d : Database (Option (List ℕ))) (n : ℕ) → HasText d
    → read_database_from (left n (lines (database_text d))) ≡ Ok d
unfolding database_text body_lines
read_back_from d n is =
    let h : DatabaseHeader = d.header in
    let es : List (Entry (Option (List ℕ))) = d.entries in
    let infos : List (List ℕ) → List (List ℕ) = info_texts d.app_info d.sort_info in
    let all : lines (database_text d) ≡ name_texts h (infos (lines (entry_lines es))) =
    ap (λ (xs : List ℕ). lines (xs ++ body_lines d)) (header_is h)
    ∙ name_lines h (body_lines d) is.header is.bytes
    ∙ ap (name_texts h) (infos_lines d (entry_lines es) is.app_info is.sort_info) in
    rw (
      all,
      title_back h n (infos (lines (entry_lines es))) is.header is.bytes is.name,
      counts_back h (n + 1 + 1 + 1) (infos (lines (entry_lines es))) is.header,
      kinds_back h (n + 1 + 1 + 1 + 1 + 1 + 1 + 1) (infos (lines (entry_lines es))) is.header,
      infos_back d.app_info d.sort_info (n + 1 + 1 + 1 + 1 + 1 + 1 + 1 + 1 + 1 + 1)
          (lines (entry_lines es)) is.app_info is.sort_info,
      entries_back (has_resources h.attributes) [] es
          (n + 1 + 1 + 1 + 1 + 1 + 1 + 1 + 1 + 1 + 1 + 1 + 1) is.entries (omega (arith, is.few)),
    ) refl

pub texts_are_read : TextsAreRead
unfolding read_database
texts_are_read d is = read_back_from d 0 is
