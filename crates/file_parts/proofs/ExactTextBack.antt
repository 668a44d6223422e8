-- The text of an exact folder is read as what it says.
use Rattle.file_parts.proofs.AllWords.{◌≡◌, ◌<◌, ◌≤◌, ◌+◌, ◌-◌, ◌^◌, zero, suc, ℕ, true, false, Option, Some, None, List, [], ◌∷◌, ◌++◌, length, map, refl, sym, ap, subst, ◌∙◌, arith, inl, inr, append_assoc, append-nil, ◌⊎◌, ⊤, All, Ok, decimal, codes, nat_lt, option_map, bytes_eq, lines, cases_eq, eq-eqb, lt-ltb, ne_eqb, All-head, All-tail, encode_lower, decode_of-encode_lower, AreBytes, Database, data_in, words_of, number_below, database_text, left, spelled_part, field, then_read, HasText, IsPartName, ExactText, exact_lines, exact_text, filler_line, name_field_line, order_line, order_lines, rank_word, ExactHead, after_name_fault, next_order, order_fault, read_after_name, read_exact, read_exact_head, read_exact_line, read_order, read_order_line, said_by, spelled_after_name, spelled_rank, OrderLine, AfterName, Blob, cases_Bool}
use Rattle.std.proofs.lemmas.Slice.Eq.{bytes_eq-Decides}
use Rattle.file_parts.proofs.WordTexts.{IsWord, plain_is_word, number_back, number_is_word, line_first}
use Rattle.file_parts.proofs.TextLaws.{hex_is_word, part_word, part_is_word, part_back, field_here, first_line, one_info, read_back_from, texts_begin, first_words}

-- ---- words of ranks

WordOfRank : ℕ → Type 0
WordOfRank rank = ((rank ≡ 0) × (rank_word rank ≡ codes "app")) ⊎ ((rank ≡ 1)
    × (rank_word rank ≡ codes "sort")) ⊎ ((2 ≤ rank) × (rank_word rank ≡ decimal (rank - 2)))

word_of_rank : (rank : ℕ) → WordOfRank rank
unfolding WordOfRank
word_of_rank rank = elim (cases_eq rank 0) [
  | inl is ↦ (let yes = eq-eqb rank 0 is in inl (is, rw yes refl))
  | inr some ↦ (let no = ne_eqb rank 0 some in
      elim (cases_eq rank 1) [
        | inl is ↦ (let yes = eq-eqb rank 1 is in inr (inl (is, rw (no, yes) refl)))
        | inr more ↦
            (let other = ne_eqb rank 1 more in inr (inr (omega arith, rw (no, other) refl)))
      ])
]

rank_is_word : (rank : ℕ) → rank < 65538 → IsWord (rank_word rank)
unfolding WordOfRank
rank_is_word rank small = elim (word_of_rank rank) [
  | inl is ↦ subst IsWord (sym is.1) (plain_is_word (codes "app") (omega arith) refl)
  | inr other ↦ elim other [
    | inl is ↦ subst IsWord (sym is.1) (plain_is_word (codes "sort") (omega arith) refl)
    | inr is ↦ subst IsWord (sym is.1) (number_is_word (rank - 2) (omega arith))
  ]
]

none_is : (n : ℕ) → None ≡ Some n → ⊥
none_is n e = cc

other_word : (n : ℕ) (word : List ℕ) → n < 2 ^ 16 → number_below (2 ^ 16) word ≡ None
    → bytes_eq (decimal n) word ≡ false
other_word n word small none = elim (cases_Bool (bytes_eq (decimal n) word)) [
  | inl is ↦
      let same = (bytes_eq-Decides (decimal n) word).0 is in
      absurd (none_is n (sym none ∙ ap (number_below (2 ^ 16)) (sym same)
      ∙ number_back n (2 ^ 16) small (omega arith)))
  | inr is ↦ is
]

rank_back : (rank : ℕ) → rank < 65538 → spelled_rank (rank_word rank) ≡ Some rank
unfolding WordOfRank
rank_back rank small = elim (word_of_rank rank) [
  | inl is ↦ ap spelled_rank is.1 ∙ ap Some (sym is.0)
  | inr other ↦ elim other [
    | inl is ↦ ap spelled_rank is.1 ∙ ap Some (sym is.0)
    | inr is ↦ (let low = is.0 in
        let n : ℕ = rank - 2 in
        let same : 2 + n ≡ rank = omega arith in
        ap spelled_rank is.1 ∙ rw (
          other_word n (codes "app") (omega arith) refl,
          other_word n (codes "sort") (omega arith) refl,
          number_back n (2 ^ 16) (omega arith) (omega arith),
        ) (ap Some same))
  ]
]

-- ---- the lines of a text

-- the bytes after a name can be written
abbrev pub IsAfter : Blob → Type 0
IsAfter None = ⊤
IsAfter (Some bytes) = AreBytes bytes × (0 < length bytes) × (length bytes < 32)

abbrev name_texts : Blob → List (List ℕ) → List (List ℕ)
name_texts None texts = texts
name_texts (Some bytes) texts = (codes "namefield " ++ encode_lower bytes) ∷ texts

abbrev order_texts : List ℕ → List (List ℕ) → List (List ℕ)
order_texts [] texts = texts
order_texts (rank ∷ ranks) texts = (codes "order " ++ rank_word rank) ∷ order_texts ranks texts

hex_word : (bytes : List ℕ) → AreBytes bytes → 0 < length bytes → IsWord (encode_lower bytes)
hex_word [] are some = absurd (omega arith)
hex_word (b ∷ bytes) are some = hex_is_word b bytes are

line_joined : (first value rest : List ℕ)
    → (first ++ (value ++ 10 ∷ [])) ++ rest ≡ first ++ (value ++ 10 ∷ rest)
line_joined first value rest =
    cc (append_assoc first (value ++ 10 ∷ []) rest, append_assoc value (10 ∷ []) rest)

name_read : (after : Blob) (rest : List ℕ) → IsAfter after
    → lines (name_field_line after ++ rest) ≡ name_texts after (lines rest)
name_read None rest is = refl
name_read (Some bytes) rest is =
    ap lines (line_joined (codes "namefield ") (encode_lower bytes) rest)
    ∙ first_line (codes "namefield ") (encode_lower bytes) rest refl (hex_word bytes is.0 is.1)

order_read : (ranks rest : List ℕ) → All (λ rank. rank < 65538) ranks
    → lines (order_lines ranks ++ rest) ≡ order_texts ranks (lines rest)
order_read [] rest all = refl
order_read (rank ∷ ranks) rest all =
    let first = append_assoc (order_line rank) (order_lines ranks) rest in
    let second = line_joined (codes "order ") (rank_word rank) (order_lines ranks ++ rest) in
    let third = first_line (codes "order ") (rank_word rank) (order_lines ranks ++ rest) refl
    (rank_is_word rank (All-head (λ r. r < 65538) rank ranks all)) in
    cc (order_read ranks rest (All-tail (λ r. r < 65538) rank ranks all))

abbrev filler_text : Blob → List ℕ
filler_text part = codes "filler " ++ part_word part

whole_read : (text : ExactText) → IsAfter text.after_name → IsPartName text.filler
    → All (λ rank. rank < 65538) text.order
    → lines (exact_text text) ≡ codes "exact" ∷ name_texts text.after_name (filler_text text.filler
    ∷ order_texts text.order (lines (database_text text.database)))
unfolding exact_text exact_lines
whole_read text after filler small =
    let rest : List ℕ = database_text text.database in
    let name : List ℕ = name_field_line text.after_name in
    let part : List ℕ = filler_line text.filler in
    let order : List ℕ = order_lines text.order in
    let first = line_first (codes "exact") ((name ++ (part ++ order)) ++ rest) refl in
    let second = append_assoc name (part ++ order) rest in
    let third = append_assoc part order rest in
    let fourth = name_read text.after_name (part ++ (order ++ rest)) after in
    let fifth = one_info (codes "filler") text.filler (order ++ rest) refl filler in
    cc (order_read text.order rest small)

-- ---- how they are read

first_read : (texts : List (List ℕ))
    → read_exact_line (left 0 (codes "exact" ∷ texts)) ≡ Ok (true, left 1 texts)
first_read texts = rw (plain_is_word (codes "exact") (omega arith) refl).alone refl

-- the value of the line with the bytes after the name, if it is there, and the number of lines then
abbrev pub after_at : ℕ → Blob → Option AfterName
after_at n None = None
after_at n (Some bytes) = Some (record { bytes = bytes; line = n + 1 })

abbrev behind_name : ℕ → Blob → ℕ
behind_name n None = n
behind_name n (Some bytes) = n + 1

after_back : (bytes : List ℕ) → IsAfter (Some bytes)
    → spelled_after_name (encode_lower bytes) ≡ Some bytes
after_back bytes is =
    let less : nat_lt (length bytes) 32 ≡ true = lt-ltb (length bytes) 32 is.2 in
    rw (decode_of-encode_lower bytes is.0, less) refl

name_back : (after : Blob) (n : ℕ) (part : Blob) (texts : List (List ℕ)) → IsAfter after
    → IsPartName part → read_after_name (left n (name_texts after (filler_text part ∷ texts)))
    ≡ Ok (after_at n after, left (behind_name n after) (filler_text part ∷ texts))
unfolding words_of
name_back None n part texts is named = rw (part_is_word part named).alone refl
name_back (Some bytes) n part texts is named =
    rw ((hex_word bytes is.0 is.1).alone, after_back bytes is) refl

filler_back : (part : Blob) (n : ℕ) (texts : List (List ℕ)) → IsPartName part
    → field (codes "filler") spelled_part (left n (filler_text part ∷ texts))
    ≡ Ok (part, left (n + 1) texts)
unfolding words_of
filler_back part n texts named = field_here (codes "filler") (codes "filler ") (part_word part) n
    texts spelled_part part refl refl refl (part_is_word part named) (part_back part named)

abbrev pub lines_at : ℕ → List ℕ → List OrderLine
lines_at n [] = []
lines_at n (rank ∷ ranks) = record { rank = rank; line = n + 1 } ∷ lines_at (n + 1) ranks

abbrev behind_order : ℕ → List ℕ → ℕ
behind_order n [] = n
behind_order n (rank ∷ ranks) = behind_order (n + 1) ranks

one_order : (rank n : ℕ) (texts : List (List ℕ)) → rank < 65538
    → read_order_line (left n ((codes "order " ++ rank_word rank) ∷ texts))
    ≡ Ok (Some (record { rank = rank; line = n + 1 }), left (n + 1) texts)
unfolding words_of
one_order rank n texts small = rw ((rank_is_word rank small).alone, rank_back rank small) refl

-- the line after them is no line `order`
no_order : (d : Database Blob) (n : ℕ) → HasText d → read_order_line (left n
    (lines (database_text d))) ≡ Ok (None, left n (lines (database_text d)))
no_order d n is =
    let words = first_words d is in
    rw (texts_begin d is) (rw (words.0, words.1) refl)

order_back : (d : Database Blob) (ranks : List ℕ) (most n : ℕ) (front : List OrderLine) → HasText d
    → All (λ rank. rank < 65538) ranks → length ranks ≤ most
    → read_order most front (left n (order_texts ranks (lines (database_text d))))
    ≡ Ok (front ++ lines_at n ranks, left (behind_order n ranks) (lines (database_text d)))
order_back d [] zero n front is all few = cc (append-nil front)
order_back d [] (suc most) n front is all few = cc (no_order d n is, append-nil front)
order_back d (rank ∷ ranks) zero n front is all few = absurd (omega arith)
order_back d (rank ∷ ranks) (suc most) n front is all few =
    let one : OrderLine = record { rank = rank; line = n + 1 } in
    ap (λ read. then_read read (next_order (read_order most) front)) (one_order rank n
    (order_texts ranks (lines (database_text d))) (All-head (λ r. r < 65538) rank ranks all))
    ∙ order_back d ranks most (n + 1) (front ++ one ∷ []) is
    (All-tail (λ r. r < 65538) rank ranks all) (omega arith)
    ∙ ap (λ xs. Ok (xs, left (behind_order (n + 1) ranks) (lines (database_text d))))
    (append_assoc front (one ∷ []) (lines_at (n + 1) ranks))

length-order_texts : (ranks : List ℕ) (texts : List (List ℕ))
    → length ranks ≤ length (order_texts ranks texts)
length-order_texts [] texts = omega arith
length-order_texts (rank ∷ ranks) texts = omega (arith, length-order_texts ranks texts)

-- ---- all of it

head_at : ExactText → ExactHead
head_at text = record {
  after_name = after_at 1 text.after_name;
  filler = text.filler;
  order = lines_at (behind_name 1 text.after_name + 1) text.order;
}

pub record IsReadable (text : ExactText) : Type 0 where
  pub database : HasText text.database
  pub after : IsAfter text.after_name
  pub filler : IsPartName text.filler
  pub small : All (λ rank. rank < 65538) text.order
  pub fits : (n : ℕ)
      → after_name_fault text.database.header.name (after_at n text.after_name) ≡ None
  pub good : (n : ℕ) → order_fault (data_in text.database) [] (lines_at n text.order) ≡ None

head_back : (text : ExactText) → IsReadable text
    → read_exact_head (left 1 (name_texts text.after_name (filler_text text.filler
    ∷ order_texts text.order (lines (database_text text.database))))) ≡ Ok (
      head_at text,
      left (behind_order (behind_name 1 text.after_name + 1) text.order)
          (lines (database_text text.database)),
    )
unfolding head_at
head_back text is =
    let n : ℕ = behind_name 1 text.after_name in
    let texts : List (List ℕ) = order_texts text.order (lines (database_text text.database)) in
    rw (
      name_back text.after_name 1 text.filler texts is.after is.filler,
      filler_back text.filler n texts is.filler,
      order_back text.database text.order (length texts) (n + 1) [] is.database is.small
          (length-order_texts text.order (lines (database_text text.database))),
    ) refl

bytes_at : (n : ℕ) (after : Blob)
    → option_map (λ (a : AfterName). a.bytes) (after_at n after) ≡ after
bytes_at n None = refl
bytes_at n (Some bytes) = refl

ranks_at : (n : ℕ) (ranks : List ℕ)
    → map (λ (line : OrderLine). line.rank) (lines_at n ranks) ≡ ranks
ranks_at n [] = refl
ranks_at n (rank ∷ ranks) = ap (λ xs. rank ∷ xs) (ranks_at (n + 1) ranks)

with_all : ExactText → Blob → List ℕ → ExactText
with_all text after order =
    record { database = text.database; after_name = after; filler = text.filler; order = order }

said_back : (text : ExactText) → said_by (head_at text) text.database ≡ text
unfolding head_at with_all
said_back text = ap (λ after. with_all text after (map (λ (line : OrderLine). line.rank)
    (lines_at (behind_name 1 text.after_name + 1) text.order))) (bytes_at 1 text.after_name)
    ∙ ap (with_all text text.after_name) (ranks_at (behind_name 1 text.after_name + 1) text.order)

pub text_read : (text : ExactText) → IsReadable text → read_exact (exact_text text) ≡ Some (Ok text)
unfolding read_exact head_at
text_read text is =
    let n : ℕ = behind_order (behind_name 1 text.after_name + 1) text.order in
    let texts : List (List ℕ) = name_texts text.after_name
    (filler_text text.filler ∷ order_texts text.order (lines (database_text text.database))) in
    rw (
      whole_read text is.after is.filler is.small,
      first_read texts,
      head_back text is,
      read_back_from text.database n is.database,
      is.fits 1,
      is.good (behind_name 1 text.after_name + 1),
      said_back text,
    ) refl
