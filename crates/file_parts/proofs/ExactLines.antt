-- The lines `order` of a text are read one by one.
use Rattle.file_parts.proofs.AllWords.{◌≡◌, ℕ, zero, suc, ◌<◌, ◌≤◌, Option, Some, None, List, [], ◌∷◌, ◌++◌, length, refl, sym, ap, subst, arith, Ok, Err, Result, codes, option_map, option_and_then, option_map_or, words_of, LineFault, ScriptFault, BadWord, Left, only_word, words_after, Read, fault_in, next_of, then_read, next_order, only_word_at, read_order, read_order_line, spelled_rank, value_if, words_and, OrderLine}
use Rattle.file_parts.proofs.ListedEntries.{next_shorter}

-- What is read of a line that may be left out: nothing, and no line; or a value or a fault, of a
-- line that is there.
abbrev IsReadOff : Left → Read (Option OrderLine) → Type 0
IsReadOff rest (Ok (None, after)) = after ≡ rest
IsReadOff rest (Ok (Some value, after)) = length after.texts < length rest.texts
IsReadOff rest (Err fault) = 0 < length rest.texts

abbrev spelled : ℕ → List ℕ → Option OrderLine
spelled line word = option_map (λ rank. record { rank = rank; line = line }) (spelled_rank word)

by_spelled : (rest after : Left) → length after.texts < length rest.texts
    → (value : Option OrderLine) → IsReadOff rest (option_map_or (λ v. Ok (Some v, after)) value
    (Err (fault_in after.number (BadWord 2))))
by_spelled rest after less None = omega arith
by_spelled rest after less (Some value) = less

by_only : (rest after : Left) → length after.texts < length rest.texts
    → (word : Result (List ℕ) ScriptFault)
    → IsReadOff rest (then_read (only_word_at after word) (value_if spelled))
by_only rest after less (Err fault) = omega arith
by_only rest after less (Ok word) = by_spelled rest after less (spelled after.number word)

by_words : (rest after : Left) → length after.texts < length rest.texts
    → (words : Result (List (List ℕ)) ScriptFault)
    → IsReadOff rest (then_read (option_map_or (λ both. only_word_at both.1 (only_word (Ok both.0)))
    (words_and after words) (Ok (None, rest))) (value_if spelled))
by_words rest after less (Err fault) = refl
by_words rest after less (Ok words) = by_only rest after less (only_word (Ok words))

by_next : (rest : Left) (next : Option (List ℕ × Left)) → next_of rest.number rest.texts ≡ next
    → IsReadOff rest (then_read (option_map_or (λ both. only_word_at both.1 (only_word (Ok both.0)))
    (option_and_then (λ next. words_and next.1 (words_after (codes "order") (words_of next.0)))
    next) (Ok (None, rest))) (value_if spelled))
by_next rest None e = refl
by_next rest (Some both) e =
    by_words rest both.1 (next_shorter rest.number rest.texts both.0 both.1 e)
    (words_after (codes "order") (words_of both.0))

order_read_off : (rest : Left) → IsReadOff rest (read_order_line rest)
order_read_off rest = by_next rest (next_of rest.number rest.texts) refl

-- a line is read, and others after it
pub order_more : (most : ℕ) (front : List OrderLine) (rest after : Left) (line : OrderLine)
    → length rest.texts ≤ most → read_order_line rest ≡ Ok (Some line, after)
    → (k : ℕ) × (length after.texts ≤ k)
    × (read_order most front rest ≡ read_order k (front ++ line ∷ []) after)
order_more zero front rest after line few is =
    let less : length after.texts < length rest.texts =
    subst (IsReadOff rest) is (order_read_off rest) in
    absurd (omega arith)
order_more (suc k) front rest after line few is =
    let less : length after.texts < length rest.texts =
    subst (IsReadOff rest) is (order_read_off rest) in
    (k, omega arith, ap (λ read. then_read read (next_order (read_order k) front)) is)

-- no line is left
pub order_ends : (most : ℕ) (front : List OrderLine) (rest after : Left)
    → read_order_line rest ≡ Ok (None, after) → read_order most front rest ≡ Ok (front, after)
order_ends zero front rest after is =
    let same : after ≡ rest = subst (IsReadOff rest) is (order_read_off rest) in
    ap (λ l. Ok (front, l)) (sym same)
order_ends (suc k) front rest after is = cc

-- the next line is faulty
pub order_faulty : (most : ℕ) (front : List OrderLine) (rest : Left) (fault : LineFault)
    → length rest.texts ≤ most → read_order_line rest ≡ Err fault
    → read_order most front rest ≡ Err fault
order_faulty zero front rest fault few is =
    let some : 0 < length rest.texts = subst (IsReadOff rest) is (order_read_off rest) in
    absurd (omega arith)
order_faulty (suc k) front rest fault few is = cc

-- the lines that are left are fewer after one
pub order_shorter : (rest after : Left) (line : OrderLine)
    → read_order_line rest ≡ Ok (Some line, after) → length after.texts < length rest.texts
order_shorter rest after line is = subst (IsReadOff rest) is (order_read_off rest)
