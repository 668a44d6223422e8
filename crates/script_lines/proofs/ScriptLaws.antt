-- Laws on the reading of lines and of scripts.
use Rattle.std.proofs.Common.{◌≡◌, ◌+◌, ◌<◌, ◌≤◌, ℕ, List, [], ◌∷◌, ◌++◌, length, drop, get_or, Bool, true, false, refl, sym, ap, ◌∙◌, arith, drop-cons, add-one}
use Rattle.std.specs.Prelude.{Option, Some, None, Result, Ok, Err}
use Rattle.std.specs.Result.{result_unwrap_or}
use Rattle.std.specs.Option.{option_to_list}
use Rattle.std.specs.Str.Lines.{lines}
use Rattle.script_lines.specs.declared.fault.LineFault.{LineFault}
use Rattle.script_lines.specs.declared.fault.ScriptFault.{ScriptFault}
use Rattle.script_commands.specs.declared.line.Line.{Line}
use Rattle.script_lines.specs.declared.fault.ScriptFault.TheVariants.{WrongCount, BadWord}
use Rattle.script_lines.specs.declared.text.WordCut.{WordCut}
use Rattle.script_lines.specs.declared.text.WordCut.TheVariants.{Absent, Broken, Word}
use Rattle.script_commands.specs.declared.value.Kind.{Kind}
use Rattle.script_lines.specs.Words.{is_passed_over, words_of, with_word, word_count}
use Rattle.script_lines.specs.Cuts.{CutsWord}
use Rattle.script_lines.specs.Kinds.{WordsRead, read_word, read_words}
use Rattle.script_lines.specs.Views.{Adds}
use Rattle.script_lines.specs.Numbering.{Numberings, none_numbered}
use Rattle.script_lines.specs.Reading.{HasLine, LineRead, read_lines, read_script, unless_faulty, words_in, line_unless_broken, line_of_words, read_line}

-- words before others
split_words : (word : List ℕ) (words : List (List ℕ)) (behind : Result (List (List ℕ)) ℕ) → Ok words ≡ with_word word behind → (more : List (List ℕ)) × (behind ≡ Ok more) × (words ≡ word ∷ more)
split_words word words (Ok more) e = (more, refl, cc)
split_words word words (Err number) e = cc

-- the first of a text's words, and those of the rest
pub word_step : (text word rest : List ℕ) → words_of text ≡ with_word word (words_of rest) → words_of text ≡ Ok (words_in text) → (words_of rest ≡ Ok (words_in rest)) × (words_in text ≡ word ∷ words_in rest)
word_step text word rest cut whole =
    let parts = split_words word (words_in text) (words_of rest) (sym whole ∙ cut) in
    let inner : words_in rest ≡ parts.0 = ap (λ behind. result_unwrap_or behind []) parts.1 in
    (parts.1 ∙ ap Ok (sym inner), parts.2 ∙ ap (λ more. word ∷ more) (sym inner))

-- a text without broken words from which no word can be cut has none
pub no_word : (text : List ℕ) (cut : WordCut) → CutsWord text cut → ((word rest : _) → cut ≡ Word word rest → ⊥) → words_of text ≡ Ok (words_in text) → words_in text ≡ []
no_word text Absent cut other whole = rw cut refl
no_word text Broken cut other whole = cc (cut.0, whole)
no_word text (Word word rest) cut other whole = absurd (other word rest refl)

-- one word more
pub read_more : (number : ℕ) (read after : WordsRead) (kinds : List Kind) (i : ℕ) (kind : Kind) (word : List ℕ) (words : List (List ℕ)) → i < length kinds → read_word read (get_or kinds i kind) word ≡ Some after → read_words number read (drop i kinds) (word ∷ words) ≡ read_words (number + 1) after (drop (i + 1) kinds) words
read_more number read after kinds i kind word words within of_kind = rw (drop-cons kinds i kind within, of_kind, add-one i) refl

pub read_bad : (number : ℕ) (read : WordsRead) (kinds : List Kind) (i : ℕ) (kind : Kind) (word : List ℕ) (words : List (List ℕ)) → i < length kinds → read_word read (get_or kinds i kind) word ≡ None → read_words number read (drop i kinds) (word ∷ words) ≡ Err (BadWord number)
read_bad number read kinds i kind word words within bad = rw (drop-cons kinds i kind within, bad) refl

-- a word that wasn't added isn't of its kind, and one that was is read
pub not_added : (read : Option WordsRead) (is_of_kind : Bool) (new : WordsRead) → Adds read is_of_kind new → is_of_kind ≡ false → read ≡ None
not_added None is_of_kind new adds is = refl
not_added (Some after) is_of_kind new adds is = cc

pub added : (read : Option WordsRead) (is_of_kind : Bool) (new : WordsRead) → Adds read is_of_kind new → is_of_kind ≡ true → read ≡ Some new
added None is_of_kind new adds is = cc
added (Some after) is_of_kind new adds is = ap Some (sym adds.1)

pub read_short : (number : ℕ) (read : WordsRead) (kinds : List Kind) (i : ℕ) (kind : Kind) → i < length kinds → read_words number read (drop i kinds) [] ≡ Err WrongCount
read_short number read kinds i kind within = rw (drop-cons kinds i kind within) refl

line_at : (labels : Numberings) (word : List ℕ) (count : ℕ) (behind : Result (List (List ℕ)) ℕ) → Ok count ≡ word_count (with_word word behind) → line_unless_broken labels (with_word word behind) ≡ line_of_words labels (word ∷ result_unwrap_or behind [])
line_at labels word count (Ok more) counted = refl
line_at labels word count (Err number) counted = cc

-- a line that isn't passed over and has no broken word is that of its words
pub read_line-words : (labels : Numberings) (text word rest : List ℕ) (count : ℕ) → is_passed_over text ≡ false → words_of text ≡ with_word word (words_of rest) → Ok count ≡ word_count (words_of text) → read_line labels text ≡ line_of_words labels (word ∷ words_in rest)
read_line-words labels text word rest count here cut counted =
    rw here (ap (line_unless_broken labels) cut ∙ line_at labels word count (words_of rest) (counted ∙ ap word_count cut))

-- a faulty line is one of those that are read
pub faulty_line : (number : ℕ) (labels : Numberings) (front : List Line) (texts : List (List ℕ)) (fault : LineFault) → read_lines number labels front texts ≡ Err fault → (number ≤ fault.line) × (fault.line < number + length texts)
faulty_line number labels front [] fault e = cc
faulty_line number labels front (text ∷ texts) fault e = by_line (read_line labels text) e (λ read at. faulty_line (number + 1) read.labels (front ++ option_to_list read.line) texts fault at)
  where
    by_line : (line : Result LineRead ScriptFault) → unless_faulty number line (λ read. read_lines (number + 1) read.labels (front ++ option_to_list read.line) texts) ≡ Err fault → ((read : LineRead) → read_lines (number + 1) read.labels (front ++ option_to_list read.line) texts ≡ Err fault → (number + 1 ≤ fault.line) × (fault.line < number + 1 + length texts)) → (number ≤ fault.line) × (fault.line < number + length (text ∷ texts))
    by_line (Err wrong) e later =
        let same : ◌≡◌ {A = LineFault} (record { line = number; fault = wrong }) fault = cc in
        let here : number ≡ fault.line = ap (λ (f : LineFault). f.line) same in (omega arith, omega arith)
    by_line (Ok read) e later = let behind = later read e in (omega arith, omega arith)

pub has_faulty_line : (text : List ℕ) (fault : LineFault) → read_script text ≡ Err fault → HasLine text fault.line
has_faulty_line text fault e = let among = faulty_line 1 none_numbered [] (lines text) fault e in (among.0, omega arith)
