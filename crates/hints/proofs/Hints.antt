-- The words of a line, and what is wrong with one of them.
use Rattle.std.proofs.Common.{◌≡◌, ◌∙◌, ℕ, zero, suc, ◌+◌, ◌-◌, ◌<◌, List, [], ◌∷◌, length, drop, refl, sym, ap, arith, add-one}
use Rattle.std.specs.Prelude.{Option, None, Some, Result, Ok, Err, map, slice_get}
use Rattle.std.specs.Option.{option_map_or}
use Rattle.std.specs.Result.{result_unwrap_or}
use Rattle.script_commands.specs.Commands.{command_of, kinds_of}
use Rattle.script_commands.specs.declared.command.Command.{Command}
use Rattle.script_commands.specs.declared.value.Kind.{Kind}
use Rattle.hints.specs.FaultyLines.{item_numbered, wanted_after_command, wanted_of_kind}
use Rattle.script_lines.specs.Reading.{words_in}
use Rattle.script_lines.specs.Words.{words_of, with_word, word_count}

whole_by : (words : Result (List (List ℕ)) ℕ) (count : ℕ) → Ok count ≡ word_count words → (words ≡ Ok (result_unwrap_or words [])) × (count ≡ length (result_unwrap_or words []))
whole_by (Ok words) count counted = (refl, cc)
whole_by (Err number) count counted = cc

-- a line whose words were counted has no broken word
pub counted_words_are_whole : (line : List ℕ) (count : ℕ) → Ok count ≡ word_count (words_of line) → (words_of line ≡ Ok (words_in line)) × (count ≡ length (words_in line))
counted_words_are_whole line count counted = whole_by (words_of line) count counted

broken_by : (words : Result (List (List ℕ)) ℕ) (number : ℕ) → Err number ≡ word_count words → words ≡ Err number
broken_by (Ok words) number counted = cc
broken_by (Err other) number counted = cc

pub broken_word_is_counted : (line : List ℕ) (number : ℕ) → Err number ≡ word_count (words_of line) → words_of line ≡ Err number
broken_word_is_counted line number counted = broken_by (words_of line) number counted

-- an item after the first one
pub later : {A : Type 0} (x : A) (xs : List A) (index : ℕ) → 0 < index → slice_get (x ∷ xs) index ≡ slice_get xs (index - 1)
later x xs zero some = absurd (omega (arith, some))
later x xs (suc index) some = let same : suc index - 1 ≡ index = omega arith in rw same refl

-- the word that is cut off a text without broken words, and the words after it
cut_by : (all : Result (List (List ℕ)) ℕ) (word : List ℕ) (more : Result (List (List ℕ)) ℕ) → all ≡ with_word word more → all ≡ Ok (result_unwrap_or all [])
    → (more ≡ Ok (result_unwrap_or more [])) × (result_unwrap_or all [] ≡ word ∷ result_unwrap_or more [])
cut_by all word (Ok words) is whole = (refl, rw is refl)
cut_by all word (Err number) is whole = absurd cc

pub rest_is_whole : (text word rest : List ℕ) → words_of text ≡ with_word word (words_of rest) → words_of text ≡ Ok (words_in text) → words_of rest ≡ Ok (words_in rest)
rest_is_whole text word rest is whole = (cut_by (words_of text) word (words_of rest) is whole).0

pub words_after_cut : (text word rest : List ℕ) → words_of text ≡ with_word word (words_of rest) → words_of text ≡ Ok (words_in text) → words_in text ≡ word ∷ words_in rest
words_after_cut text word rest is whole = (cut_by (words_of text) word (words_of rest) is whole).1

-- an item by its number, counted from 1
pub at_number : {A : Type 0} (items : List A) (number index : ℕ) → number ≡ index + 1 → item_numbered items number ≡ slice_get items index
at_number items number index is = rw (is, add-one) refl

pub at_no_number : {A : Type 0} (items : List A) (number : ℕ) → number < 1 → item_numbered items number ≡ None
at_no_number items zero none = refl
at_no_number items (suc number) none = absurd (omega (arith, none))

-- the first item of some
pub begins_with : {A : Type 0} (items : List A) (first : A) → Some first ≡ item_numbered items 1 → items ≡ first ∷ drop 1 items
begins_with [] first is = absurd cc
begins_with (x ∷ items) first is = cc

-- what the words after a first word have to be, if it is a command, and if it isn't
pub after_command : (first word : List ℕ) (found : Option Command) (command : Command) (kinds : List Kind) → word ≡ first → found ≡ command_of word → found ≡ Some command → kinds ≡ kinds_of command → map wanted_of_kind kinds ≡ wanted_after_command first
after_command first word found command kinds same is some are =
    ap (map wanted_of_kind) are
    ∙ sym (ap (λ (one : Option Command). option_map_or (λ (command : Command). map wanted_of_kind (kinds_of command)) one []) (sym (ap command_of same) ∙ sym is ∙ some))

pub after_no_command : (first word : List ℕ) (found : Option Command) → word ≡ first → found ≡ command_of word → found ≡ None → [] ≡ wanted_after_command first
after_no_command first word found same is none =
    sym (ap (λ (one : Option Command). option_map_or (λ (command : Command). map wanted_of_kind (kinds_of command)) one []) (sym (ap command_of same) ∙ sym is ∙ none))
