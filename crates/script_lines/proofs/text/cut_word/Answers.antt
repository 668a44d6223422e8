use Rattle.std.proofs.Common.{◌≡◌, ◌<◌, ◌+◌, [], ◌∷◌, drop, take, length, sym, ◌∙◌, refl, false, true, arith}
use Rattle.std.proofs.lemmas.List.{nil_from_length}
use Rattle.script_lines.specs.Cuts.{ends_word}
use Rattle.script_lines.proofs.WordLaws.{blanks, plain, quote, words_none, plain_at, open_at, quoted_at}
use Rattle.script_lines.proofs.text.cut_word.Goals as goal

pub returns-in-None : goal.returns-in-None
returns-in-None c =
    let nothing : c.split_at.result.1.now ≡ [] = nil_from_length _ c.in-None.ensures.cases in
    let here : drop (blanks c.args.text.now) c.args.text.now ≡ [] = cc in
    words_none c.args.text.now here

pub returns-then-first-ne34 : goal.returns-then-first-ne34
returns-then-first-ne34 c =
    let front : c.split_at.result.1.now ≡ c.in-Some.first.now ∷ c.in-Some.inside.now = c.in-Some.ensures.cases.0 in
    let here : drop (blanks c.args.text.now) c.args.text.now ≡ c.in-Some.first.now ∷ c.in-Some.inside.now = cc in
    let law = plain_at c.args.text.now _ _ here c.if-first-ne34.true in
    let end : c.word_end.result ≡ plain (c.in-Some.first.now ∷ c.in-Some.inside.now) = rw front at c.word_end.ensures.value in
    let some : 0 < c.word_end.result = rw end law.1 in
    let word : c.split_at-then-first-ne34.result.0.now ≡ take (plain (c.in-Some.first.now ∷ c.in-Some.inside.now)) (c.in-Some.first.now ∷ c.in-Some.inside.now) = cc in
    let rest : c.split_at-then-first-ne34.result.1.now ≡ drop (plain (c.in-Some.first.now ∷ c.in-Some.inside.now)) (c.in-Some.first.now ∷ c.in-Some.inside.now) = cc in
    (rw (word, rest) law.0, omega arith)

pub returns-then-closing-inside : goal.returns-then-closing-inside
returns-then-closing-inside c =
    let here : drop (blanks c.args.text.now) c.args.text.now ≡ 34 ∷ c.in-Some.inside.now = cc (c.in-Some.ensures.cases.0) in
    (open_at c.args.text.now _ here (sym c.quote_end-closing.ensures.value ∙ c.if-closing-inside.true), omega (arith, c.in-Some.ensures.cases.1))

pub returns-then-not-ends_word : goal.returns-then-not-ends_word
returns-then-not-ends_word c =
    let front : c.split_at.result.1.now ≡ 34 ∷ c.in-Some.inside.now = cc (c.in-Some.ensures.cases.0) in
    let here : drop (blanks c.args.text.now) c.args.text.now ≡ 34 ∷ c.in-Some.inside.now = cc in
    let within : quote c.in-Some.inside.now < length c.in-Some.inside.now = rw (sym c.quote_end-closing.ensures.value) (omega arith) in
    let behind = c.in-Some.inside.now in
    let rest : c.split_at-in-Some.result.1.now ≡ drop (quote behind + 2) (34 ∷ behind) = cc in
    let broken : ends_word (drop (quote behind + 2) (34 ∷ behind)) ≡ false = rw (sym rest) (sym c.if-not-ends_word.ensures) in
    (quoted_at c.args.text.now behind here within ∙ rw broken refl, omega arith)

pub returns-else-not-ends_word : goal.returns-else-not-ends_word
returns-else-not-ends_word c =
    let front : c.split_at.result.1.now ≡ 34 ∷ c.in-Some.inside.now = cc (c.in-Some.ensures.cases.0) in
    let here : drop (blanks c.args.text.now) c.args.text.now ≡ 34 ∷ c.in-Some.inside.now = cc in
    let within : quote c.in-Some.inside.now < length c.in-Some.inside.now = rw (sym c.quote_end-closing.ensures.value) (omega arith) in
    let behind = c.in-Some.inside.now in
    let rest : c.split_at-in-Some.result.1.now ≡ drop (quote behind + 2) (34 ∷ behind) = cc in
    let word : c.split_at-in-Some.result.0.now ≡ take (quote behind + 2) (34 ∷ behind) = cc in
    let whole : ends_word (drop (quote behind + 2) (34 ∷ behind)) ≡ true = rw (sym rest) (sym c.if-not-ends_word.ensures) in
    (rw (word, rest) (quoted_at c.args.text.now behind here within ∙ rw whole refl), omega arith)
