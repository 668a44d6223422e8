use Rattle.std.proofs.Common.{◌≡◌, ◌<◌, ◌≤◌, ◌+◌, ◌++◌, ◌∷◌, drop, take, length, sym, ◌∙◌, ap, refl, arith}
use Rattle.std.proofs.lemmas.List.{take-append-drop}
use Rattle.script_lines.proofs.LineLaws.{ended_front, feed, lines_ended_front, lines_last, drop_next}
use Rattle.script_lines.proofs.text.cut_ended_line.Goals as goal

pub returns-in-Some-clause-line : goal.returns-in-Some-clause-line
returns-in-Some-clause-line c =
    let text = c.args.text.now in
    let behind : drop (feed text) text ≡ c.in-Some.field-0-0.now ∷ c.in-Some.rest.now = cc (c.in-Some.ensures.cases.0) in
    let within : feed text < length text = rw (sym c.line_end.ensures.value) (omega (arith, c.in-Some.ensures.cases.1)) in
    let line : c.split_at.result.0.now ≡ take (feed text) text = cc in
    let rest : drop (feed text + 1) text ≡ c.in-Some.rest.now = drop_next (feed text) _ text _ behind in
    record {
      front = ended_front text;
      parts = sym (ap (λ l. ended_front text ++ l) (sym rest) ∙ take-append-drop (feed text + 1) text);
      ended = λ more. lines_ended_front text more within ∙ rw (c.without_return.ensures.value, line) refl;
      shorter = omega (arith, c.in-Some.ensures.cases.1);
    }

pub returns-in-None-clause-none : goal.returns-in-None-clause-none
returns-in-None-clause-none c = λ _ some.
    let last : length c.args.text.now ≤ feed c.args.text.now = rw (sym c.line_end.ensures.value) (omega (arith, c.in-None.ensures.cases)) in
    lines_last c.args.text.now some last
