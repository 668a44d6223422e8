use Rattle.std.proofs.Common.{◌≡◌, ◌<◌, ◌≤◌, [], ◌∷◌, drop, take, length, sym, ◌∙◌, refl, arith, append-nil}
use Rattle.std.proofs.lemmas.List.{nil_from_length}
use Rattle.script_lines.proofs.LineLaws.{feed, lines_ended, lines_last, drop_next}
use Rattle.script_lines.proofs.text.cut_line.Goals as goal

pub returns-in-Some : goal.returns-in-Some
returns-in-Some c =
    let text = c.args.text.now in
    let behind : drop (feed text) text ≡ c.in-Some.field-0-0.now ∷ c.in-Some.rest.now = cc (c.in-Some.ensures.cases.0) in
    let within : feed text < length text = rw (sym c.line_end.ensures.value) (omega (arith, c.in-Some.ensures.cases.1)) in
    let front : c.split_at.result.0.now ≡ take (feed text) text = cc in
    record {
      first = rw (c.without_return.ensures.value, front, sym (drop_next (feed text) _ text _ behind)) (lines_ended text within);
      shorter = omega (arith, c.in-Some.ensures.cases.1);
      within = omega (arith, c.in-Some.ensures.cases.1);
    }

pub returns-in-None : goal.returns-in-None
returns-in-None c =
    let text = c.args.text.now in
    let rest : c.split_at.result.1.now ≡ [] = nil_from_length _ c.in-None.ensures.cases in
    let whole : text ≡ c.split_at.result.0.now = c.split_at.ensures.by_index.0 ∙ rw (rest, append-nil) refl in
    let last : length text ≤ feed text = rw (sym c.line_end.ensures.value) (omega (arith, c.in-None.ensures.cases)) in
    record {
      first = rw (rest, sym whole) (lines_last text c.requires last);
      shorter = omega (arith, c.in-None.ensures.cases);
      within = omega (arith, c.in-None.ensures.cases);
    }
