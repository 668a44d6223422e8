use Rattle.std.proofs.Common.{◌≡◌, [], ◌∷◌, drop, sym}
use Rattle.std.proofs.lemmas.List.{nil_from_length}
use Rattle.script_lines.proofs.WordLaws.{blanks, passed_at, passed_none}
use Rattle.script_lines.proofs.text.is_passed_over.Goals as goal

pub returns-in-Some : goal.returns-in-Some
returns-in-Some c =
    let here : drop (blanks c.args.line.now) c.args.line.now ≡ c.in-Some.first.now ∷ c.in-Some.field-0-1.now = cc (c.in-Some.ensures.cases.0) in
    sym (passed_at c.args.line.now _ _ here)

pub returns-in-None : goal.returns-in-None
returns-in-None c =
    let nothing : c.split_at.result.1.now ≡ [] = nil_from_length _ c.in-None.ensures.cases in
    let here : drop (blanks c.args.line.now) c.args.line.now ≡ [] = cc in
    sym (passed_none c.args.line.now here)
