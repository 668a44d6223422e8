use Rattle.std.proofs.Common.{◌+◌, ◌∙◌, refl}
use Rattle.script_lines.proofs.ScriptLaws.{has_faulty_line}
use Rattle.script_lines.proofs.reading.parse_from.Goals as goal

pub returns-in-Err-clause-line : goal.returns-in-Err-clause-line
returns-in-Err-clause-line g c = λ other.
    has_faulty_line c.args.text.now (record { line = c.loop-rest.number + 1; fault = c.in-Err.fault })
    (c.loop-rest.invariant.goes_on ∙ rw (c.cut_line-cut.ensures.first, c.in-Err.ensures.err other) refl)
