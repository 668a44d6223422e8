use Rattle.std.proofs.Common.{◌^◌, ap, ◌∙◌, lit≤}
use Rattle.script_lines.specs.Spellings.{below, spelled_number}
use Rattle.script_lines.proofs.NumberLaws.{below_below, below_tried}
use Rattle.script_lines.proofs.spelling.short_of.Goals as goal

pub returns : goal.returns
returns c =
    c.ok.ensures.value ∙ below_tried 65536 c.in_ok-number_of.field-0 c.try_from.result c.try_from.ensures
    ∙ ap (below 65536) c.in_ok-number_of.ensures ∙ below_below 65536 (2 ^ 32) (spelled_number c.args.word.now) (lit≤ tt)
