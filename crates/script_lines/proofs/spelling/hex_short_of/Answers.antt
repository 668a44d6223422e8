use Rattle.std.proofs.Common.{◌^◌, ap, ◌∙◌, lit≤}
use Rattle.script_lines.specs.Spellings.{below, number_in}
use Rattle.script_lines.proofs.NumberLaws.{below_below, below_tried}
use Rattle.script_lines.proofs.spelling.hex_short_of.Goals as goal

pub returns : goal.returns
returns c =
    c.ok.ensures.value ∙ below_tried 65536 c.in_ok-hex_of.field-0 c.try_from.result c.try_from.ensures
    ∙ ap (below 65536) c.in_ok-hex_of.ensures ∙ below_below 65536 (2 ^ 32) (number_in 16 8 c.args.word.now) (lit≤ tt)
