-- `put_info_line` writes the line about an info block, if its offset isn't sound, by the laws of
-- SalvageTexts.
use Rattle.std.proofs.Common.{◌++◌}
use Rattle.canonical_file.specs.Salvage.{dropped_at, is_none_or_sound}
use Rattle.canonical_file.proofs.SalvageTexts.{writes_no_word, writes_one_word}
use Rattle.canonical_file.proofs.salvage_lines.put_info_line.Goals as goal

pub returns-then-is_none_or_sound : goal.returns-then-is_none_or_sound
returns-then-is_none_or_sound g c =
    let file = c.args.file.now in
    writes_no_word g.W.Write.contents c.args.out.now c.is_none_or_sound.result
    (is_none_or_sound file c.args.at) (c.args.part.now ++ dropped_at file c.args.at)
    c.is_none_or_sound.ensures c.if-is_none_or_sound.true

pub returns : goal.returns
returns g c =
    let file = c.args.file.now in
    writes_one_word g.W.Write.contents c.args.out.now c.put_dropped.new.out _
    c.is_none_or_sound.result (is_none_or_sound file c.args.at)
    (c.args.part.now ++ dropped_at file c.args.at) c.is_none_or_sound.ensures
    c.if-is_none_or_sound.false
    c.put_dropped.ensures
