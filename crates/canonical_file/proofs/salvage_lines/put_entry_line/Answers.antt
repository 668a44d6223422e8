-- `put_entry_line` writes the line about an entry, if it isn't sound, by the laws of SalvageTexts
-- and WholeEntries.
use Rattle.std.proofs.Common.{List, ℕ, true, subst}
use Rattle.std.specs.Prelude.{is_ok}
use Rattle.palm_text.specs.Counted.{Writes}
use Rattle.heap_model.specs.Database.{entry_data}
use Rattle.db_format.specs.EitherEntry.{entry_of}
use Rattle.canonical_file.specs.Salvage.{dropped_entry, is_sound_entry}
use Rattle.canonical_file.proofs.SalvageTexts.{entry_word, writes_no_word, writes_one_word}
use Rattle.canonical_file.proofs.WholeEntries.{whole_entry}
use Rattle.canonical_file.proofs.salvage_lines.put_entry_line.Goals as goal

pub read-entry-requires-clause-inside : goal.read-entry-requires-clause-inside
read-entry-requires-clause-inside g c =
    whole_entry c.args.file.now c.args.index c.requires.header c.requires.whole

pub returns-then-is_sound_entry : goal.returns-then-is_sound_entry
returns-then-is_sound_entry g c =
    let file = c.args.file.now in
    let entry = entry_of c.read-entry.result in
    subst (λ (text : List ℕ). Writes g.W.Write.contents c.args.out.now c.args.out.now text true)
    (entry_word file c.args.index entry c.read-entry.ensures.is)
    (writes_no_word g.W.Write.contents c.args.out.now c.is_sound_entry.result
    (is_sound_entry file entry) (dropped_entry file c.args.index (entry_data entry))
    c.is_sound_entry.ensures c.if-is_sound_entry.true)

pub returns : goal.returns
returns g c =
    let file = c.args.file.now in
    let entry = entry_of c.read-entry.result in
    subst (λ (text : List ℕ).
    Writes g.W.Write.contents c.args.out.now c.put_dropped_entry.new.out text
    (is_ok c.put_dropped_entry.result)) (entry_word file c.args.index entry c.read-entry.ensures.is)
    (writes_one_word g.W.Write.contents c.args.out.now c.put_dropped_entry.new.out (is_ok c.put_dropped_entry.result) c.is_sound_entry.result (is_sound_entry file entry) (dropped_entry file c.args.index (entry_data entry)) c.is_sound_entry.ensures c.if-is_sound_entry.false
    (rw c.slot.ensures at c.put_dropped_entry.ensures))
