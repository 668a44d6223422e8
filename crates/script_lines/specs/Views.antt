-- The program's tables of labels, and its values of a line's words, as contracts see them.
use Rattle.std.specs.Prelude.{◌≡◌, Bool, true, false, Option, Some, None}
use Rattle.std.specs.BTreeMap.{get_by, btree_map_len}
use Rattle.std.specs.Cmp.Lexicographic.{slice_cmp}
use Rattle.std.specs.Ordering.{nat_cmp}
use Rattle.script_lines.specs.declared.label.Labels.{Labels}
use Rattle.script_lines.specs.declared.label.LabelTables.{LabelTables}
use Rattle.script_lines.specs.declared.value.Values.{Values}
use Rattle.script_lines.specs.Numbering.{Numbering, Numberings}
use Rattle.script_lines.specs.Kinds.{WordsRead}

-- the numbers that a table of labels has
abbrev pub numbering : Labels → Numbering
numbering labels = record {
  number = λ word. get_by (λ key. slice_cmp nat_cmp word key.items) labels.numbers;
  count = btree_map_len labels.numbers;
}

-- the same for both tables
abbrev pub numberings : LabelTables → Numberings
numberings labels = record { chunks = numbering labels.chunks; databases = numbering labels.databases }

-- the values of a line's words, with the labels
abbrev pub words_read : Values → LabelTables → WordsRead
words_read values labels = record { values = values.values.items; bytes = values.bytes; labels = numberings labels }

-- the result of adding a word: if it is of its kind, the new words; otherwise `is_of_kind` is false
abbrev pub Adds : Option WordsRead → Bool → WordsRead → Type 0
Adds None is_of_kind new = is_of_kind ≡ false
Adds (Some after) is_of_kind new = (is_of_kind ≡ true) × (new ≡ after)
