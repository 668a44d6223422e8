use Rattle.std.proofs.Common.{◌≡◌, ◌≤◌, ℕ, List, length, take, true}
use Rattle.std.specs.Prelude.{count_by, vec_capacity, vec_len}
use Rattle.palm_text.specs.Counted.{Writes}
use Rattle.script_lines.specs.LineCounts.{byte_count, chunk_label_end, database_label_end, greatest_count, is_export}
use Rattle.script_calls.specs.Lines.{Lines, labelled, setting, tables, unbound}
use Rattle.palm_script.specs.Loans.{LoanStays}
use Rattle.palm_script.proofs.runs.run_from.Given as goal

abbrev pub invariant-loop-line : goal.invariant-loop-line
invariant-loop-line g l = record {
  text : List ℕ;
  ran : Lines (setting (g.A.Allowance.is_short l.memory) l.inputs) (labelled l.fn.store unbound) (take l.line-index l.script) text l.files.items (labelled l.store (tables l.names l.databases));
  stays : LoanStays l.fn.store l.store;
  written : Writes g.W.Write.contents l.fn.out l.out text true;
  room : vec_capacity l.files ≡ count_by is_export l.script;
  used : vec_len l.files ≤ count_by is_export (take l.line-index l.script);
  chunk_labels : length l.names ≡ greatest_count chunk_label_end l.script;
  database_labels : length l.databases ≡ greatest_count database_label_end l.script;
  bytes : length l.buffer ≡ greatest_count byte_count l.script;
}
