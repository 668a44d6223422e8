use Rattle.std.proofs.Common.{◌≡◌, ◌≤◌}
use Rattle.file_commands.specs.Parts.{parts_below}
use Rattle.file_commands.proofs.folders.write_parts.Given as goal

-- `made.ranks` ranks are done, and `made.files` of them have a part
abbrev pub invariant-loop-rank : goal.invariant-loop-rank
invariant-loop-rank g l = record {
  ranks : l.made.ranks ≡ l.rank;
  files : l.made.files ≡ parts_below l.unpacked l.made.ranks;
  few : l.made.files ≤ l.made.ranks;
}
