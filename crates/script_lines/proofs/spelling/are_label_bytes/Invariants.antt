use Rattle.std.proofs.Common.{◌≡◌, true, take}
use Rattle.std.specs.List.{list_all}
use Rattle.script_lines.specs.Spellings.{is_label_byte}
use Rattle.script_lines.proofs.spelling.are_label_bytes.Given as goal

abbrev pub invariant-loop-byte : goal.invariant-loop-byte
invariant-loop-byte l = list_all is_label_byte (take l.byte-index l.bytes) ≡ true
