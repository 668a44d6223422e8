use Rattle.std.proofs.Common.{◌≡◌, ◌++◌, take}
use Rattle.store_commands.specs.FileNames.{bytes_text}
use Rattle.store_commands.proofs.file_names.push_bytes.Given as goal

abbrev pub invariant-loop-index : goal.invariant-loop-index
invariant-loop-index g l = l.text.items ≡ l.fn.text.items ++ bytes_text l.first (take l.index l.bytes)
