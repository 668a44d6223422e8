use Rattle.std.proofs.Common.{◌≡◌, take}
use Rattle.std.specs.Prelude.{All}
use Rattle.heap_model.specs.Files.{HasNoFault}
use Rattle.store_commands.proofs.imports.open_files.Given as goal

-- the first files are opened, and have no fault
abbrev pub invariant-loop-index : goal.invariant-loop-index
invariant-loop-index g l = record {
  same : l.opened.items ≡ take l.index l.files;
  good : All HasNoFault (take l.index l.files);
}
