use Rattle.std.proofs.Common.{◌≡◌, ◌++◌, drop}
use Rattle.hints.specs.Imports as words
use Rattle.hints.proofs.imports.missing_files.Given as goal

-- the ones so far, and those of the rest
abbrev pub invariant-loop-index : goal.invariant-loop-index
invariant-loop-index g l = words.missing_files l.count l.lines l.numbers ≡ l.missing.items ++ words.missing_files l.count (drop l.index l.lines) (drop l.index l.numbers)
