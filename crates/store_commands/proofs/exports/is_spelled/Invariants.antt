use Rattle.std.proofs.Common.{◌≡◌, drop}
use Rattle.store_commands.specs.Exports.{is_spelled}
use Rattle.store_commands.proofs.exports.is_spelled.Given as goal

-- the rest of the word has to spell the rest of the name
abbrev pub invariant-loop-byte : goal.invariant-loop-byte
invariant-loop-byte l = is_spelled l.name l.word ≡ is_spelled (drop l.byte-index l.name) l.rest
