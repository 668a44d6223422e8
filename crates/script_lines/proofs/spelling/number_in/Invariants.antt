use Rattle.std.proofs.Common.{◌≡◌, ◌<◌, ◌^◌, drop}
use Rattle.script_lines.specs.Spellings.{number_behind}
use Rattle.script_lines.proofs.spelling.number_in.Given as goal

-- the digits so far spell `number`
abbrev pub invariant-loop-digit : goal.invariant-loop-digit
invariant-loop-digit l = record {
  spelled : number_behind l.base 0 l.digits ≡ number_behind l.base l.number (drop l.digit-index l.digits);
  small : l.number < 2 ^ 36;
}
