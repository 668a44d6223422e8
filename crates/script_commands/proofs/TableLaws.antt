-- Commands found in tables, one after the other.
use Rattle.std.proofs.Common.{◌≡◌, List, [], ◌∷◌, ◌++◌, Bool, true, false, cond, refl}
use Rattle.std.specs.Prelude.{Some, None}
use Rattle.std.specs.List.{find}
use Rattle.script_commands.specs.declared.command.Command.{Command}

-- what the first of two tables doesn't have is looked for in the second
pub found_behind : (test : Command → Bool) (first second : List Command) → find test first ≡ None → find test (first ++ second) ≡ find test second
found_behind test [] second none = refl
found_behind test (command ∷ first) second none = by (test command) (found_behind test first second) none where
  by : (here : Bool) → (find test first ≡ None → find test (first ++ second) ≡ find test second) → cond here (Some command) (find test first) ≡ None → cond here (Some command) (find test (first ++ second)) ≡ find test second
  by true rest none = absurd cc
  by false rest none = rest none

-- what the first of two tables has is found in both
pub found_in_front : (test : Command → Bool) (first second : List Command) (found : Command) → find test first ≡ Some found → find test (first ++ second) ≡ Some found
found_in_front test [] second found there = absurd cc
found_in_front test (command ∷ first) second found there = by (test command) (found_in_front test first second found) there where
  by : (here : Bool) → (find test first ≡ Some found → find test (first ++ second) ≡ Some found) → cond here (Some command) (find test first) ≡ Some found → cond here (Some command) (find test (first ++ second)) ≡ Some found
  by true rest there = there
  by false rest there = rest there
