-- `check_bytes` returns the first fault of a file in the order of `file_faults`, by the laws of
-- FaultLaws.
use Rattle.std.proofs.Common.{rules, sym, ◌∙◌}
use Rattle.std.proofs.lemmas.List.{nil_from_length}
use Rattle.pdb_format.proofs.FaultLaws.{unnamed_first}
use Rattle.pdb_format.proofs.faults.check_bytes.Goals as goal

pub returns-then-is_empty-clause-first : goal.returns-then-is_empty-clause-first
returns-then-is_empty-clause-first g c =
    unnamed_first _ (search rules) (search rules)
    (sym c.name_in.ensures ∙ nil_from_length c.name_in.result.now (search rules))
