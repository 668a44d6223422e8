use Rattle.std.proofs.Common.{refl}
use Rattle.palm_script.proofs.CallLaws.{never_wants}
use Rattle.palm_script.proofs.lines.outcome_of.Goals as goal

pub returns-in-Bind-clause-no_memory : goal.returns-in-Bind-clause-no_memory
returns-in-Bind-clause-no_memory g c = never_wants _ _ _ _ _ c.size_of.ensures refl
