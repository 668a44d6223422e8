use Rattle.std.proofs.Common.{refl}
use Rattle.palm_script.proofs.CallLaws.{never_wants}
use Rattle.palm_script.proofs.calls.do_given.Goals as goal

pub returns-in-Memory-clause-no_memory : goal.returns-in-Memory-clause-no_memory
returns-in-Memory-clause-no_memory g c = never_wants _ _ _ _ _ c.do_memory_call.ensures.answers refl

pub returns-in-Database-clause-no_memory : goal.returns-in-Database-clause-no_memory
returns-in-Database-clause-no_memory g c = λ want. absurd (c.do_database_call.ensures.takes_no_memory want)

pub returns-in-Record-clause-no_memory : goal.returns-in-Record-clause-no_memory
returns-in-Record-clause-no_memory g c = λ want. absurd (c.do_record_call.ensures.takes_no_memory want)

pub returns-in-Resource-clause-no_memory : goal.returns-in-Resource-clause-no_memory
returns-in-Resource-clause-no_memory g c = λ want. absurd (c.do_resource_call.ensures.takes_no_memory want)
