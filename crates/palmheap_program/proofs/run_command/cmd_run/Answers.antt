use Rattle.palmheap_program.proofs.run_command.cmd_run.Goals as goal

-- the region has the image's bytes
pub returns-in-Ok-clause-ends : goal.returns-in-Ok-clause-ends
returns-in-Ok-clause-ends g c = rw c.in-Ok.ensures.bytes at c.run_region_from.ensures.ends

pub returns-in-Ok-clause-done_short : goal.returns-in-Ok-clause-done_short
returns-in-Ok-clause-done_short g c = rw c.in-Ok.ensures.bytes at c.run_region_from.ensures.done_short

pub returns-in-Ok-clause-write_short : goal.returns-in-Ok-clause-write_short
returns-in-Ok-clause-write_short g c = rw c.in-Ok.ensures.bytes at c.run_region_from.ensures.write_short
