-- One chunk was made.
use Rattle.palm_store.proofs.GainedChunks.{made_sized}
use Rattle.palm_store.proofs.databases.gaining.make_sized.Goals as goal

pub returns-in-Some-clause-made : goal.returns-in-Some-clause-made
returns-in-Some-clause-made c = made_sized _ _ _ _ _ c.in-Some.is c.requires.heap c.sys_new.ensures.made c.sys_new.ensures.lowers
