-- The chunk of a database is a movable one.
use Rattle.palm_store.proofs.Numbers.{number_movable}
use Rattle.palm_store.proofs.lookup.header.opened_of.Goals as goal

pub sys_find-requires : goal.sys_find-requires
sys_find-requires c = number_movable _ _ c.requires.accepted c.requires.number
