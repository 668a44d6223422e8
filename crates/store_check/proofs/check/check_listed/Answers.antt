-- `check_listed` leaves all slots marked that must be named, by the laws of CheckLaws.
use Rattle.store_check.specs.Naming.{managers_slots}
use Rattle.store_check.proofs.CheckLaws.{listed_named}
use Rattle.store_check.proofs.check.check_listed.Goals as goal

pub returns-in-None-clause-named : goal.returns-in-None-clause-named
returns-in-None-clause-named c = listed_named c.args.region.now.bytes c.requires.accepted
    c.in_default.ensures.none c.in_default-find_bad_header.ensures.none c.in-None.ensures.none

pub returns-in-None-clause-marked : goal.returns-in-None-clause-marked
returns-in-None-clause-marked c =
    c.in-None.ensures.marked (managers_slots c.args.region.now.bytes) c.in_default.ensures.marked
