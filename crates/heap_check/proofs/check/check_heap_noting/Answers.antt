-- `check_heap_noting` refuses only images that aren't accepted, by the laws of CheckLaws.
use Rattle.heap_check.proofs.CheckLaws.{refuses, refused_by}
use Rattle.heap_check.proofs.check.check_heap_noting.Goals as goal

pub returns-then-is_chained-clause-refused : goal.returns-then-is_chained-clause-refused
returns-then-is_chained-clause-refused c = refused_by c.args.region.now.bytes
    c.check_chained_noting.result c.check_chained_noting.ensures.fault

pub returns-else-is_chained-clause-refused : goal.returns-else-is_chained-clause-refused
returns-else-is_chained-clause-refused c =
    refused_by c.args.region.now.bytes c.check_area.result c.check_area.ensures.fault

pub returns-in-Err-clause-refused : goal.returns-in-Err-clause-refused
returns-in-Err-clause-refused c =
    refuses c.args.region.now.bytes c.in-Err.fault c.in-Err.ensures.fault
