-- The bytes before the first zero byte are those that pass.
use Rattle.mem_manager.proofs.Texts.{before_first, without_zero}
use Rattle.mem_manager.proofs.bounds.before_zero.Goals as goal

pub returns-in-Some : goal.returns-in-Some
returns-in-Some c =
    before_first c.args.text.now c.in-Some.end c.in-Some.ensures.0 c.in-Some.ensures.1

pub returns-in-None : goal.returns-in-None
returns-in-None c = without_zero c.args.text.now c.in-None.ensures
