-- The chunk moves to a free run, or a stretch is packed for it.
use Rattle.heap_compact.proofs.Laws.{alone_one, run_resized, run_not_short, resized_here}
use Rattle.heap_compact.proofs.growing.resize_by_moving.Goals as goal

pub returns-then-relocate-clause-resized : goal.returns-then-relocate-clause-resized
returns-then-relocate-clause-resized c =
    (resized_here c.relocate.new.self.bytes c.args.count c.requires.found
    (run_resized c.holds.ensures.accepted c.requires.found c.requires.unlocked c.if-relocate.ensures.moved)).0

pub returns-then-relocate-clause-not_short : goal.returns-then-relocate-clause-not_short
returns-then-relocate-clause-not_short c = run_not_short c.if-relocate.ensures.moved

pub returns-then-relocate-clause-one_stretch : goal.returns-then-relocate-clause-one_stretch
returns-then-relocate-clause-one_stretch c =
    alone_one c.args.space.now.bytes c.relocate.new.self.bytes c.args.found.name.0
    (resized_here c.relocate.new.self.bytes c.args.count c.requires.found
    (run_resized c.holds.ensures.accepted c.requires.found c.requires.unlocked c.if-relocate.ensures.moved)).1
