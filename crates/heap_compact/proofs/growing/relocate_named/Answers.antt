-- The chunk moves to a free run, since there is one.
use Rattle.heap_compact.proofs.Laws.{rules, one_of, loose_there, loose_lock, moved_resized, resized_here}
use Rattle.heap_compact.proofs.growing.relocate_named.Goals as goal

pub chunk-found-requires : goal.chunk-found-requires
chunk-found-requires c = record { there = loose_there c.requires.loose }

pub relocate-requires-clause-unlocked : goal.relocate-requires-clause-unlocked
relocate-requires-clause-unlocked c = loose_lock c.holds.ensures.accepted c.requires.loose c.chunk-found.ensures

pub returns : goal.returns
returns c =
    let unlocked = loose_lock c.holds.ensures.accepted c.requires.loose c.chunk-found.ensures in
    let moved = moved_resized c.relocate.new.self.bytes c.chunk-found.result c.args.count c.relocate.result c.holds.ensures.accepted (one_of c.chunk-found.ensures) unlocked c.requires.has_run c.relocate.ensures.no_run c.relocate.ensures.moved in
    let r = resized_here c.relocate.new.self.bytes c.args.count c.chunk-found.ensures moved in
    record { resized = r.0; alone = r.1; rest = search rules; heap = search rules }
