use Rattle.test_formats.proofs.heap.slots.look_up.Goals as goal

pub slots_before-requires-clause-tiled : goal.slots_before-requires-clause-tiled
slots_before-requires-clause-tiled c = (c.in-Ok.ensures.accepted.0, c.in-Ok.ensures.accepted.1.tiles)

pub resolve-requires-clause-tiled : goal.resolve-requires-clause-tiled
resolve-requires-clause-tiled c = (c.in-Ok.ensures.accepted.0, c.in-Ok.ensures.accepted.1.tiles)
