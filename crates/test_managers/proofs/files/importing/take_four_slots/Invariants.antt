-- What is lent stays lent.
use Rattle.std.proofs.Common.{[], ◌≡◌}
use Rattle.test_managers.proofs.files.importing.take_four_slots.Given as goal

abbrev pub invariant-loop : goal.invariant-loop
invariant-loop l = l.store.lents ≡ l.initial.store.lents
