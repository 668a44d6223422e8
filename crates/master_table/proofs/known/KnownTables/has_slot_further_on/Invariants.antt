use Rattle.master_table.proofs.known.KnownTables.has_slot_further_on.Given as goal

abbrev pub invariant-loop-step : goal.invariant-loop-step
invariant-loop-step l = Unit {0}
