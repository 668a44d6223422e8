use Rattle.std.proofs.Common.{Bool, rules, subst, inr, true, false}
use Rattle.heap_model.specs.Memory.{Memory}
use Rattle.heap_migration.specs.FaultNames.{migrate_fault_name}
use Rattle.heap_migration.specs.Stores.{IsTooLarge}
use Rattle.heap_migration.specs.declared.migration.MigrateFault.TheVariants.{TooLarge}
use Rattle.palm_text.specs.Counted.{Writing}
use Rattle.palm_text.specs.Output.{Puts, output}
use Rattle.program_io.specs.BadLines.{bad_line}
use Rattle.store_commands.specs.Migrating.{PutsNotMigrated}
use Rattle.store_commands.proofs.migrate_command.migrated.Given.{Over}
use Rattle.store_commands.proofs.migrate_command.migrated.Goals as goal

-- the line of an image that is too large
said_so : (g : Over) (c : goal.Joined-this-3 g) (ok : Bool) → Puts g.V.Write.contents c.opened.new.out c.say_not_migrated.new.out (bad_line (migrate_fault_name TooLarge)) ok → PutsNotMigrated c.args.region.bytes (output g.V.Write.contents c.args.out.now c.say_not_migrated.new.out) ok
said_so g c ok puts =
    let large : IsTooLarge c.in_ok-store.store.bytes = (c.in-Err-TooLarge-default.ensures.too_large (search rules)).0 (search rules) in
    inr (c.in_ok-store.ensures.accepted, subst (λ (memory : Memory). IsTooLarge memory.bytes) c.in_ok-store.ensures.store large, subst (λ (w : Writing g.row.V.Denot). Puts g.V.Write.contents w c.say_not_migrated.new.out (bad_line (migrate_fault_name TooLarge)) ok) c.in_ok-store.ensures.silent puts)

pub returns-in-Err-TooLarge-default-clause-said : goal.returns-in-Err-TooLarge-default-clause-said
returns-in-Err-TooLarge-default-clause-said g c = λ is. said_so g c true (c.say_not_migrated.ensures.said (search rules))

pub returns-in-Err-TooLarge-default-clause-write : goal.returns-in-Err-TooLarge-default-clause-write
returns-in-Err-TooLarge-default-clause-write g c = λ is. said_so g c false (c.say_not_migrated.ensures.write (search rules))
