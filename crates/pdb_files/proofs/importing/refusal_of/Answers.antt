-- `refusal_of` returns the refusal of a file that has a fault.
use Rattle.pdb_files.proofs.Laws.{subst, rules, Import, refused, fault_brings, front_brings}
use Rattle.heap_model.specs.declared.call.Call.TheVariants as calls
use Rattle.pdb_format.specs.OpenFaults.{IsOpenFault}
use Rattle.pdb_files.proofs.importing.refusal_of.Goals as goal

pub returns-in-BadFile-clause-does : goal.returns-in-BadFile-clause-does
returns-in-BadFile-clause-does c =
    let first = subst (IsOpenFault c.args.file.now) c.in-BadFile.is c.requires in
    refused c.args.store.now (calls.File (Import c.args.file.now)) _ (search rules) (front_brings
    c.args.store.now c.args.file.now _ (fault_brings c.args.file.now c.in-BadFile.fault _ first))
