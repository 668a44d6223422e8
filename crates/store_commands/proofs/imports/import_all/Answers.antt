use Rattle.std.proofs.Common.{◌≡◌, List, ℕ, ap, ◌∙◌, subst}
use Rattle.std.specs.Prelude.{Err}
use Rattle.heap_model.specs.Memory.{Memory}
use Rattle.heap_model.specs.declared.call.Reply.TheVariants.{Database, Refused}
use Rattle.store_commands.specs.Imports.{Imports}
use Rattle.store_commands.specs.declared.imports.NotImported.TheVariants as why
use Rattle.store_commands.proofs.Imported.{imports_next, imports_whole, not_imported_stops, memory_alone}
use Rattle.store_commands.proofs.imports.import_all.Goals as goal

pub loop-index-preserved : goal.loop-index-preserved
loop-index-preserved g c =
    let does = c.in-Ok.ensures.does in
    record {
      imported = imports_next c.args.store.now c.loop-index.store c.import_opened.new.store c.args.files.now c.loop-index.index c.index-files-index.result c.in-Ok.field-0 c.loop-index-test.true c.index-files-index.is c.loop-index.invariant.imported does;
      accepted = does.accepted;
      lent = ap (λ (memory : Memory). memory.lents) does.rest ∙ c.loop-index.invariant.lent;
    }

pub returns-in-Err-clause-why : goal.returns-in-Err-clause-why
returns-in-Err-clause-why g c =
    let does = c.in-Err.ensures.does in
    not_imported_stops c.args.store.now c.loop-index.store c.import_opened.new.store c.args.files.now c.loop-index.index c.index-files-index.result c.in-Err.refusal c.not_imported.result c.loop-index-test.true c.index-files-index.is c.loop-index.invariant.imported does c.not_imported.ensures

pub returns-in-Err-clause-short : goal.returns-in-Err-clause-short
returns-in-Err-clause-short g c = λ same.
    let alone : c.not_imported.result ≡ why.OutOfMemory = cc in
    c.in-Err.ensures.no_memory (ap Err (memory_alone c.loop-index.index c.in-Err.refusal c.not_imported.result c.not_imported.ensures alone))

pub returns-clause-done : goal.returns-clause-done
returns-clause-done g c = imports_whole c.args.store.now c.loop-index.store c.args.files.now c.loop-index.index c.loop-index-test.false c.loop-index.invariant.imported
