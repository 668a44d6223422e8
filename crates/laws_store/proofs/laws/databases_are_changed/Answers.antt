-- The numbers are distinct, so the change by number is the change at the index.
use Rattle.std.proofs.Common.{ap, ◌∙◌}
use Rattle.std.proofs.lemmas.Option.{slice_get_within, get_or_from_slice_get}
use Rattle.std.specs.Prelude.{slice_set}
use Rattle.heap_model.specs.Store.{numbers_of}
use Rattle.laws_store.proofs.Times.{distinct-times}
use Rattle.laws_store.proofs.Found.{changed_by_number}
use Rattle.laws_store.proofs.laws.databases_are_changed.Goals as goal

pub returns : goal.returns
returns c stored db index one change distinct at number =
    let here = get_or_from_slice_get stored index one one at in
    changed_by_number db change stored index one (distinct-times (numbers_of stored) distinct db)
    (slice_get_within stored index one at) (ap (λ s. s.db) here ∙ number)
    ∙ ap (λ s. slice_set stored index (record { db = db; database = change s.database })) here
