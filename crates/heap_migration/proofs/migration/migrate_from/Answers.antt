use Rattle.std.proofs.Common.{◌≡◌, ◌+◌, ◌≤◌, ℕ, List, length, false, sym, ◌∙◌, arith, inl, inr}
use Rattle.std.proofs.lemmas.Bool.{cases_lt}
use Rattle.heap_model.specs.Frame.{most_size}
use Rattle.heap_model.specs.Slots.{is_chained}
use Rattle.heap_migration.specs.Growth.{growth_of}
use Rattle.heap_migration.proofs.StoreLaws.{is_migrated, grown_accepted}
use Rattle.heap_migration.proofs.migration.migrate_from.Goals as goal

pub returns-in-Ok-clause-migrated : goal.returns-in-Ok-clause-migrated
returns-in-Ok-clause-migrated g c =
    let image : List ℕ = c.args.region.bytes in
    let plain : is_chained image ≡ false = sym c.is_chained.ensures ∙ c.if-is_chained.false in
    let fits : length image + growth_of image ≤ most_size = elim (cases_lt most_size (length image + growth_of image)) [ inl big ↦ let no = c.in-Ok.ensures.too_large.1 big in absurd cc | inr small ↦ omega arith ] in
    is_migrated image c.in-Ok.grown.bytes c.requires.accepted plain fits c.in-Ok.ensures.bytes

pub returns-in-Ok-clause-accepted : goal.returns-in-Ok-clause-accepted
returns-in-Ok-clause-accepted g c =
    let image : List ℕ = c.args.region.bytes in
    let plain : is_chained image ≡ false = sym c.is_chained.ensures ∙ c.if-is_chained.false in
    let fits : length image + growth_of image ≤ most_size = elim (cases_lt most_size (length image + growth_of image)) [ inl big ↦ let no = c.in-Ok.ensures.too_large.1 big in absurd cc | inr small ↦ omega arith ] in
    grown_accepted image c.in-Ok.grown.bytes c.requires.accepted plain fits c.in-Ok.ensures.bytes
