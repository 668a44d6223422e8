use Rattle.std.proofs.Common.{List, ℕ, ◌+◌, ◌*◌, drop, subst}
use Rattle.std.specs.Prelude.{SomeIff}
use Rattle.heap_model.specs.Database.{IsDatabaseName}
use Rattle.file_listing.specs.Categories.{fields_at, field_size}
use Rattle.file_listing.proofs.CategoryNames.{found_named}
use Rattle.file_listing.proofs.categories.name_of.Goals as goal

pub returns : goal.returns
returns c =
    found_named (drop (fields_at + field_size * c.args.number) c.args.app.now) c.of_name.result
    (subst (λ (text : List ℕ). SomeIff c.of_name.result (IsDatabaseName text) text) c.text_at.ensures c.of_name.ensures)
