use Rattle.std.proofs.Common.{List, ℕ, Option, ap, ◌∙◌}
use Rattle.heap_model.specs.Database.{Entry, entry_in}
use Rattle.pdb_format.specs.Blocks.{bytes_at}
use Rattle.file_listing.specs.Listing.{entry_row}
use Rattle.file_listing.proofs.walk.entry_row_at.Goals as goal

pub returns : goal.returns
returns g c =
    let file = c.args.file.now in
    let names = c.args.categories.now in
    let i = c.args.index in
    c.entry_row.ensures
    ∙ ap (λ (entry : Entry ℕ). entry_row names i entry (bytes_at file c.block-block.result)) c.entry.ensures.is
    ∙ ap (λ (block : Option (List ℕ)). entry_row names i (entry_in file i) block) c.block-block.ensures.is
