use Rattle.std.proofs.Common.{List, ℕ, Option, get_or, ap, ◌∙◌}
use Rattle.heap_model.specs.Files.{offsets_in}
use Rattle.pdb_format.specs.Blocks.{bytes_at}
use Rattle.file_listing.specs.Listing.{extent_at}
use Rattle.file_listing.proofs.walk.info_of.Goals as goal

pub returns : goal.returns
returns g c =
    let file = c.args.file.now in
    c.extent_of.ensures
    ∙ ap (λ (at : ℕ). extent_at at (bytes_at file c.block.result)) c.offset.ensures.is
    ∙ ap (λ (block : Option (List ℕ)). extent_at (get_or (offsets_in file) c.args.rank 0) block) c.block.ensures.is
