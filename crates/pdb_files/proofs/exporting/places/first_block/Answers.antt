-- `first_block` returns the offset of the first block in the file of a database.
use Rattle.pdb_files.proofs.Laws.{◌∙◌, sym, ap, Bool, resources_in, store_of, first_block_is}
use Rattle.pdb_format.specs.Filler.{first_place_after}
use Rattle.pdb_files.proofs.exporting.places.first_block.Goals as goal

pub returns : goal.returns
returns c = c.first_place_after.ensures ∙ ap
    (λ (resources : Bool). first_place_after resources c.entry_count.result) c.has_resources.ensures
    ∙ ap (first_place_after (resources_in c.args.bytes.now)) c.entry_count.ensures
    ∙ sym (first_block_is (store_of c.args.store.now.bytes).map c.args.bytes.now)
