-- `keeping_of` returns the file that keeps these things.
use Rattle.file_parts.proofs.AllLaws.{List, ℕ, blocks_in, filler_in, written_filler, is_exactly, filler_either, keeping_is, keeping_ordered, ranks_are, whole_permuted}
use Rattle.file_parts.proofs.KeptSound.{IsWholeOrder, own_order}
use Rattle.file_parts.proofs.kept.keeping_of.Goals as goal

pub returns-clause-good : goal.returns-clause-good
returns-clause-good c =
    let file : List ℕ = c.args.unpacked.file in
    let ranks : List ℕ = c.args.unpacked.ranks.items in
    let g = c.requires.good in
    let whole : IsWholeOrder (blocks_in file) ranks =
    own_order _ _ c.know_file.ensures.numbers (is_exactly file _ g.good g.order) in
    record {
      short = g.short;
      good = g.good;
      numbers = c.know_file.ensures.numbers;
      ids = c.ids_for-ids.ensures.can file c.requires.ids;
      filler = filler_either c.args.keep.filler _
          (filler_in file) written_filler c.filler_for-filler.ensures;
      order = keeping_ordered (record {
        file = file;
        ranks = c.ranks_for-order.result;
        ids = c.ids_for-ids.result;
        filler = c.filler_for-filler.result;
      }) (whole_permuted _ _ c.ranks_for-order.result.items whole c.ranks_for-order.ensures.all);
    }

pub returns-clause-is : goal.returns-clause-is
returns-clause-is c =
    let file : List ℕ = c.args.unpacked.file in
    let ranks : List ℕ = c.args.unpacked.ranks.items in
    let g = c.requires.good in
    let whole : IsWholeOrder (blocks_in file) ranks =
    own_order _ _ c.know_file.ensures.numbers (is_exactly file _ g.good g.order) in
    let listed = c.ranks_for-order.ensures in
    keeping_is c.args.keep (record {
      file = file;
      ranks = c.ranks_for-order.result;
      ids = c.ids_for-ids.result;
      filler = c.filler_for-filler.result;
    }) c.args.given.now.ids.items ranks c.args.given.now.seed (c.ids_for-ids.ensures.ids file)
    (c.ids_for-ids.ensures.seed file) c.filler_for-filler.ensures (ranks_are c.args.keep.order _ _
    c.ranks_for-order.result.items whole listed.kept listed.all listed.sorted)
