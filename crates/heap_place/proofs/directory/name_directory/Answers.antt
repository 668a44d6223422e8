-- A movable chunk of the manager's, or none, is named in the directory word.
use Rattle.heap_place.proofs.Laws.{arith, same_bytes, same_lents, rules, directory_written, named_start, keeps_directory, placed_lends}
use Rattle.heap_place.proofs.directory.name_directory.Goals as goal

pub returns : goal.returns
returns c =
    let h = c.requires.heap in let is = same_bytes c.put_directory.ensures.after in
    let done = directory_written _ _ _ h.accepted is (omega arith) c.requires.managers in record {
      names = done.0;
      keeps = keeps_directory h.accepted is done.0;
      plain = done.1;
      rest = search rules;
      heap = record { accepted = done.0.accepted; lent = placed_lends c.args.region.now c.put_directory.new.region h.lent (same_lents c.put_directory.ensures.after) done.0.chunks (named_start _ _ _ done.0) };
    }
