-- `put_canonical_from` writes the canonical form of a file, or a prefix of it if a write fails, by
-- the laws of Canonicals.
use Rattle.canonical_file.proofs.Canonicals.{cut_canonical, wrote_canonical}
use Rattle.canonical_file.proofs.canonical.put_canonical_from.Goals as goal

pub returns-clause-done : goal.returns-clause-done
returns-clause-done g c =
    wrote_canonical _ _ g.W.Write.contents c.args.out.now c.put_written.new.out _
    c.know_file.ensures.good c.requires.ids c.put_written.ensures.done

pub returns-clause-write : goal.returns-clause-write
returns-clause-write g c = λ e.
    cut_canonical c.args.file.now c.args.given.now g.W.Write.contents c.args.out.now
    c.put_written.new.out c.know_file.ensures.good c.requires.ids (c.put_written.ensures.write e)
