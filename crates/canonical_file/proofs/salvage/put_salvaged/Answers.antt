-- `put_salvaged` writes the file that is salvaged from a file, and returns its size in bytes, by
-- the laws of FaultLaws, MendedFiles and MendedStarts.
use Rattle.std.proofs.Common.{ℕ, List, length, sym, ap, subst, arith, inl}
use Rattle.heap_model.specs.Files.{HasNoFault}
use Rattle.pdb_format.proofs.FaultLaws.{truncated_first}
use Rattle.canonical_file.specs.Canonical.{HasBlocksOf}
use Rattle.canonical_file.proofs.MendedFiles.{mended_good, mended_long}
use Rattle.canonical_file.proofs.MendedStarts.{mended_source}
use Rattle.canonical_file.proofs.SalvagedFiles.{cut_salvaged, salvage_faults, wrote_long, wrote_salvaged}
use Rattle.canonical_file.proofs.salvage.put_salvaged.Goals as goal

pub returns-then-file-lt-DATABASE_HEADER_SIZE-clause-why : goal.returns-then-file-lt-DATABASE_HEADER_SIZE-clause-why
returns-then-file-lt-DATABASE_HEADER_SIZE-clause-why g c =
    (c.if-file-lt-DATABASE_HEADER_SIZE.true, truncated_first c.args.file.now (inl c.if-file-lt-DATABASE_HEADER_SIZE.true))

pub put_mended-requires-clause-size : goal.put_mended-requires-clause-size
put_mended-requires-clause-size g c =
    let is = ap length c.mended_by.ensures in
    let long = mended_long _ c.know_bytes.ensures c.if-file-lt-DATABASE_HEADER_SIZE.false in
    let size = c.requires in
    omega arith

pub put_mended-requires-clause-good : goal.put_mended-requires-clause-good
put_mended-requires-clause-good g c =
    subst HasNoFault (sym c.mended_by.ensures)
    (mended_good _ c.know_bytes.ensures c.if-file-lt-DATABASE_HEADER_SIZE.false)

pub returns-clause-done : goal.returns-clause-done
returns-clause-done g c =
    wrote_salvaged c.args.rule _ c.mended_by.result g.W.Write.contents c.args.out.now
    c.put_mended.new.out c.put_mended.result c.know_bytes.ensures
    c.if-file-lt-DATABASE_HEADER_SIZE.false c.mended_by.ensures
    c.put_mended.ensures.done

pub returns-clause-header : goal.returns-clause-header
returns-clause-header g c =
    wrote_long c.args.file.now c.put_mended.result c.if-file-lt-DATABASE_HEADER_SIZE.false

pub returns-clause-why : goal.returns-clause-why
returns-clause-why g c =
    salvage_faults c.args.file.now c.mended_by.result _ c.if-file-lt-DATABASE_HEADER_SIZE.false
    (subst HasNoFault (sym c.mended_by.ensures)
    (mended_good _ c.know_bytes.ensures c.if-file-lt-DATABASE_HEADER_SIZE.false))
    c.put_mended.ensures.why

pub returns-clause-write : goal.returns-clause-write
returns-clause-write g c = λ e.
    cut_salvaged c.args.rule _ c.mended_by.result g.W.Write.contents c.args.out.now
    c.put_mended.new.out c.know_bytes.ensures c.if-file-lt-DATABASE_HEADER_SIZE.false
    c.mended_by.ensures
    (c.put_mended.ensures.write e)

pub put_mended-requires-clause-source : goal.put_mended-requires-clause-source
put_mended-requires-clause-source g c =
    rw (← c.mended_by.ensures) at (mended_source _ c.know_bytes.ensures c.if-file-lt-DATABASE_HEADER_SIZE.false)
