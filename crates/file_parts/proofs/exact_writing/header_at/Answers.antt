-- `header_at` returns the bytes of the header with these offsets, by the laws of ExactWritten.
use Rattle.file_parts.proofs.AllWords.{◌<◌, ℕ, length, sym, ◌∙◌, arith, Database, ExactFile, exact_placed}
use Rattle.file_parts.proofs.ExactWritten.{placed_count}
use Rattle.file_parts.proofs.exact_writing.header_at.Goals as goal

pub returns-clause-is : goal.returns-clause-is
returns-clause-is g c =
    let file : ExactFile = g.S.ExactSource.exact c.args.source.now in
    let d : Database ℕ = exact_placed file in
    let are = c.requires.are in
    let count = are.count in
    let first : 0 < length c.args.offsets.now = omega (arith, count) in
    let second : 1 < length c.args.offsets.now = omega (arith, count) in
    c.to_bytes.ensures.is d (record {
      values = c.header-header.ensures.values;
      app_info = are.each 0 first;
      sort_info = are.each 1 second;
      entry_count = c.header-header.ensures.entry_count ∙ sym (placed_count file);
    })
