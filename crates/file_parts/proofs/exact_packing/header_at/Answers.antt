-- `header_at` returns the bytes of the header with these offsets, by the laws of ExactPacked.
use Rattle.file_parts.proofs.AllLaws.{◌<◌, ℕ, length, refl, sym, ap, ◌∙◌, arith, Database, exact_placed, exact_packed, placed_count}
use Rattle.file_parts.proofs.exact_packing.header_at.Goals as goal

pub returns : goal.returns
returns c = λ parts are.
    let exact = c.args.exact.now in
    let d : Database ℕ = exact_placed (exact_packed exact parts) in
    let count = c.requires.count in
    let first : 0 < length c.args.offsets.now = omega arith in
    let second : 1 < length c.args.offsets.now = omega arith in
    c.to_bytes.ensures.is d (record {
      values = refl;
      app_info = are.each 0 first;
      sort_info = are.each 1 second;
      entry_count = ap length c.as_slice.ensures.value ∙ sym (placed_count exact parts);
    })
