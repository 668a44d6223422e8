-- `keep_parts` lays a file out that keeps these things, by the laws of ExactRead and KeptSources.
use Rattle.file_parts.proofs.AllLaws.{List, ℕ, ◌≤◌, length, arith, most_file_bytes, most_bytes, known_of, is_exactly, keep_why, kept_from, kept_size}
use Rattle.file_parts.proofs.kept.keep_parts.Goals as goal

within : (file : List ℕ) → length file ≤ most_bytes → length file ≤ most_file_bytes
within file short = omega arith

pub returns-in-Ok-clause-done : goal.returns-in-Ok-clause-done
returns-in-Ok-clause-done g c =
    let file : List ℕ = c.args.unpacked.file in
    let ranks : List ℕ = c.args.unpacked.ranks.items in
    let good = c.requires.good in
    let known = known_of _ _ _ c.know_file.ensures.numbers
    (within file good.short) good.good c.requires.given in
    record {
      good = c.keeping_of-keeping.ensures.good;
      places = c.in-Ok.ensures.are;
      size = kept_size c.args.keep c.keeping_of-keeping.result _ _ ranks c.args.given.now.ids.items
          c.args.given.now.seed known (is_exactly file _ good.good good.order)
          c.keeping_of-keeping.ensures.is c.in-Ok.ensures.are;
    }

pub returns-in-Ok-clause-keeps : goal.returns-in-Ok-clause-keeps
returns-in-Ok-clause-keeps g c =
    let file : List ℕ = c.args.unpacked.file in
    let ranks : List ℕ = c.args.unpacked.ranks.items in
    let good = c.requires.good in
    let known = known_of _ _ _ c.know_file.ensures.numbers
    (within file good.short) good.good c.requires.given in
    kept_from c.args.keep c.keeping_of-keeping.result _ _ ranks c.args.given.now.ids.items
    c.args.given.now.seed known
    (is_exactly file _ good.good good.order) c.keeping_of-keeping.ensures.is c.in-Ok.ensures.are

pub returns-clause-why : goal.returns-clause-why
returns-clause-why g c =
    let file : List ℕ = c.args.unpacked.file in
    let ranks : List ℕ = c.args.unpacked.ranks.items in
    let good = c.requires.good in
    let known = known_of _ _ _ c.know_file.ensures.numbers
    (within file good.short) good.good c.requires.given in
    keep_why c.args.keep c.keeping_of-keeping.result _ ranks c.args.given.now.ids.items
    c.args.given.now.seed c.in-Err.fault known
    (is_exactly file _ good.good good.order) c.keeping_of-keeping.ensures.is c.in-Err.ensures.large
