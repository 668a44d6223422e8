-- `after_name` returns the bytes after the name in its field, by the contracts of its calls.
use Rattle.file_parts.proofs.AllWords.{◌-◌, List, ℕ, length, drop, take, ap, ◌∙◌, arith, name_in, not_truncated}
use Rattle.std.proofs.lemmas.Slice.{between_is}
use Rattle.file_parts.proofs.exact_text.after_name.Goals as goal

pub returns-clause-is : goal.returns-clause-is
returns-clause-is c =
    let file : List ℕ = c.args.file.now in
    ap (λ xs. take (32 - length xs) (drop (length xs) c.bytes-bytes.result.now))
    c.name-size.ensures.is
    ∙ ap (λ (xs : List ℕ). take (32 - length (name_in file)) (drop (length (name_in file)) xs))
    c.bytes-bytes.ensures.bytes ∙ between_is file (length (name_in file)) 32

pub returns-clause-long : goal.returns-clause-long
returns-clause-long c =
    let room = (not_truncated c.args.file.now c.bytes-bytes.ensures.good).0 in
    omega arith
