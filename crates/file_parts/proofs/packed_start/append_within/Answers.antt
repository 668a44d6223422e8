-- `append_within` appends bytes, up to `most` bytes in all, by the laws of PackedStarts.
use Rattle.std.proofs.Common.{◌≡◌, ◌-◌, ◌++◌, ℕ, List, length, take, ap, ◌∙◌, arith}
use Rattle.file_parts.proofs.PackedStarts.{onto, within_is}
use Rattle.file_parts.proofs.packed_start.append_within.Goals as goal

pub returns-clause-items : goal.returns-clause-items
returns-clause-items g c =
    let most = c.args.most in
    let old : List ℕ = c.args.bytes.now.items in
    let more : List ℕ = c.args.more.now in
    let same : c.len.result ≡ length old = omega arith in
    onto c.append.result c.append.new.bytes.items _ _
    (ap (λ (n : ℕ). old ++ take n more) c.min.ensures
    ∙ within_is most _ old more c.requires (ap (λ (n : ℕ). most - n) same)) c.append.ensures.items
