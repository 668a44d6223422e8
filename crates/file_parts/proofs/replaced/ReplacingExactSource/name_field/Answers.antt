-- `name_field` of `ReplacingExactSource` meets its contract, by the laws of ReplacedFiles.
use Rattle.file_parts.proofs.AllLaws.{◌≤◌, List, ℕ, length, sym, ap, subst, ◌∙◌, take, arith, not_truncated, exactly_in}
use Rattle.file_parts.proofs.replaced.ReplacingExactSource.name_field.Goals as goal

pub copied_name-requires : goal.copied_name-requires
copied_name-requires c =
    let file : List ℕ = c.args.self.now.unpacked.file in
    let header = (not_truncated file c.bytes.ensures.good).0 in
    let whole : 32 ≤ length file = omega arith in
    subst (λ (xs : List ℕ). 32 ≤ length xs) (sym c.bytes.ensures.bytes) whole

pub returns : goal.returns
returns c = c.copied_name.ensures ∙ ap (take 32) c.bytes.ensures.bytes
    ∙ sym (exactly_in _ c.requires).name_field
